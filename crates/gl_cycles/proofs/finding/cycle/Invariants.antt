use Rattle.std.proofs.Common.{List, Option, drop}
use Rattle.gl_base.specs.Texts.{Text}
use Rattle.gl_ast.specs.Template.{Body}
use Rattle.gl_meaning.specs.ManifestRules.{Each, ClassKeeps}
use Rattle.gl_meaning.specs.View.{seen_classes}
use Rattle.gl_cycles.proofs.Firsts.{IsLeft}
use Rattle.gl_cycles.proofs.finding.cycle.Given as goal

-- the answer for what is left is the answer
abbrev pub invariant-loop-class : goal.invariant-loop-class
invariant-loop-class l = record {
  keep : Each ClassKeeps (seen_classes (drop l.class-index l.class-items));
  decides : (o : Option (Text × Text)) → ((bs : List Body) → IsLeft (seen_classes (drop l.class-index l.class-items)) bs o) → (bs : List Body) → IsLeft (seen_classes l.class-items) bs o;
}
