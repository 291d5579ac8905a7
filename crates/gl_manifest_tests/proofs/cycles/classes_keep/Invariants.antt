use Rattle.std.proofs.Common.{drop}
use Rattle.gl_meaning.specs.ManifestRules.{Each, ClassKeeps}
use Rattle.gl_meaning.specs.View.{seen_classes}
use Rattle.gl_manifest_tests.proofs.cycles.classes_keep.Given as goal

-- what is left decides
abbrev pub invariant-loop-class : goal.invariant-loop-class
invariant-loop-class l = Each ClassKeeps (seen_classes (drop l.class-index l.classes)) → Each ClassKeeps (seen_classes l.classes)
