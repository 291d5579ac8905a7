use Rattle.std.proofs.Common.{◌≡◌, drop}
use Rattle.gl_meaning.specs.View.{seen_classes}
use Rattle.gl_gone.specs.Lines.{entry_named}
use Rattle.gl_gone.proofs.lookup.class_named.Given as goal

-- what is left decides
abbrev pub invariant-loop-class : goal.invariant-loop-class
invariant-loop-class l = entry_named l.name (seen_classes (drop l.class-index l.classes)) ≡ entry_named l.name (seen_classes l.classes)
