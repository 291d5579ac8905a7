use Rattle.std.proofs.Common.{◌≡◌, drop}
use Rattle.gl_meaning.specs.View.{seen_classes}
use Rattle.gl_load.specs.Load.{class_named}
use Rattle.gl_load.proofs.programs.root_of.Given as goal

-- the class is sought among those that are left
abbrev pub invariant-loop-class : goal.invariant-loop-class
invariant-loop-class l = class_named l.manifest.root (seen_classes (drop l.class-index l.class-items)) ≡ class_named l.manifest.root l.manifest.classes
