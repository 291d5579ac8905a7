use Rattle.std.proofs.Common.{◌≡◌, ◌++◌, map, drop}
use Rattle.gl_vm.specs.View.{name_stamps}
use Rattle.gl_parts.proofs.modifiers.names_in.Given as goal

abbrev pub invariant-loop-entry : goal.invariant-loop-entry
invariant-loop-entry l = l.names ++ map (λ y. y.0) (name_stamps (drop l.entry-index l.named)) ≡ map (λ y. y.0) (name_stamps l.named)
