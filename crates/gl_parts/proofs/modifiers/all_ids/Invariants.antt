use Rattle.std.proofs.Common.{◌≡◌, ◌++◌, map, drop}
use Rattle.gl_vm.specs.View.{stamps, name_stamps}
use Rattle.gl_parts.proofs.modifiers.all_ids.Given as goal

abbrev pub invariant-loop-id : goal.invariant-loop-id
invariant-loop-id l = stamps l.ids ++ stamps (drop l.id-index l.args) ≡ stamps l.args

abbrev pub invariant-loop-entry : goal.invariant-loop-entry
invariant-loop-entry l = stamps l.ids ++ map (λ y. y.1) (name_stamps (drop l.entry-index l.named)) ≡ stamps l.args ++ map (λ y. y.1) (name_stamps l.named)
