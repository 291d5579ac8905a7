use Rattle.std.proofs.Common.{◌≡◌, ◌++◌, drop}
use Rattle.gl_actions.specs.View.{seen_sets}
use Rattle.gl_actions.proofs.sets.copied.Given as goal

abbrev pub invariant-loop-set : goal.invariant-loop-set
invariant-loop-set l = seen_sets l.list.items ++ seen_sets (drop l.set-index l.sets) ≡ seen_sets l.sets
