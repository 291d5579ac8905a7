use Rattle.std.proofs.Common.{◌≡◌, ◌++◌, drop}
use Rattle.gl_value.specs.View.{seen_items}
use Rattle.gl_actions.proofs.givens.joined_values.Given as goal

abbrev pub invariant-loop-value : goal.invariant-loop-value
invariant-loop-value l = seen_items l.list.items ++ seen_items (drop l.value-index l.fixed) ≡ seen_items l.fixed

abbrev pub invariant-loop-value-2 : goal.invariant-loop-value-2
invariant-loop-value-2 l = seen_items l.list.items ≡ seen_items l.fixed ++ seen_items l.yielded
