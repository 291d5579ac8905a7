use Rattle.std.proofs.Common.{◌≡◌, ◌++◌, drop}
use Rattle.gl_value.specs.View.{seen_items}
use Rattle.gl_helpers.proofs.actions.push_all.Given as goal

-- what is there so far, and what is left to add, are the whole
abbrev pub invariant-loop-value : goal.invariant-loop-value
invariant-loop-value l = l.list ++ seen_items (drop l.value-index l.values) ≡ l.fn.list ++ seen_items l.values
