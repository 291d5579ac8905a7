use Rattle.std.proofs.Common.{◌≡◌, ◌++◌, drop}
use Rattle.gl_value.specs.View.{seen_items}
use Rattle.gl_helpers.proofs.lists.copies.Given as goal

-- what is made so far, and what is left to make, are the whole
abbrev pub invariant-loop-value : goal.invariant-loop-value
invariant-loop-value l = l.list ++ seen_items (drop l.value-index l.values) ≡ seen_items l.values
