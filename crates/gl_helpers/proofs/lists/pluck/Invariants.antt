use Rattle.std.proofs.Common.{◌≡◌, ◌++◌, drop, map}
use Rattle.gl_value.specs.Value.{property}
use Rattle.gl_value.specs.View.{seen_items}
use Rattle.gl_helpers.proofs.lists.pluck.Given as goal

-- what is made so far, and what is left to make, are the whole
abbrev pub invariant-loop-item : goal.invariant-loop-item
invariant-loop-item l = l.list ++ map (property l.name) (seen_items (drop l.item-index l.items)) ≡ map (property l.name) (seen_items l.items)
