use Rattle.std.proofs.Common.{◌≡◌, take}
use Rattle.gl_value.specs.View.{seen_items}
use Rattle.gl_value.proofs.list.copied.Given as goal

-- what is copied so far is a copy of the first values
abbrev pub invariant-loop-item : goal.invariant-loop-item
invariant-loop-item l = seen_items l.copies.items ≡ seen_items (take l.item-index l.item-items)
