use Rattle.std.proofs.Common.{◌≡◌, ◌++◌, drop, not}
use Rattle.std.specs.Prelude.{filter, nat_eq}
use Rattle.gl_value.specs.Value.{same, property}
use Rattle.gl_value.specs.View.{view, seen_items}
use Rattle.gl_helpers.proofs.lists.without_property.Given as goal

-- what is made so far, and what is left to make, are the whole
abbrev pub invariant-loop-item : goal.invariant-loop-item
invariant-loop-item l = l.list ++ filter (λ v. not (same nat_eq (property l.name v) (view l.value))) (seen_items (drop l.item-index l.items)) ≡ filter (λ v. not (same nat_eq (property l.name v) (view l.value))) (seen_items l.items)
