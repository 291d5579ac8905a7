use Rattle.std.proofs.Common.{◌≡◌, ◌++◌, drop}
use Rattle.std.specs.Prelude.{filter, nat_eq}
use Rattle.gl_value.specs.Value.{same, property}
use Rattle.gl_value.specs.View.{view, seen_items}
use Rattle.gl_helpers.proofs.lists.with_property.Given as goal

-- what is made so far, and what is left to make, are the whole
abbrev pub invariant-loop-item : goal.invariant-loop-item
invariant-loop-item l = l.list ++ filter (λ v. same nat_eq (property l.name v) (view l.value)) (seen_items (drop l.item-index l.items)) ≡ filter (λ v. same nat_eq (property l.name v) (view l.value)) (seen_items l.items)
