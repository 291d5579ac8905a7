use Rattle.std.proofs.Common.{◌≡◌, drop}
use Rattle.std.specs.Prelude.{nat_eq}
use Rattle.std.specs.List.{list_any}
use Rattle.gl_value.specs.Value.{same}
use Rattle.gl_value.specs.View.{view, seen_items}
use Rattle.gl_helpers.proofs.lists.includes.Given as goal

-- what is left decides
abbrev pub invariant-loop-item : goal.invariant-loop-item
invariant-loop-item l = list_any (λ v. same nat_eq v (view l.value)) (seen_items l.items) ≡ list_any (λ v. same nat_eq v (view l.value)) (seen_items (drop l.item-index l.items))
