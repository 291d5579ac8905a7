use Rattle.std.proofs.Common.{◌≡◌, length}
use Rattle.std.specs.Prelude.{nat_eq}
use Rattle.gl_value.specs.Value.{same_values, same_members, values_of, pairs_of}
use Rattle.gl_value.specs.View.{seen_items, seen_pairs}
use Rattle.gl_value.proofs.value.+same.Given as goal

-- what is left decides
abbrev pub invariant-List::same-loop-item : goal.invariant-List::same-loop-item
invariant-List::same-loop-item l =
    (same_values nat_eq (values_of l.self) (values_of l.other) ≡ same_values nat_eq (values_of (seen_items l.item-iterator.a.rest.now)) (values_of (seen_items l.item-iterator.b.rest.now)))
    × (length l.item-iterator.a.rest.now ≡ length l.item-iterator.b.rest.now)

abbrev pub invariant-Record::same-loop-pair : goal.invariant-Record::same-loop-pair
invariant-Record::same-loop-pair l =
    (same_members nat_eq (pairs_of l.self) (pairs_of l.other) ≡ same_members nat_eq (pairs_of (seen_pairs l.pair-iterator.a.rest.now)) (pairs_of (seen_pairs l.pair-iterator.b.rest.now)))
    × (length l.pair-iterator.a.rest.now ≡ length l.pair-iterator.b.rest.now)
