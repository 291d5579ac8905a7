use Rattle.std.proofs.Common.{◌≡◌, ◌+◌, ◌*◌, drop}
use Rattle.std.specs.Prelude.{nat_lt}
use Rattle.gl_value.specs.Value.{values_depth, members_depth, values_of, pairs_of}
use Rattle.gl_value.specs.View.{seen_items, seen_pairs}
use Rattle.gl_helpers.proofs.depth.+deeper.Given as goal

abbrev pub decreases-is_deeper : goal.decreases-is_deeper
decreases-is_deeper l = 2 * l.most

abbrev pub decreases-has_deeper_item : goal.decreases-has_deeper_item
decreases-has_deeper_item l = 2 * l.most + 1

abbrev pub decreases-has_deeper_member : goal.decreases-has_deeper_member
decreases-has_deeper_member l = 2 * l.most + 1

-- what is left decides
abbrev pub invariant-has_deeper_item-loop-item : goal.invariant-has_deeper_item-loop-item
invariant-has_deeper_item-loop-item l = nat_lt l.most (values_depth (values_of (seen_items l.items))) ≡ nat_lt l.most (values_depth (values_of (seen_items (drop l.item-index l.items))))

abbrev pub invariant-has_deeper_member-loop-pair : goal.invariant-has_deeper_member-loop-pair
invariant-has_deeper_member-loop-pair l = nat_lt l.most (members_depth (pairs_of (seen_pairs l.pairs))) ≡ nat_lt l.most (members_depth (pairs_of (seen_pairs (drop l.pair-index l.pairs))))
