use Rattle.std.proofs.Common.{◌≡◌, drop}
use Rattle.gl_value.specs.Plain.{are_plain, have_plain}
use Rattle.gl_value.specs.Value.{values_of, pairs_of}
use Rattle.gl_value.specs.View.{seen_items, seen_pairs}
use Rattle.gl_value.proofs.value.+actionless.Given as goal

-- what is left decides
abbrev pub invariant-List::is_plain-loop-item : goal.invariant-List::is_plain-loop-item
invariant-List::is_plain-loop-item l = are_plain (values_of (seen_items (drop l.item-index l.item-items))) ≡ are_plain (values_of l.self)

abbrev pub invariant-Record::is_plain-loop-pair : goal.invariant-Record::is_plain-loop-pair
invariant-Record::is_plain-loop-pair l = have_plain (pairs_of (seen_pairs (drop l.pair-index l.pair-items))) ≡ have_plain (pairs_of l.self)
