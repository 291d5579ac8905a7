use Rattle.std.proofs.Common.{◌≡◌, take, map}
use Rattle.gl_value.specs.Value.{plain}
use Rattle.gl_value.specs.Plain.{plain_pair}
use Rattle.gl_value.specs.View.{seen_items, seen_pairs}
use Rattle.gl_value.proofs.value.+plain.Given as goal

abbrev pub invariant-List::plain-loop-item : goal.invariant-List::plain-loop-item
invariant-List::plain-loop-item l = seen_items l.list.items ≡ map plain (seen_items (take l.item-index l.item-items))

abbrev pub invariant-Record::plain-loop-pair : goal.invariant-Record::plain-loop-pair
invariant-Record::plain-loop-pair l = seen_pairs l.list.items ≡ map plain_pair (seen_pairs (take l.pair-index l.pair-items))
