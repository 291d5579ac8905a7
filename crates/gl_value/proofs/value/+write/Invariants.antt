use Rattle.std.proofs.Common.{◌≡◌, ◌++◌, drop, false}
use Rattle.gl_value.specs.Value.{texts_of, values_of}
use Rattle.gl_value.specs.View.{seen_items}
use Rattle.gl_value.proofs.value.+write.Given as goal

-- the text so far and that of what is left are the whole text
abbrev pub invariant-List::write-loop-item : goal.invariant-List::write-loop-item
invariant-List::write-loop-item l = l.out ++ texts_of l.later (values_of (seen_items (drop l.item-index l.item-items))) ≡ l.initial.out ++ texts_of false (values_of l.self)
