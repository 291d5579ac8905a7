use Rattle.std.proofs.Common.{map, take}
use Rattle.gl_machine.specs.Code.{lives_of, items_of}
use Rattle.gl_vm.specs.View.{Tables}
use Rattle.gl_code.specs.CodeView.{seen_code, seen_item_code, all_codes, all_items}
use Rattle.gl_live.specs.Counting.{weigh_in, weigh_items, Counts}
use Rattle.gl_live.proofs.counting.+counting.Given as goal

abbrev pub invariant-in_codes-loop-code : goal.invariant-in_codes-loop-code
invariant-in_codes-loop-code l = (n : Tables) → Counts l.sum (λ a b. weigh_in a b (lives_of (all_codes (map (seen_code n) (take l.code-index l.code-items)))))

abbrev pub invariant-in_items-loop-item : goal.invariant-in_items-loop-item
invariant-in_items-loop-item l = (n : Tables) → Counts l.sum (λ a b. weigh_items a b (items_of (all_items (map (seen_item_code n) (take l.item-index l.item-items)))))
