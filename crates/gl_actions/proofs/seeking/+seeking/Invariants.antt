use Rattle.std.proofs.Common.{◌≡◌, map, drop}
use Rattle.gl_machine.specs.Code.{lives_of, items_of}
use Rattle.gl_vm.specs.View.{Tables}
use Rattle.gl_code.specs.CodeView.{seen_code, seen_item_code, all_codes, all_items}
use Rattle.gl_actions.specs.Found.{instance_among, instance_of_items}
use Rattle.gl_actions.proofs.seeking.+seeking.Given as goal

-- what is left decides
abbrev pub invariant-seek_codes-loop-code : goal.invariant-seek_codes-loop-code
invariant-seek_codes-loop-code l = (n : Tables) → instance_among l.sought.number (lives_of (all_codes (map (seen_code n) (drop l.code-index l.code-items)))) ≡ instance_among l.sought.number (lives_of (all_codes (map (seen_code n) l.code-items)))

abbrev pub invariant-seek_items-loop-item : goal.invariant-seek_items-loop-item
invariant-seek_items-loop-item l = (n : Tables) → instance_of_items l.sought.number (items_of (all_items (map (seen_item_code n) (drop l.item-index l.item-items)))) ≡ instance_of_items l.sought.number (items_of (all_items (map (seen_item_code n) l.item-items)))
