use Rattle.std.proofs.Common.{◌≡◌, ◌++◌, map, drop}
use Rattle.std.specs.Str.{chars}
use Rattle.gl_machine.specs.Code.{lives_of, items_of}
use Rattle.gl_vm.specs.View.{Tables}
use Rattle.gl_code.specs.CodeView.{seen_code, seen_item_code, all_codes, all_items}
use Rattle.gl_actions.specs.Heard.{spots_among, spots_of_items, called_of}
use Rattle.gl_actions.proofs.hearing.+hearing.Given as goal

-- what is left decides
abbrev pub invariant-hear_codes-loop-code : goal.invariant-hear_codes-loop-code
invariant-hear_codes-loop-code l = (n : Tables) → l.acts ++ called_of l.heard.vm.now.mods (chars l.heard.event.now) (spots_among l.heard.number (lives_of (all_codes (map (seen_code n) (drop l.code-index l.code-items)))))
    ≡ l.fn.acts ++ called_of l.heard.vm.now.mods (chars l.heard.event.now) (spots_among l.heard.number (lives_of (all_codes (map (seen_code n) l.code-items))))

abbrev pub invariant-hear_items-loop-item : goal.invariant-hear_items-loop-item
invariant-hear_items-loop-item l = (n : Tables) → l.acts ++ called_of l.heard.vm.now.mods (chars l.heard.event.now) (spots_of_items l.heard.number (items_of (all_items (map (seen_item_code n) (drop l.item-index l.item-items)))))
    ≡ l.fn.acts ++ called_of l.heard.vm.now.mods (chars l.heard.event.now) (spots_of_items l.heard.number (items_of (all_items (map (seen_item_code n) l.item-items))))
