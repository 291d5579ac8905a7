use Rattle.std.proofs.Common.{◌≡◌, drop}
use Rattle.serde_json.specs.View.{items_view, members_view}
use Rattle.gl_value.specs.Json.{first_bad_item, first_bad_member}
use Rattle.gl_value.proofs.json.+bad.Given as goal

-- what is left decides
abbrev pub invariant-first_bad_item-loop-item : goal.invariant-first_bad_item-loop-item
invariant-first_bad_item-loop-item l = first_bad_item (items_view l.items.items) ≡ first_bad_item (items_view (drop l.item-index l.item-items))

abbrev pub invariant-first_bad_member-loop-member : goal.invariant-first_bad_member-loop-member
invariant-first_bad_member-loop-member l =
    (goal.iterator-first_bad_member-loop-member).can_next l.member-iterator × (goal.iterator-first_bad_member-loop-member).is_finite l.member-iterator
    × (first_bad_member (members_view l.members.entries) ≡ first_bad_member (members_view l.member-iterator))
