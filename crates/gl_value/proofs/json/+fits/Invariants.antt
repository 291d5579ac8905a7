use Rattle.std.proofs.Common.{◌≡◌, drop}
use Rattle.serde_json.specs.View.{items_view, members_view}
use Rattle.gl_value.specs.Json.{items_fit, members_fit}
use Rattle.gl_value.proofs.json.+fits.Given as goal

-- what is left decides
abbrev pub invariant-items_fit-loop-item : goal.invariant-items_fit-loop-item
invariant-items_fit-loop-item l = items_fit l.most (items_view l.items.items) ≡ items_fit l.most (items_view (drop l.item-index l.item-items))

abbrev pub invariant-members_fit-loop-member : goal.invariant-members_fit-loop-member
invariant-members_fit-loop-member l =
    (goal.iterator-members_fit-loop-member).can_next l.member-iterator × (goal.iterator-members_fit-loop-member).is_finite l.member-iterator
    × (members_fit l.most (members_view l.members.entries) ≡ members_fit l.most (members_view l.member-iterator))
