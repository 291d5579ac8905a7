use Rattle.std.proofs.Common.{◌≡◌, length}
use Rattle.serde_json.specs.View.{items_view, members_view}
use Rattle.gl_wirein.specs.Same.{same_items, same_members}
use Rattle.gl_wirein.proofs.same.+same.Given as goal

-- what is left decides
abbrev pub invariant-same_items-loop-one : goal.invariant-same_items-loop-one
invariant-same_items-loop-one l =
    (same_items (items_view l.ones.items) (items_view l.withs.items) ≡ same_items (items_view l.one-iterator.a.rest.now) (items_view l.one-iterator.b.rest.now)) × (length l.one-iterator.a.rest.now ≡ length l.one-iterator.b.rest.now)

abbrev pub invariant-same_members-loop-key : goal.invariant-same_members-loop-key
invariant-same_members-loop-key l =
    (goal.iterator-same_members-loop-key).can_next l.key-iterator × (goal.iterator-same_members-loop-key).is_finite l.key-iterator
    × (same_members (members_view l.ones.entries) (members_view l.withs.entries) ≡ same_members (members_view l.key-iterator) (members_view l.others))
