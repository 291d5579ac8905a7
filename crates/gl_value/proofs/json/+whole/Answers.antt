use Rattle.std.proofs.Common.{◌+◌, drop, map, rules, append-nil, subst, sym}
use Rattle.std.specs.Prelude.{string_bytes}
use Rattle.gl_base.proofs.Lists.{drop_item}
use Rattle.serde_json.specs.View as seen
use Rattle.gl_value.specs.Proper.{KeepMembers}
use Rattle.gl_value.specs.Value.{pairs_of}
use Rattle.gl_value.specs.View.{view}
use Rattle.gl_value.proofs.Reading.{item_fit, member_fit, item_next, member_next}
use Rattle.gl_value.proofs.Keeping.{keeps_members, keys-seen}
use Rattle.gl_value.proofs.json.+whole.Goals as goal

pub list_of-loop-item-preserved : goal.list_of-loop-item-preserved
list_of-loop-item-preserved t c =
    let items = c.deref-item-items.result.now in
    let l = c.loop-item in
    let here = drop_item items l.item-index c.item-item.result c.loop-item-test.true c.item-item.is in
    let next = item_next (seen.view c.item-item.result) _ l.list c.push.new.self _ (view c.in_ok-value_of.field-0) (rw here at l.invariant.whole) l.invariant.keeps c.in_ok-value_of.ensures.value c.in_ok-value_of.ensures.keeps c.in_ok-push.ensures.ok in
    record { fit = item_fit c.args.most (seen.view c.item-item.result) (seen.items_view (drop (l.item-index + 1) items)) _ (rw here at l.invariant.fit) c.in_ok-value_of.ensures.fit; whole = next.0; keeps = next.1 }

pub record_of-loop-name-preserved : goal.record_of-loop-name-preserved
record_of-loop-name-preserved t c =
    let l = c.loop-name in
    let next = member_next (string_bytes c.in-Some.name.now) (seen.view c.in-Some.member.now) (seen.members_view c.next.new.self) l.record c.push.new.self _ c.in_ok-key.key (view c.in_ok-value_of.field-0) (rw c.in-Some.ensures.steps at l.invariant.2.whole) l.invariant.2.keeps (search rules) c.in_ok-value_of.ensures.value c.in_ok-value_of.ensures.keeps c.in_ok-push.ensures.ok in
    (tt, tt, record { fit = member_fit c.args.most (string_bytes c.in-Some.name.now) (seen.view c.in-Some.member.now) (seen.members_view c.next.new.self) _ (rw c.in-Some.ensures.steps at l.invariant.2.fit) c.in_ok-value_of.ensures.fit; whole = next.0; keeps = next.1 })

pub record_of-returns-clause-keeps : goal.record_of-returns-clause-keeps
record_of-returns-clause-keeps t c =
    let l = c.loop-name in
    let whole = rw (c.in-None.ensures.steps.0, append-nil) at l.invariant.2.whole in
    subst (λ r. KeepMembers (pairs_of r)) (sym c.in_ok-build.ensures) (keeps_members (map (λ m. (m.0, seen.view m.1)) c.args.members.now.entries) l.record (rw (keys-seen seen.view c.args.members.now.entries) c.iter-name-items.ensures.ordered) whole l.invariant.2.keeps)
