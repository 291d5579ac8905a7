use Rattle.std.proofs.Common.{drop, ◌+◌}
use Rattle.gl_base.proofs.Lists.{drop_item}
use Rattle.gl_value.specs.View.{view, seen_items}
use Rattle.gl_value.proofs.Keeping.{KeepAll-append}
use Rattle.gl_helpers.specs.Records.{changed}
use Rattle.gl_helpers.proofs.Items.{made_next}
use Rattle.gl_helpers.proofs.records.update_where.Goals as goal

pub loop-item-preserved : goal.loop-item-preserved
loop-item-preserved c =
    let l = c.loop-item in
    let u = c.args.update.now in
    let item = c.item-item.result in
    let here = drop_item c.args.items.now l.item-index item c.loop-item-test.true c.item-item.is in
    record {
      whole = made_next (changed u.name.now (view u.is.now) u.key.now (view u.value.now)) (view item) (seen_items (drop (l.item-index + 1) c.args.items.now)) (view c.in_ok-updated.field-0) l.list c.push.new.self _ c.in_ok-updated.ensures.value c.in_ok-push.ensures.ok (rw here at l.invariant.whole);
      keeps = λ all value.
          let k = l.invariant.keeps all value in
          let rest = rw here at k.1 in
          (rw c.in_ok-push.ensures.ok (KeepAll-append l.list (view c.in_ok-updated.field-0) k.0 (c.in_ok-updated.ensures.keeps rest.0 value)), rest.1);
    }
