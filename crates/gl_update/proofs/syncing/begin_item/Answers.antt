use Rattle.std.proofs.Common.{◌∙◌, subst, sym}
use Rattle.gl_value.specs.View.{view}
use Rattle.gl_plain.specs.Renew.{give}
use Rattle.gl_vm.specs.Labels.{label, labelled}
use Rattle.gl_vm.specs.Steps.{Does}
use Rattle.gl_code.specs.declared.code.ItemCode.{ItemCode}
use Rattle.gl_code.specs.declared.entries.Entry.{Entry}
use Rattle.gl_update.proofs.SyncItems.{given_item, item_given}
use Rattle.gl_update.proofs.syncing.begin_item.Goals as goal

pub returns-clause-step : goal.returns-clause-step
returns-clause-step c =
    let d2 = subst (λ (o : ItemCode). Does (given_item o.spot c.into_inner-entry.result) c.args.vm.now c.give-2.new.vm) c.deref.ensures
    (item_given c.deref.result.now.spot c.into_inner-entry.result c.counted.result c.args.vm.now c.give.new.vm c.give-2.new.vm c.in_ok-give.ensures.step
    (subst (λ (o : ItemCode). Does (λ n. give o.spot.index.1 (label o.spot.index.1) (labelled (view c.counted.result))) c.give.new.vm c.give-2.new.vm) (c.deref-2.ensures ∙ sym c.deref.ensures) c.in_ok-give-2.ensures.step) c.counted.ensures) in
    subst (λ (e : Entry). Does (given_item c.args.old.value.spot e) c.args.vm.now c.give-2.new.vm) c.into_inner-entry.ensures d2
