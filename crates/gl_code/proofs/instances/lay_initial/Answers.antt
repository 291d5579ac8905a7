use Rattle.std.proofs.Common.{◌+◌, None, drop, ap, subst, refl, ◌∙◌}
use Rattle.std.proofs.lemmas.List.{drop_all}
use Rattle.gl_base.proofs.Lists.{drop_item}
use Rattle.gl_value.specs.View.{view, seen_entries}
use Rattle.gl_code.proofs.Laying.{StillLays, lays_begin, lays_step, lays_end}
use Rattle.gl_code.proofs.instances.lay_initial.Goals as goal

pub loop-field-init : goal.loop-field-init
loop-field-init c = (lays_begin None (seen_entries c.args.fields.now) c.in_ok-ids.ids c.args.vm.now c.in_ok-ids.ensures, λ calm. calm, refl)

pub loop-field-preserved : goal.loop-field-preserved
loop-field-preserved c =
    let l = c.loop-field in
    let i = c.field-item.result in
    let here = drop_item c.args.fields.now l.field-index i c.loop-field-test.true c.field-item.is in
    let rest = drop (l.field-index + 1) c.args.fields.now in (
      lays_step None (seen_entries c.args.fields.now) (seen_entries rest) (i.0, view i.1) l.ids c.lay.new.ids (view c.in_ok-value.value) c.args.vm.now l.vm c.lay.new.vm c.in_ok-value.ensures.value c.in_ok-lay.ensures.step
          (subst (λ fs. StillLays None (seen_entries c.args.fields.now) (seen_entries fs) l.ids c.args.vm.now l.vm) here l.invariant.0),
      λ calm. c.in_ok-lay.ensures.calm (l.invariant.1 calm),
      c.lay.ensures.tree ∙ l.invariant.2,
    )

pub returns-clause-step : goal.returns-clause-step
returns-clause-step c =
    lays_end None (seen_entries c.args.fields.now) (seen_entries (drop c.loop-field.field-index c.args.fields.now)) c.loop-field.ids c.args.vm.now c.loop-field.vm
    (ap seen_entries (drop_all c.loop-field.field-index c.args.fields.now c.loop-field-test.false)) c.loop-field.invariant.0
