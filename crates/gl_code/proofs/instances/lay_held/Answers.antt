use Rattle.std.proofs.Common.{◌+◌, Some, get_or, [], drop, ◌∙◌, ap, subst, refl}
use Rattle.std.proofs.lemmas.List.{drop_all, drop_more}
use Rattle.gl_base.specs.Names.{at_place}
use Rattle.gl_value.specs.Value.{undefined}
use Rattle.gl_value.specs.View.{view, seen_entries}
use Rattle.gl_value.specs.declared.value.Value.TheVariants as code
use Rattle.gl_code.proofs.Laying.{StillLays, lays_begin, lays_step, lays_end}
use Rattle.gl_code.proofs.instances.lay_held.Goals as goal

pub loop-field-init : goal.loop-field-init
loop-field-init c = (lays_begin (Some c.args.held.now) (seen_entries c.args.fields.now) c.in_ok-ids.ids c.args.vm.now c.in_ok-ids.ensures, λ calm. calm, refl)

pub loop-field-preserved : goal.loop-field-preserved
loop-field-preserved c =
    let l = c.loop-field in
    let i = get_or c.args.fields.now l._field-index ([], code.Undefined) in
    let here = drop_more c.args.fields.now l._field-index ([], code.Undefined) c.loop-field-test.true in
    let rest = drop (l._field-index + 1) c.args.fields.now in (
      lays_step (Some c.args.held.now) (seen_entries c.args.fields.now) (seen_entries rest) (i.0, view i.1) l.ids c.lay.new.ids (view c.in_ok-value.value) c.args.vm.now l.vm c.lay.new.vm (c.in_ok-value.ensures ∙ ap (λ k. at_place undefined k c.args.held.now) c.len.ensures) c.in_ok-lay.ensures.step
          (subst (λ fs. StillLays (Some c.args.held.now) (seen_entries c.args.fields.now) (seen_entries fs) l.ids c.args.vm.now l.vm) here l.invariant.0),
      λ calm. c.in_ok-lay.ensures.calm (l.invariant.1 calm),
      c.lay.ensures.tree ∙ l.invariant.2,
    )

pub returns-clause-step : goal.returns-clause-step
returns-clause-step c =
    lays_end (Some c.args.held.now) (seen_entries c.args.fields.now) (seen_entries (drop c.loop-field._field-index c.args.fields.now)) c.loop-field.ids c.args.vm.now c.loop-field.vm
    (ap seen_entries (drop_all c.loop-field._field-index c.args.fields.now c.loop-field-test.false)) c.loop-field.invariant.0
