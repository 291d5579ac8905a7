use Rattle.std.proofs.Common.{◌∙◌, ap}
use Rattle.gl_each.specs.View.{seen_steps}
use Rattle.gl_each.proofs.Plans.{unkept_one, unkept_none, unkept_all}
use Rattle.gl_each.proofs.planning.removed.Goals as goal
use Rattle.gl_each.proofs.planning.removed.Goals.{then-not-stays+in_ok-push, else-not-stays}

pub loop-place-preserved : goal.loop-place-preserved
loop-place-preserved c =
    elim c.if-not-stays.branch [
      | then-not-stays+in_ok-push w ↦ unkept_one (seen_steps c.args.steps.now) c.args.count c.loop-place.place c.deref-stays-items.result.now c.loop-place.list.items c.if-not-stays.list.items c.loop-place-test.true (c.deref-stays-items.ensures.value ∙ c.in_ok-marks.ensures) c.loop-place.invariant w.if-not-stays.true (ap (λ v. v.items) w.list-is ∙ w.in_ok-push.ensures.items)
      | else-not-stays w ↦ unkept_none (seen_steps c.args.steps.now) c.args.count c.loop-place.place c.deref-stays-items.result.now c.loop-place.list.items c.if-not-stays.list.items c.loop-place-test.true (c.deref-stays-items.ensures.value ∙ c.in_ok-marks.ensures) c.loop-place.invariant w.if-not-stays.false (ap (λ v. v.items) w.list-is)
    ]

pub returns : goal.returns
returns c = c.from_vec.ensures ∙ c.loop-place.invariant ∙ unkept_all (seen_steps c.args.steps.now) c.args.count c.loop-place.place c.deref-stays-items.result.now (c.deref-stays-items.ensures.value ∙ c.in_ok-marks.ensures) c.loop-place.auto.place-end c.loop-place-test.false
