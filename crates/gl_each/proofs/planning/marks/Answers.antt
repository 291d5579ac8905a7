use Rattle.std.proofs.Common.{◌∙◌, ◌≡◌, ap, get_or, arith}
use Rattle.gl_each.specs.View.{step_view}
use Rattle.gl_each.specs.declared.step.PlanStep.{PlanStep}
use Rattle.gl_each.specs.declared.step.PlanStep.TheVariants.{Retain}
use Rattle.gl_each.proofs.Plans.{marks_none, marks_one, marks_far, get_or-within, unmarked}
use Rattle.gl_each.proofs.planning.marks.Goals as goal
use Rattle.gl_each.proofs.planning.marks.Goals.{in-Some+then-place-len, in-Some+else-place-len, in_default}

pub loop-step-init : goal.loop-step-init
loop-step-init c = c.in_ok-list.ensures.items_if_clones_equal (λ y e. e) ∙ unmarked c.args.count

pub loop-step-preserved : goal.loop-step-preserved
loop-step-preserved c =
    let x : PlanStep = get_or c.args.steps.now c.loop-step.step-index (Retain 0) in
    let same : x ≡ get_or c.args.steps.now c.loop-step.step-index x = get_or-within c.args.steps.now c.loop-step.step-index (Retain 0) x c.loop-step-test.true in
    elim c.match-kept.branch [
      | in-Some+then-place-len w ↦ marks_one step_view c.args.steps.now c.loop-step.step-index x c.args.count c.loop-step.list.items c.match-kept.list.items c.loop-step-test.true same c.loop-step.invariant w.in-Some.old w.in-Some.ensures (ap (λ v. v.items) w.list-is)
      | in-Some+else-place-len w ↦ marks_far step_view c.args.steps.now c.loop-step.step-index x c.args.count c.loop-step.list.items c.match-kept.list.items c.loop-step-test.true same c.loop-step.invariant w.in-Some.old w.in-Some.ensures (omega (arith, w.len.ensures, w.if-place-len.false)) (ap (λ v. v.items) w.list-is)
      | in_default w ↦ let e = w.in_default in marks_none step_view c.args.steps.now c.loop-step.step-index x c.args.count c.loop-step.list.items c.match-kept.list.items c.loop-step-test.true same c.loop-step.invariant w.in_default.ensures (ap (λ v. v.items) w.list-is)
    ]
