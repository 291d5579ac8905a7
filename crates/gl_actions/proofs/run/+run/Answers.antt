use Rattle.std.proofs.Common.{◌-◌, ◌++◌, sym, ap, ap₂, ◌∙◌, arith, option_map}
use Rattle.std.proofs.lemmas.Result.{on_ok_weaker}
use Rattle.gl_ast.specs.Template.{exprs_of}
use Rattle.gl_ast.specs.View.{expr_view}
use Rattle.gl_base.specs.Names.{named}
use Rattle.gl_value.specs.View.{seen_items}
use Rattle.gl_meaning.specs.Actions.{run_step, run_steps}
use Rattle.gl_meaning.specs.View.{action_view, step_with}
use Rattle.gl_actions.specs.World.{app_in, sets_in}
use Rattle.gl_actions.specs.Frames.{scope_in}
use Rattle.gl_actions.specs.Steps.{bind_values, calls_in}
use Rattle.gl_actions.proofs.Running.{step_skipped, step_set, step_call, act_some}
use Rattle.gl_actions.proofs.run.+run.Goals as goal

pub action_on-returns-in_ok-params-in-Some-clause-sets : goal.action_on-returns-in_ok-params-in-Some-clause-sets
action_on-returns-in_ok-params-in-Some-clause-sets t c = on_ok_weaker c.steps_on.result
    (λ e w reads.
    let f = c.in_ok-frame.frame in
    let fits = c.in_ok-frame.ensures.fits w reads in
    let less = c.if-levels-eq0.false in
    act_some w f fits c.args.act.now.owner c.in_ok-frame.ensures.number c.args.act.now.name c.args.levels (action_view c.in-Some.action.now).1 c.args.act.now.fixed (seen_items c.args.given.items)
    (seen_items c.in_ok-all-in-Some.all.items) c.in_ok-params-in-Some.params (sets_in w c.args.sets.now) _ (omega (arith, less)) (c.in-Some.ensures ∙ ap₂ named c.as_text.ensures c.as_slice.ensures)
    (c.in_ok-all-in-Some.ensures ∙ ap (λ vs. vs ++ seen_items c.args.given.items) c.as_slice-in-Some.ensures) (c.in_ok-params-in-Some.ensures ∙ ap₂ (λ ns xs. bind_values ns (seen_items xs)) c.as_slice-in-Some-2.ensures c.as_slice-in-Some-3.ensures.value)
    (e w reads fits ∙ ap (λ ss. run_steps (app_in w) w.store (calls_in w (c.args.levels - 1)) (scope_in w f c.in_ok-params-in-Some.params) ss (sets_in w c.args.sets.now)) c.as_slice-in-Some-4.ensures)) c.steps_on.ensures.sets

pub step_on-returns-then-not-branch-clause-sets : goal.step_on-returns-then-not-branch-clause-sets
step_on-returns-then-not-branch-clause-sets t c = λ w reads fits. step_skipped w (calls_in w c.args.levels) (scope_in w c.args.frame.now c.args.params.now) (option_map expr_view c.args.step.now.when) c.args.step.now.kind
    (sets_in w c.args.sets.now) (sym c.if-not-branch.true ∙ c.in_ok-is_run.ensures w fits (calls_in w c.args.levels))

pub step_on-returns-in-Set-clause-sets : goal.step_on-returns-in-Set-clause-sets
step_on-returns-in-Set-clause-sets t c = on_ok_weaker c.set_field.result
    (λ e w reads fits.
    let calls = calls_in w c.args.levels in
    let s = scope_in w c.args.frame.now c.args.params.now in
    step_set w calls s (option_map expr_view c.args.step.now.when) c.in-Set.field (expr_view c.in-Set.to) (sets_in w c.args.sets.now) (sets_in w c.set_field.new.sets)
    (sym c.if-not-branch.false ∙ c.in_ok-is_run.ensures w fits calls) (e w fits)
    ∙ ap (λ k. run_step (app_in w) w.store calls s (step_with (option_map expr_view c.args.step.now.when) k) (sets_in w c.args.sets.now)) (sym c.in-Set.is)) c.set_field.ensures.sets

pub step_on-returns-in_ok-value-in-Call-clause-sets : goal.step_on-returns-in_ok-value-in-Call-clause-sets
step_on-returns-in_ok-value-in-Call-clause-sets t c = on_ok_weaker c.value_on.result
    (λ e w reads fits.
    let calls = calls_in w c.args.levels in
    let s = scope_in w c.args.frame.now c.args.params.now in
    step_call w calls s (option_map expr_view c.args.step.now.when) c.in-Call.name c.in-Call.rest (exprs_of c.in-Call.args) (sets_in w c.args.sets.now) (sets_in w c.value_on.new.sets)
    (sym c.if-not-branch.false ∙ c.in_ok-is_run.ensures w fits calls)
    (e w reads ∙ ap₂ (λ x given. calls_in w c.args.levels x given (sets_in w c.args.sets.now)) (c.in_ok-value-in-Call.ensures.value w fits) (c.in_ok-value-in-Call.ensures.given w fits))
    ∙ ap (λ k. run_step (app_in w) w.store calls s (step_with (option_map expr_view c.args.step.now.when) k) (sets_in w c.args.sets.now)) (sym c.in-Call.is)) c.value_on.ensures.sets

pub action_on-returns-in_ok-params-in-Some-clause-own : goal.action_on-returns-in_ok-params-in-Some-clause-own
action_on-returns-in_ok-params-in-Some-clause-own t c = on_ok_weaker c.steps_on.result (λ e. e c.in_ok-frame.ensures.own) c.steps_on.ensures.own

pub step_on-returns-then-not-branch-clause-own : goal.step_on-returns-then-not-branch-clause-own
step_on-returns-then-not-branch-clause-own t c = λ on u. u

pub step_on-returns-in-Set-clause-own : goal.step_on-returns-in-Set-clause-own
step_on-returns-in-Set-clause-own t c = on_ok_weaker c.set_field.result (λ e on. e c.args.turn.now.app.now c.args.turn.now.page.now on) c.set_field.ensures.own

pub step_on-returns-in_ok-value-in-Call-clause-own : goal.step_on-returns-in_ok-value-in-Call-clause-own
step_on-returns-in_ok-value-in-Call-clause-own t c = on_ok_weaker c.value_on.result (λ e on. e) c.value_on.ensures.own
