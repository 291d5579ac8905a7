use Rattle.std.proofs.Common.{[], ◌∷◌, sym, ap, ◌∙◌}
use Rattle.std.proofs.lemmas.Result.{on_ok_weaker}
use Rattle.gl_value.specs.View.{view}
use Rattle.gl_meaning.specs.Actions.{run}
use Rattle.gl_actions.specs.World.{app_in, value_in, sets_in}
use Rattle.gl_actions.specs.Steps.{calls_in}
use Rattle.gl_actions.proofs.Running.{run_act, paid}
use Rattle.gl_actions.proofs.run.run_value.Goals as goal

pub returns-in_ok-push-in-Act-clause-sets : goal.returns-in_ok-push-in-Act-clause-sets
returns-in_ok-push-in-Act-clause-sets c = on_ok_weaker c.action_on.result
    (λ e w reads.
    let act = c.in-Act.act in
    let given = paid w c.args.payload.now c.in_ok-copy-in-Act.field-0 c.in_ok-copy-in-Act.ensures _ _ c.new-given.ensures.items c.in_ok-push-in-Act.ensures.items in
    run_act w c.in_ok-frame-in-Act.frame (c.in_ok-frame-in-Act.ensures.fits w reads) act.owner c.in_ok-frame-in-Act.ensures.number act.name act.fixed c.in_ok-levels-in-Act.levels
    (value_in w (view c.args.payload.now) ∷ []) (sets_in w c.args.sets.now) (sets_in w c.action_on.new.sets) c.in_ok-levels-in-Act.ensures
    (e w reads ∙ ap (λ vs. calls_in w c.in_ok-levels-in-Act.levels (value_in w (view (Rattle.gl_value.specs.declared.value.Value.TheVariants.Act act))) vs (sets_in w c.args.sets.now)) given)
    ∙ ap (λ x. run (app_in w) w.store w.forest (value_in w (view x)) (value_in w (view c.args.payload.now) ∷ []) (sets_in w c.args.sets.now)) (sym c.in-Act.is)) c.action_on.ensures.sets
