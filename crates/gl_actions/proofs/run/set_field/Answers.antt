use Rattle.std.proofs.Common.{ap, ◌∙◌}
use Rattle.std.proofs.lemmas.Result.{on_ok_weaker}
use Rattle.gl_ast.specs.View.{expr_view}
use Rattle.gl_value.specs.View.{view}
use Rattle.gl_actions.specs.World.{sets_in}
use Rattle.gl_actions.specs.Steps.{given_at}
use Rattle.gl_actions.proofs.Running.{set_is}
use Rattle.gl_actions.proofs.OwnSets.{set_own}
use Rattle.gl_actions.proofs.run.set_field.Goals as goal

pub returns-clause-sets : goal.returns-clause-sets
returns-clause-sets c = on_ok_weaker c.push.result
    (λ e w fits. ap (sets_in w) e
    ∙ set_is w c.args.frame.now fits c.args.sets.now c.in_ok-place.place c.args.field.now (view c.in_ok-to.to) (view c.in_ok-given.field-0)
    (given_at w c.args.frame.now c.args.params.now c.args.sets.now (expr_view c.args.to.now)) (c.in_ok-place.ensures.name w fits) c.in_ok-to.ensures.value (c.in_ok-given.ensures w fits)) c.push.ensures.ok

pub returns-clause-own : goal.returns-clause-own
returns-clause-own c = on_ok_weaker c.push.result
    (λ e a page on. set_own a page c.args.frame.now on c.args.sets.now _ c.in_ok-place.place (view c.in_ok-to.to) (view c.in_ok-given.field-0) c.in_ok-place.ensures.below c.in_ok-to.ensures.value e) c.push.ensures.ok
