use Rattle.std.proofs.Common.{subst}
use Rattle.gl_value.specs.Value.{plain}
use Rattle.gl_value.specs.View.{view}
use Rattle.gl_actions.specs.Fired.{AnswersOwn}
use Rattle.gl_actions.specs.World.{sets_in}
use Rattle.gl_events.proofs.Hearing.{none_there, some_there, ran_there}
use Rattle.gl_events.proofs.Applying.{fire_adds, fire_misses}
use Rattle.gl_events.proofs.applied.fire_on.Goals as goal

pub returns-in-Ran-clause-sets : goal.returns-in-Ran-clause-sets
returns-in-Ran-clause-sets c = λ w numbers reads hears.
    let stage = c.args.stage.now in
    let sofar = c.args.applied.now.sets in
    let payload = view c.args.payload.now in
    let same = c.as_str.ensures.value in
    let answers = c.in_ok-fired.ensures.sets in
    fire_adds w numbers c.args.number c.args.name.now (plain payload) (sets_in w c.in-Ran.sets) (sets_in w sofar) c.args.applied.now.missing.items
    (some_there stage.app.now stage.page.now w numbers reads hears c.in_ok-fired.ensures.only c.args.number sofar _ c.args.name.now same payload c.in_ok-fired.fired answers c.in-Ran.sets c.in-Ran.is)
    (ran_there stage.app.now stage.page.now w numbers reads hears c.in_ok-fired.ensures.only c.args.number sofar _ c.args.name.now same payload c.in_ok-fired.fired answers c.in-Ran.sets c.in-Ran.is)

pub returns-in-Ran-clause-own : goal.returns-in-Ran-clause-own
returns-in-Ran-clause-own c =
    let stage = c.args.stage.now in
    subst (λ f. AnswersOwn stage.app.now stage.page.now c.args.applied.now.sets f) c.in-Ran.is c.in_ok-fired.ensures.own

pub returns-in_ok-push-in-NoListener-clause-sets : goal.returns-in_ok-push-in-NoListener-clause-sets
returns-in_ok-push-in-NoListener-clause-sets c = λ w numbers reads hears.
    let stage = c.args.stage.now in
    let sofar = c.args.applied.now.sets in
    let payload = view c.args.payload.now in
    fire_misses w numbers c.args.number c.args.name.now (plain payload) (sets_in w sofar) c.args.applied.now.missing.items _
    (none_there stage.app.now stage.page.now w numbers reads hears c.in_ok-fired.ensures.only c.args.number sofar _ c.args.name.now c.as_str.ensures.value payload c.in_ok-fired.fired c.in_ok-fired.ensures.sets
    c.in-NoListener.is)
    c.in_ok-push-in-NoListener.ensures.items

pub returns-in_ok-push-in-NoListener-clause-own : goal.returns-in_ok-push-in-NoListener-clause-own
returns-in_ok-push-in-NoListener-clause-own c = λ u. u
