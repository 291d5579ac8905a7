use Rattle.std.proofs.Common.{ap, ap₂, ◌∙◌, sym, subst}
use Rattle.gl_meaning.specs.Actions.{Applied, apply_event}
use Rattle.gl_meaning.specs.View.{event_view}
use Rattle.gl_actions.specs.Own.{AreOwnSets}
use Rattle.gl_actions.specs.World.{app_in, sets_in}
use Rattle.gl_events.proofs.applied.apply.Goals as goal

pub returns-clause-sets : goal.returns-clause-sets
returns-clause-sets c = λ w numbers reads hears.
    let e = c.in_ok-event_on.ensures.sets w numbers reads hears
    ∙ ap₂ (λ ss missing. apply_event (app_in w) w.store w.forest numbers (event_view c.args.event.now) (record { sets = sets_in w ss; missing = missing })) c.new.ensures c.new-2.ensures.items in
    (ap (λ (x : Applied). x.sets) e, ap (λ (x : Applied). x.missing) e)

pub returns-clause-own : goal.returns-clause-own
returns-clause-own c = c.in_ok-event_on.ensures.own (subst (AreOwnSets c.args.app.now c.args.page.now) (sym c.new.ensures) tt)
