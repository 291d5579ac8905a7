use Rattle.std.proofs.Common.{sym, ap, ◌∙◌}
use Rattle.std.proofs.lemmas.Result.{on_ok_weaker}
use Rattle.gl_meaning.specs.Actions.{apply_event}
use Rattle.gl_meaning.specs.View.{event_view}
use Rattle.gl_actions.specs.World.{app_in}
use Rattle.gl_events.specs.View.{applied_in}
use Rattle.gl_events.proofs.applied.+applying.Goals as goal

pub event_on-returns-in-Set-clause-sets : goal.event_on-returns-in-Set-clause-sets
event_on-returns-in-Set-clause-sets t c = on_ok_weaker c.set_on.result
    (λ e w numbers reads hears. e w numbers reads ∙ ap (λ x. apply_event (app_in w) w.store w.forest numbers (event_view x) (applied_in w c.args.applied.now)) (sym c.in-Set.is)) c.set_on.ensures.sets
