-- Each event is less deep than the batch that holds it.
use Rattle.std.specs.Prelude.{◌≤◌, suc, List, [], ◌∷◌}
use Rattle.std.proofs.Common.{arith}
use Rattle.gl_meaning.specs.App.{events_of, event_depth, events_depth}
use Rattle.gl_meaning.specs.View.{event_view, seen_events}
use Rattle.gl_meaning.specs.declared.script.Event.{Event}
use Rattle.gl_meaning.specs.declared.script.Event.TheVariants as code
use Rattle.gl_meaning.specs.declared.script.Events.TheDeep.{deep-Event, deep-Events}
use Rattle.gl_meaning.specs.declared.script.Events.TheInside.{Inside}
use denote.Param.Weighed.{most}

event_falls : (e : Event) → deep-Event e ≤ suc (event_depth (event_view e))
event_falls (code.Set f v) = omega arith
event_falls (code.Fire n x v) = omega arith
event_falls (code.Batch es) = omega arith

most_events : (es : List Event) → most deep-Event es ≤ suc (events_depth (events_of (seen_events es)))
most_events [] = omega arith
most_events (e ∷ es) = omega (arith, event_falls e, most_events es)

pub events_falls : (a : Inside) → deep-Events a ≤ suc (events_depth (events_of (seen_events a.list.items)))
events_falls a = omega (arith, most_events a.list.items)
