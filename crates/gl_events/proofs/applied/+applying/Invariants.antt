use Rattle.std.proofs.Common.{◌≡◌, ◌≤◌, ◌+◌, ◌*◌, drop}
use Rattle.gl_meaning.specs.App.{events_of, event_depth, events_depth}
use Rattle.gl_meaning.specs.Actions.{apply_events}
use Rattle.gl_meaning.specs.Changes.{Numbers}
use Rattle.gl_meaning.specs.View.{event_view, seen_events}
use Rattle.gl_actions.specs.World.{World, app_in}
use Rattle.gl_actions.specs.Reads.{Reads}
use Rattle.gl_actions.specs.Own.{AddsOwn}
use Rattle.gl_events.specs.Hears.{Hears}
use Rattle.gl_events.specs.View.{applied_in}
use Rattle.gl_events.proofs.applied.+applying.Given as goal

abbrev pub decreases-event_on : goal.decreases-event_on
decreases-event_on l = 2 * event_depth (event_view l.event.now)

abbrev pub decreases-events_on : goal.decreases-events_on
decreases-events_on l = 2 * events_depth (events_of l.events.now) + 1

-- what is left gives the whole, and is no deeper
abbrev pub invariant-events_on-loop-event : goal.invariant-events_on-loop-event
invariant-events_on-loop-event l = record {
  gives : (w : World) (numbers : Numbers) → Reads l.stage.app.now l.stage.page.now w → Hears w l.stage.page.now numbers
      → apply_events (app_in w) w.store w.forest numbers (events_of (seen_events (drop l.event-index l.event-items))) (applied_in w l.applied)
      ≡ apply_events (app_in w) w.store w.forest numbers (events_of l.events) (applied_in w l.fn.applied);
  own : AddsOwn l.stage.app.now l.stage.page.now l.fn.applied.sets l.applied.sets;
  shallow : events_depth (events_of (seen_events (drop l.event-index l.event-items))) ≤ events_depth (events_of l.events);
}
