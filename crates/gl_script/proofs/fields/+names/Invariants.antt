use Rattle.std.proofs.Common.{◌≡◌, ◌≤◌, ◌+◌, ◌*◌, map, drop}
use Rattle.gl_value.specs.Plain.{plain_pair}
use Rattle.gl_meaning.specs.App.{events_of, event_depth, events_depth}
use Rattle.gl_meaning.specs.ScriptOf.{unknown_among}
use Rattle.gl_meaning.specs.View.{event_view, seen_events}
use Rattle.gl_script.proofs.fields.+names.Given as goal

abbrev pub decreases-unknown_in : goal.decreases-unknown_in
decreases-unknown_in l = 2 * event_depth (event_view l.event.now)

abbrev pub decreases-unknown_among : goal.decreases-unknown_among
decreases-unknown_among l = 2 * events_depth (events_of l.events.now) + 1

-- what is left decides, and is no deeper
abbrev pub invariant-unknown_among-loop-event : goal.invariant-unknown_among-loop-event
invariant-unknown_among-loop-event l = record {
  decides : unknown_among (map (λ f. plain_pair f) l.fields) (events_of (seen_events (drop l.event-index l.event-items))) ≡ unknown_among (map (λ f. plain_pair f) l.fields) (events_of l.events);
  shallow : events_depth (events_of (seen_events (drop l.event-index l.event-items))) ≤ events_depth (events_of l.events);
}
