use Rattle.std.proofs.Common.{◌+◌, drop, ap}
use Rattle.gl_base.proofs.Lists.{drop_item}
use Rattle.gl_meaning.specs.View.{event_view, seen_events}
use Rattle.gl_run.proofs.Tallied.{turn_counted}
use Rattle.gl_run.proofs.sample.tally_events.Goals as goal

pub loop-event-preserved : goal.loop-event-preserved
loop-event-preserved c =
    record {
      counted = λ app templates r.
          let items = c.as_slice-event-items.result.now in
          let i = c.loop-event.event-index in
          let here = ap seen_events (drop_item items i c.event-item.result c.loop-event-test.true c.event-item.is) in
          let counted = rw here at (c.loop-event.invariant.counted app templates r) in
          let turns = c.in_ok-made.ensures.turns.stands app templates counted.state counted.stands in
          turn_counted app templates c.args.script.now.events (event_view c.event-item.result) (seen_events (drop (i + 1) items)) c.loop-event.session c.loop-event.tally counted _ _ _ turns c.in_ok-made.ensures.turns.counts (c.in_ok-made.ensures.turns.asks app templates counted.state counted.stands) c.in_ok-tally.ensures.turns c.in_ok-tally.ensures.bytes c.in_ok-tally.ensures.last;
      ready = c.in_ok-made.ensures.ready;
    }
