use Rattle.std.proofs.Common.{◌+◌, drop, sym, ap, arith}
use Rattle.std.proofs.lemmas.List.{drop_all}
use Rattle.std.proofs.lemmas.Result.{err_from_is_err_and}
use Rattle.gl_base.proofs.Lists.{drop_item}
use Rattle.gl_meaning.specs.View.{event_view, seen_events}
use Rattle.gl_run.proofs.Played.{left_is, gone_on, goes_no_further, reached_wants, all_played, all_ends}
use Rattle.gl_run.proofs.playing.play_events.Goals as goal

pub loop-event-init : goal.loop-event-init
loop-event-init g c =
    record {
      reached = λ app templates start r. left_is c.args.told app templates c.args.script.now.events _ _ _ _ _ _ (sym c.as_slice-event-items.ensures) r;
      ready = c.requires;
      later = omega (arith);
    }

pub returns-in-Err-clause-plays : goal.returns-in-Err-clause-plays
returns-in-Err-clause-plays g c = λ app templates start limit r.
    let items = c.as_slice-event-items.result.now in
    let i = c.loop-event.event-index in
    let here = ap seen_events (drop_item items i c.event-item.result c.loop-event-test.true c.event-item.is) in
    let reached = rw here at (c.loop-event.invariant.reached app templates start r) in
    goes_no_further c.args.told app templates c.args.script.now.events (event_view c.event-item.result) (seen_events (drop (i + 1) items)) c.loop-event.turn c.loop-event.session start _ reached _ _ _ _ limit c.in-Err.ensures.goes

pub returns-in_err-turn-in-Ok-clause-plays : goal.returns-in_err-turn-in-Ok-clause-plays
returns-in_err-turn-in-Ok-clause-plays g c = λ app templates start limit r.
    let items = c.as_slice-event-items.result.now in
    let i = c.loop-event.event-index in
    let left = seen_events (drop (i + 1) items) in
    let here = ap seen_events (drop_item items i c.event-item.result c.loop-event-test.true c.event-item.is) in
    let reached = rw here at (c.loop-event.invariant.reached app templates start r) in
    let next = gone_on c.args.told app templates c.args.script.now.events (event_view c.event-item.result) left c.loop-event.turn c.loop-event.session start _ reached _ c.args.limit _ c.in-Ok.ensures.goes in
    let p = err_from_is_err_and c.from_residual.result c.from_residual.ensures.1 in
    rw (p.1, p.2) (reached_wants c.args.told app templates c.args.script.now.events left (c.loop-event.turn + 1) _ _ _ next)

pub loop-event-preserved : goal.loop-event-preserved
loop-event-preserved g c =
    record {
      reached = λ app templates start r.
          let items = c.as_slice-event-items.result.now in
          let i = c.loop-event.event-index in
          let here = ap seen_events (drop_item items i c.event-item.result c.loop-event-test.true c.event-item.is) in
          let reached = rw here at (c.loop-event.invariant.reached app templates start r) in
          rw c.in_ok-turn-in-Ok.ensures
          (gone_on c.args.told app templates c.args.script.now.events (event_view c.event-item.result) (seen_events (drop (i + 1) items)) c.loop-event.turn c.loop-event.session start _ reached _ c.args.limit _ c.in-Ok.ensures.goes);
      ready = c.in-Ok.ensures.ready;
      later = omega (arith, c.loop-event.invariant.later, c.in-Ok.ensures.later);
    }

pub returns-clause-plays : goal.returns-clause-plays
returns-clause-plays g c = λ app templates start limit r.
    let past = ap seen_events (drop_all c.loop-event.event-index c.as_slice-event-items.result.now c.loop-event-test.false) in
    all_played c.args.told app templates c.args.script.now.events (tt {0}) c.loop-event.turn c.loop-event.session _ _ (rw past at (c.loop-event.invariant.reached app templates start r))

pub returns-clause-ends : goal.returns-clause-ends
returns-clause-ends g c = λ app templates start r.
    let past = ap seen_events (drop_all c.loop-event.event-index c.as_slice-event-items.result.now c.loop-event-test.false) in
    all_ends c.args.told app templates c.args.script.now.events c.loop-event.turn c.loop-event.session _ _ (rw past at (c.loop-event.invariant.reached app templates start r))
