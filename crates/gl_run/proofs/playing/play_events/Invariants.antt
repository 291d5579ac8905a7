use Rattle.std.proofs.Common.{◌≤◌, ℕ, List, Option, drop}
use Rattle.gl_ast.specs.Template.{Body}
use Rattle.gl_meaning.specs.View.{seen_events}
use Rattle.gl_opc.specs.declared.app.App.{App}
use Rattle.gl_session.specs.Standing.{IsReady}
use Rattle.gl_run.specs.Reached.{Reached}
use Rattle.gl_run.proofs.playing.play_events.Given as goal

abbrev pub invariant-loop-event : goal.invariant-loop-event
invariant-loop-event g l =
    record {
      reached : (app : App) (templates : List Body) (start : Option (List ℕ)) → Reached l.told app templates l.script.events l.script.events 1 l.fn.session start (g.K.Sink.took l.fn.out)
          → Reached l.told app templates l.script.events (seen_events (drop l.event-index l.event-items)) l.turn l.session start (g.K.Sink.took l.out);
      ready : IsReady l.session;
      later : g.K.Sink.faults l.fn.out ≤ g.K.Sink.faults l.out;
    }
