use Rattle.std.proofs.Common.{List, drop}
use Rattle.gl_ast.specs.Template.{Body}
use Rattle.gl_meaning.specs.View.{seen_events}
use Rattle.gl_opc.specs.declared.app.App.{App}
use Rattle.gl_session.specs.Standing.{IsReady}
use Rattle.gl_run.specs.Reached.{Counted}
use Rattle.gl_run.proofs.sample.tally_events.Given as goal

abbrev pub invariant-loop-event : goal.invariant-loop-event
invariant-loop-event l =
    record {
      counted : (app : App) (templates : List Body) → Counted app templates l.script.events l.script.events l.fn.session l.fn.tally
          → Counted app templates l.script.events (seen_events (drop l.event-index l.event-items)) l.session l.tally;
      ready : IsReady l.session;
    }
