use Rattle.std.proofs.Common.{sym, subst}
use Rattle.std.proofs.lemmas.Result.{on_ok_weaker}
use Rattle.gl_machine.specs.Step as s
use Rattle.gl_append.specs.MachineView.{call_kind}
use Rattle.gl_append.specs.Steps.{Moves}
use Rattle.gl_append.proofs.machine.Machine.end_call.Goals as goal

pub returns-in-Each : goal.returns-in-Each
returns-in-Each c =
    on_ok_weaker c.end_items.result (λ e. subst (λ x. Moves (λ n k. s.do_end_each k k.rest.frames k.rest.here (call_kind n x)) c.args.self.now c.end_items.new.self) (sym c.in-Each.is) e) c.end_items.ensures
