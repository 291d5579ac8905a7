use Rattle.std.proofs.Common.{subst}
use Rattle.std.proofs.lemmas.Result.{on_ok_weaker}
use Rattle.gl_machine.specs.Step as s
use Rattle.gl_append.specs.Steps.{PopsFrame}
use Rattle.gl_append.proofs.LetEnds.{closed, let_free}
use Rattle.gl_append.proofs.machine.Machine.do_end_let.Goals as goal

pub returns-in-Some : goal.returns-in-Some
returns-in-Some c =
    on_ok_weaker c.end_let.result
    (closed s.do_end_let c.args.self.now c.pop_frame.new.self c.end_let.new.self c.in-Some.frame let_free (subst (λ o. PopsFrame c.args.self.now c.pop_frame.new.self o) c.in-Some.is c.in_ok-frame.ensures)) c.end_let.ensures
