use Rattle.std.proofs.Common.{subst}
use Rattle.std.proofs.lemmas.Result.{on_ok_weaker}
use Rattle.gl_machine.specs.Step as s
use Rattle.gl_append.specs.Steps.{PopsCall}
use Rattle.gl_append.proofs.CallEnds.{called_end}
use Rattle.gl_append.proofs.ListEnds.{end_each_free}
use Rattle.gl_append.proofs.machine.Machine.end_list.Goals as goal

pub returns-in-Some : goal.returns-in-Some
returns-in-Some c =
    on_ok_weaker c.end_call.result
    (called_end s.do_end_each c.args.self.now c.pop_call.new.self c.end_call.new.self c.in-Some.call end_each_free (subst (λ o. PopsCall c.args.self.now c.pop_call.new.self o) c.in-Some.is c.pop_call.ensures)) c.end_call.ensures
