use Rattle.std.proofs.Common.{subst}
use Rattle.std.proofs.lemmas.Result.{on_ok_weaker}
use Rattle.gl_machine.specs.Step as s
use Rattle.gl_append.specs.Steps.{PopsFrame}
use Rattle.gl_append.proofs.ElementSteps.{element_free, closed_with}
use Rattle.gl_append.proofs.machine.Machine.do_close.Goals as goal

pub returns-in-Some-clause-step : goal.returns-in-Some-clause-step
returns-in-Some-clause-step c =
    on_ok_weaker c.end_element.result
    (closed_with s.do_close c.args.vm.now c.end_element.new.vm c.args.self.now c.pop_frame.new.self c.end_element.new.self c.in-Some.frame element_free (subst (λ o. PopsFrame c.args.self.now c.pop_frame.new.self o) c.in-Some.is c.in_ok-frame.ensures)) c.end_element.ensures.step
