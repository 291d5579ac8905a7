use Rattle.std.proofs.Common.{subst}
use Rattle.std.proofs.lemmas.Result.{on_ok_weaker}
use Rattle.gl_plain.specs.Naming.{by_number}
use Rattle.gl_machine.specs.Step as s
use Rattle.gl_append.specs.Steps.{PopsCall}
use Rattle.gl_append.proofs.CallEnds.{called_top}
use Rattle.gl_append.proofs.ItemSteps.{item_free}
use Rattle.gl_append.proofs.machine.Machine.do_item.Goals as goal

pub returns-in-Some-clause-step : goal.returns-in-Some-clause-step
returns-in-Some-clause-step c =
    on_ok_weaker c.continue_list.result
    (called_top (λ n. s.do_item_as by_number) c.args.vm.now c.continue_list.new.vm c.args.self.now c.pop_call.new.self c.continue_list.new.self c.in-Some.call (λ n. item_free)
    (subst (λ o. PopsCall c.args.self.now c.pop_call.new.self o) c.in-Some.is c.pop_call.ensures)) c.continue_list.ensures.step
