use Rattle.std.proofs.Common.{◌∙◌, ap}
use Rattle.std.proofs.lemmas.Result.{on_ok_weaker}
use Rattle.gl_plain.specs.State.{joined_form}
use Rattle.gl_machine.specs.Step as s
use Rattle.gl_vm.specs.View.{stamps}
use Rattle.gl_append.specs.MachineView.{seen_stack}
use Rattle.gl_append.proofs.Taking.{after_taking}
use Rattle.gl_append.proofs.machine.Machine.do_cat.Goals as goal

pub returns-clause-step : goal.returns-clause-step
returns-clause-step c =
    on_ok_weaker c.push_new.result
    (after_taking c.args.count joined_form c.args.vm.now c.push_new.new.vm c.args.self.now c.take_last.new.stack c.push_new.new.self (stamps c.in_ok-ids.ids)
    (c.in_ok-ids.ensures ∙ ap s.positional (ap seen_stack c.as_slice.ensures.value ∙ c.in_ok-taken.ensures.taken)) c.in_ok-taken.ensures.rest) c.push_new.ensures.step
