use Rattle.std.proofs.Common.{◌∙◌, ap}
use Rattle.std.proofs.lemmas.Result.{on_ok_weaker}
use Rattle.gl_machine.specs.Step as s
use Rattle.gl_vm.specs.View.{stamps, name_stamps, helper_name}
use Rattle.gl_append.specs.MachineView.{seen_stack}
use Rattle.gl_append.proofs.Taking.{after_calling}
use Rattle.gl_append.proofs.machine.Machine.do_call.Goals as goal

pub returns-clause-step : goal.returns-clause-step
returns-clause-step c =
    on_ok_weaker c.push_new.result
    (after_calling c.args.count (helper_name c.args.helper) c.args.vm.now c.push_new.new.vm c.args.self.now c.take_last.new.stack c.push_new.new.self (stamps c.in_ok-ids.ids) (name_stamps c.in_ok-named.named)
    (c.in_ok-ids.ensures ∙ ap s.positional (ap seen_stack c.as_slice.ensures.value ∙ c.in_ok-taken.ensures.taken))
    (c.in_ok-named.ensures ∙ ap s.named_ones (ap seen_stack c.as_slice-2.ensures.value ∙ c.in_ok-taken.ensures.taken)) c.in_ok-taken.ensures.rest) c.push_new.ensures.step
