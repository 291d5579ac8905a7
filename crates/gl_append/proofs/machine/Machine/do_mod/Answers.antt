use Rattle.std.proofs.Common.{◌∙◌, ap}
use Rattle.std.proofs.lemmas.Result.{on_ok_weaker}
use Rattle.gl_machine.specs.Step as s
use Rattle.gl_vm.specs.View.{stamps, name_stamps}
use Rattle.gl_append.specs.MachineView.{seen_stack}
use Rattle.gl_append.proofs.Taking.{after_modifying}
use Rattle.gl_append.proofs.machine.Machine.do_mod.Goals as goal

pub returns : goal.returns
returns c =
    on_ok_weaker c.add_part.result
    (after_modifying c.args.count c.args.name c.args.self.now c.take_last.new.stack c.add_part.new.self (stamps c.in_ok-args.args) (name_stamps c.in_ok-named.named)
    (c.in_ok-args.ensures ∙ ap s.positional (ap seen_stack c.as_slice.ensures.value ∙ c.in_ok-taken.ensures.taken))
    (c.in_ok-named.ensures ∙ ap s.named_ones (ap seen_stack c.as_slice-2.ensures.value ∙ c.in_ok-taken.ensures.taken)) c.in_ok-taken.ensures.rest) c.add_part.ensures
