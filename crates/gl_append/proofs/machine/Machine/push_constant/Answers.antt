use Rattle.std.proofs.lemmas.Result.{on_ok_weaker}
use Rattle.gl_value.specs.View.{view}
use Rattle.gl_plain.specs.State.{constant_form}
use Rattle.gl_vm.specs.Labels.{labelled}
use Rattle.gl_append.proofs.Taking.{made_pushed}
use Rattle.gl_append.proofs.machine.Machine.push_constant.Goals as goal

pub returns-clause-step : goal.returns-clause-step
returns-clause-step c = on_ok_weaker c.push_made.result (made_pushed (constant_form (labelled (view c.args.value))) c.args.vm.now c.constant.new.self c.args.self.now c.push_made.new.self c.in_ok-id.id c.in_ok-id.ensures.step c.in_ok-id.ensures.id) c.push_made.ensures
