use Rattle.std.proofs.lemmas.Result.{on_ok_weaker}
use Rattle.gl_refs.specs.View.{seen_form as code_form}
use Rattle.gl_vm.specs.View.{seen_form}
use Rattle.gl_append.proofs.Taking.{made_pushed}
use Rattle.gl_append.proofs.machine.Machine.push_new.Goals as goal

pub returns-clause-step : goal.returns-clause-step
returns-clause-step c = on_ok_weaker c.push_made.result (made_pushed (seen_form c.args.vm.now.refs.rows.made (code_form c.args.form)) c.args.vm.now c.bind.new.vm c.args.self.now c.push_made.new.self c.in_ok-id.id c.in_ok-id.ensures.step c.in_ok-id.ensures.id) c.push_made.ensures
