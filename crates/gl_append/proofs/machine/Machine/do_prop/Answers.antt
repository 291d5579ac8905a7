use Rattle.std.proofs.Common.{subst}
use Rattle.std.proofs.lemmas.Result.{on_ok_weaker}
use Rattle.gl_plain.specs.State.{property_form}
use Rattle.gl_machine.specs.Step as s
use Rattle.gl_append.specs.MachineView.{seen_pushed}
use Rattle.gl_append.specs.Steps.{Takes}
use Rattle.gl_append.proofs.machine.Machine.do_prop.Goals as goal

pub returns-clause-step : goal.returns-clause-step
returns-clause-step c =
    let f : Takes (λ n. s.push_new (property_form c.args.top.id.1 c.in_ok-name.name)) c.args.vm.now c.args.self.now c.push_new.new.vm c.push_new.new.self
    → Takes (λ n m. s.do_prop c.args.name.now m (m.stack, seen_pushed c.args.top)) c.args.vm.now c.args.self.now c.push_new.new.vm c.push_new.new.self
    = subst (λ x. Takes (λ n. s.push_new (property_form c.args.top.id.1 x)) c.args.vm.now c.args.self.now c.push_new.new.vm c.push_new.new.self) c.in_ok-name.ensures in
    on_ok_weaker c.push_new.result f c.push_new.ensures.step
