use Rattle.gl_vm.proofs.States.{on_ok}
use Rattle.gl_vm.proofs.ThingSteps.{refresh_step}
use Rattle.gl_vm.proofs.vm.Vm.refresh.Goals as goal

pub returns-clause-step : goal.returns-clause-step
returns-clause-step c = on_ok c.refresh.result (λ g h. refresh_step c.args.self.now c.refresh.new.self c.args.id c.args.args c.args.named c.sound.ensures.stamps c.requires g) c.refresh.ensures.ok c.refresh.ensures.ok
