use Rattle.gl_vm.proofs.Drops.{instance_gone}
use Rattle.gl_vm.proofs.vm.Vm.end_instance.Goals as goal

pub returns-clause-step : goal.returns-clause-step
returns-clause-step c = let e = c.remove.ensures in instance_gone c.args.self.now c.remove.new.self c.args.id.1 e.stamps e.ends.count
