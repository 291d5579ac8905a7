use Rattle.gl_vm.proofs.Drops.{modifiers_gone}
use Rattle.gl_vm.proofs.vm.Vm.end_modifiers.Goals as goal

pub returns-clause-step : goal.returns-clause-step
returns-clause-step c = modifiers_gone c.args.self.now c.drop_node.new.self c.args.node c.sound.ensures c.drop_node.ensures
