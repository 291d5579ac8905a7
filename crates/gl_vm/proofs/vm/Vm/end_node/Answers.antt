use Rattle.std.proofs.lemmas.Result.{on_ok_weaker}
use Rattle.gl_vm.proofs.Drops.{node_gone}
use Rattle.gl_vm.proofs.vm.Vm.end_node.Goals as goal

pub returns-clause-step : goal.returns-clause-step
returns-clause-step c = on_ok_weaker c.remove_leaf.result (node_gone c.args.self.now c.remove_leaf.new.self c.args.node) c.remove_leaf.ensures.ok
