use Rattle.std.proofs.lemmas.Result.{on_ok_weaker}
use Rattle.std.specs.Prelude.{option_map}
use Rattle.std.specs.Str.{chars}
use Rattle.gl_nodes.specs.Tree.{node_at}
use Rattle.gl_nodes.specs.Node as n
use Rattle.gl_vm.proofs.States.{on_ok}
use Rattle.gl_vm.proofs.NodeSteps.{told_step, changed_roots}
use Rattle.gl_vm.proofs.vm.Vm.set_text.Goals as goal

pub returns-clause-step : goal.returns-clause-step
returns-clause-step c = on_ok c.set_text.result (λ done flat was e. told_step c.args.self.now c.set_text.new.self c.args.node was (n.retold (chars c.args.text.now)) e (done.stamps) flat) c.set_text.ensures.ok c.set_text.ensures.flat

pub returns-clause-roots : goal.returns-clause-roots
returns-clause-roots c = on_ok_weaker c.set_text.result (changed_roots c.args.self.now.tree c.set_text.new.self c.args.node (option_map (n.retold (chars c.args.text.now)) (node_at c.args.self.now.tree c.args.node))) c.set_text.ensures.ok
