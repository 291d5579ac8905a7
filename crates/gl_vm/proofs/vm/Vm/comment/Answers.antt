use Rattle.std.specs.Str.{chars}
use Rattle.gl_arena.proofs.Stamps.{on_if}
use Rattle.gl_nodes.specs.Node as n
use Rattle.gl_vm.proofs.NodeSteps.{node_step, node_numbers, made_roots}
use Rattle.gl_vm.proofs.vm.Vm.comment.Goals as goal

pub returns-clause-step : goal.returns-clause-step
returns-clause-step c = on_if c.comment.result (λ id m. node_step c.args.self.now c.comment.new.self id (n.comment (chars c.args.text.now)) m) c.comment.ensures.flat

pub returns-clause-id : goal.returns-clause-id
returns-clause-id c = on_if c.comment.result (λ id m. node_numbers c.args.self.now.tree c.comment.new.self id (n.comment (chars c.args.text.now)) m) c.comment.ensures.flat

pub returns-clause-roots : goal.returns-clause-roots
returns-clause-roots c = on_if c.comment.result (λ id m. made_roots c.args.self.now.tree c.comment.new.self id (n.comment (chars c.args.text.now)) m) c.comment.ensures.ok
