use Rattle.std.proofs.lemmas.Result.{on_ok_weaker}
use Rattle.gl_plain.specs.Ids.{node}
use Rattle.gl_ends.proofs.Joins.{ends_one}
use Rattle.gl_seats.proofs.Steps.{leaf_unseats}
use Rattle.gl_ends.proofs.things.end_node.Goals as goal

pub returns-clause-ends : goal.returns-clause-ends
returns-clause-ends c n = on_ok_weaker c.end_node.result (λ s. ends_one n c.args.vm.now c.end_node.new.self (node c.args.node.1) (λ led. s)) c.end_node.ensures.step

pub returns-clause-unseats : goal.returns-clause-unseats
returns-clause-unseats c = on_ok_weaker c.end_node.result (leaf_unseats c.args.vm.now.tree c.end_node.new.self.tree c.args.node c.end_node.ensures.sound) c.end_node.ensures.leaf
