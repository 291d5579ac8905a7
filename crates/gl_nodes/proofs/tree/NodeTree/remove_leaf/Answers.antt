use Rattle.gl_nodes.proofs.Childless.{leaf_goes}
use Rattle.gl_nodes.proofs.tree.NodeTree.remove_leaf.Goals as goal

pub returns-clause-ok : goal.returns-clause-ok
returns-clause-ok c = leaf_goes c.args.self.now c.remove_range.new.self c.args.node (c.is_leaf.ensures c.if-not-is_leaf.false) c.remove_range.ensures.removes c.remove_range.ensures.flat
