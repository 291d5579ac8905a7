use Rattle.std.proofs.Common.{sym, subst}
use Rattle.gl_nodes.specs.Flat.{TakesNodes}
use Rattle.gl_nodes.proofs.Asked.{takes_top}
use Rattle.gl_nodes.proofs.tree.NodeTree.takes.Goals as goal

pub returns-in-None : goal.returns-in-None
returns-in-None c = λ h. subst (TakesNodes c.args.self.now) (sym c.in-None.is) (takes_top c.args.self.now)
