use Rattle.std.proofs.Common.{ap}
use Rattle.gl_nodes.proofs.Views.{on_ok}
use Rattle.gl_nodes.proofs.tree.NodeTree.put_before.Goals as goal

pub returns-clause-made : goal.returns-clause-made
returns-clause-made c = on_ok c.insert_before.result (ap (λ t. t.made)) c.insert_before.ensures.ok

pub returns-clause-moves : goal.returns-clause-moves
returns-clause-moves c = on_ok c.insert_before.result (ap (λ t. t.moves)) c.insert_before.ensures.ok

pub returns-clause-inserts : goal.returns-clause-inserts
returns-clause-inserts c = on_ok c.insert_before.result (ap (λ t. t.inserts)) c.insert_before.ensures.ok
