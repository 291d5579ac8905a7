use Rattle.std.proofs.lemmas.Result.{on_ok_weaker}
use Rattle.gl_nodes.specs.Flat.{stamp_of}
use Rattle.gl_code.proofs.Hanging.{hangs_leaf}
use Rattle.gl_code.proofs.standing.hang_leaf.Goals as goal

pub returns-clause-hangs : goal.returns-clause-hangs
returns-clause-hangs c = on_ok_weaker c.put_last.result (hangs_leaf c.args.tree.now c.put_last.new.self (stamp_of c.args.parent.now) c.args.node.1 c.put_last.ensures.sound) c.put_last.ensures.ok
