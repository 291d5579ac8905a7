use Rattle.std.proofs.lemmas.Result.{on_ok_weaker}
use Rattle.gl_nodes.specs.Flat.{stamp_of}
use Rattle.gl_seats.proofs.Steps.{node_seats}
use Rattle.gl_seats.proofs.seating.seat_node.Goals as goal

pub returns-clause-seats : goal.returns-clause-seats
returns-clause-seats c = on_ok_weaker c.put_before.result (node_seats c.args.tree.now c.put_before.new.self (stamp_of c.args.seat.now.parent) (stamp_of c.args.seat.now.next) c.args.node.1 c.put_before.ensures.sound) c.put_before.ensures.ok
