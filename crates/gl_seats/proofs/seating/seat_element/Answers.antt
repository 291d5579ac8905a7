use Rattle.std.proofs.Common.{Some, ◌∙◌}
use Rattle.std.proofs.lemmas.Result.{on_ok_weaker}
use Rattle.gl_nodes.specs.Flat.{stamp_of}
use Rattle.gl_code.specs.Hung.{Hangs}
use Rattle.gl_seats.specs.Parts.{codes_nest}
use Rattle.gl_seats.proofs.CodeRows.{on_ok_each, no_tables}
use Rattle.gl_seats.proofs.Steps.{tree_seats}
use Rattle.gl_seats.proofs.seating.seat_element.Goals as goal

pub returns-clause-nodes : goal.returns-clause-nodes
returns-clause-nodes c = on_ok_weaker c.hang.result (λ h. h.nodes ∙ c.in_ok-put_before.ensures.ok.nodes) (c.hang.ensures.hangs no_tables)

pub returns-clause-seats : goal.returns-clause-seats
returns-clause-seats c = on_ok_weaker c.hang.result
    (λ h n. tree_seats c.args.tree.now c.put_before.new.self c.hang.new.tree (stamp_of c.args.seat.now.parent) (stamp_of c.args.seat.now.next) c.args.node.1 (codes_nest n c.args.body.now) c.put_before.ensures.sound c.hang.ensures.sound c.in_ok-put_before.ensures.ok (h n))
    (on_ok_each c.hang.result (λ n. Hangs c.put_before.new.self c.hang.new.tree (Some c.args.node.1) (codes_nest n c.args.body.now)) c.hang.ensures.hangs)
