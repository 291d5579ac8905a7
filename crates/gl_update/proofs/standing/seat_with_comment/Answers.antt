use Rattle.gl_update.proofs.Still.{commented_on}
use Rattle.std.proofs.Common.{◌∙◌}
use Rattle.gl_nodes.specs.Flat.{stamp_of}
use Rattle.gl_seats.specs.Parts.{body_nest}
use Rattle.gl_update.proofs.Renewed.{seats_after}
use Rattle.gl_update.proofs.standing.seat_with_comment.Goals as goal

pub returns-clause-step : goal.returns-clause-step
returns-clause-step c = λ n touched agrees. commented_on n _ c.comment_for.new.vm c.seat_all.new.vm c.in_ok-comment.comment (c.in_ok-comment.ensures.step n touched agrees) c.in_ok-seat_all.ensures.step

pub returns-clause-seats : goal.returns-clause-seats
returns-clause-seats c = λ n.
    seats_after c.args.vm.now.tree c.comment_for.new.vm.tree c.seat_all.new.vm.tree (stamp_of c.args.seat.now.parent) (stamp_of c.args.seat.now.next) (body_nest n c.args.body.now c.in_ok-comment.comment) c.in_ok-comment.ensures.roots (c.in_ok-seat_all.ensures.seats n)

pub returns-clause-moves : goal.returns-clause-moves
returns-clause-moves c = c.in_ok-seat_all.ensures.moves ∙ c.in_ok-comment.ensures.roots.moves
