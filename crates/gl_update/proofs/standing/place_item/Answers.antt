use Rattle.gl_seats.specs.Parts.{body_nest}
use Rattle.gl_update.proofs.Results.{on_ok_always}
use Rattle.gl_update.proofs.Settling.{moves_placed}
use Rattle.gl_update.proofs.standing.place_item.Goals as goal

pub returns-clause-places : goal.returns-clause-places
returns-clause-places c =
    on_ok_always c.one.result
    (λ n. moves_placed c.args.vm.now.tree c.move_item.new.vm.tree c.args.moves c.args.seat.now (body_nest n c.args.body.now c.args.comment.now) c.if-not-moves.false (c.in_ok-move_item.ensures.shifts n) c.in_ok-move_item.ensures.moves)
