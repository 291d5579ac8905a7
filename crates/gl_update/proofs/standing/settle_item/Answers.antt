use Rattle.gl_seats.specs.Parts.{body_nest}
use Rattle.gl_update.proofs.Settling.{stays_settled}
use Rattle.gl_update.proofs.standing.settle_item.Goals as goal

pub returns : goal.returns
returns c = record {
  settles = λ n. stays_settled c.args.vm.now.tree c.args.moves c.args.seat.now c.in_ok-seat.field-0 (body_nest n c.args.body.now c.args.comment.now) c.if-moves.false c.in_ok-seat.ensures.parent (c.in_ok-seat.ensures.behind n);
}
