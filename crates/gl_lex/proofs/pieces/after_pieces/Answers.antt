use Rattle.std.proofs.Common.{sym, ◌∙◌}
use Rattle.gl_ast.proofs.Forward.{piece_step, piece_end}
use Rattle.gl_lex.specs.Class.{after_piece}
use Rattle.gl_lex.proofs.Steps.{piece_moves, shorter}
use Rattle.gl_lex.proofs.pieces.after_pieces.Goals as goal

pub loop-next-smaller : goal.loop-next-smaller
loop-next-smaller c =
    let rest = c.loop-next.rest.now in
    let next = c.in-Some.next.now in
    shorter rest next (piece_moves c.args.piece rest next (sym c.in-Some.ensures))

pub loop-next-preserved : goal.loop-next-preserved
loop-next-preserved c =
    let rest = c.loop-next.rest.now in
    let next = c.in-Some.next.now in
    let e = sym c.in-Some.ensures in
    sym (piece_step (after_piece c.args.piece) rest next e (piece_moves c.args.piece rest next e)) ∙ c.loop-next.invariant

pub returns : goal.returns
returns c = sym (piece_end (after_piece c.args.piece) c.loop-next.rest.now (sym c.in_default.ensures)) ∙ c.loop-next.invariant
