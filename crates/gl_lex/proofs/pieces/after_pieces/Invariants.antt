use Rattle.std.proofs.Common.{◌≡◌, length}
use Rattle.gl_ast.specs.Scans.{after_pieces}
use Rattle.gl_lex.specs.Class.{after_piece}
use Rattle.gl_lex.proofs.pieces.after_pieces.Given as goal

abbrev pub invariant-loop-next : goal.invariant-loop-next
invariant-loop-next l = after_pieces (after_piece l.piece) 0 l.rest ≡ after_pieces (after_piece l.fn.piece) 0 l.fn.bytes

abbrev pub decreases-loop-next : goal.decreases-loop-next
decreases-loop-next l = length l.rest
