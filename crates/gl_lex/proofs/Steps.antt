-- Pieces, and numbers that are too large.
use Rattle.std.proofs.Common.{◌≡◌, ◌<◌, ◌≤◌, ◌+◌, ◌-◌, ◌*◌, ℕ, List, [], ◌∷◌, false, length, ap, arith, leb, length-append}
use Rattle.std.proofs.lemmas.Bool.Decides.{nat_tests}
use Rattle.gl_ast.specs.Words.{number_from}
use Rattle.gl_ast.proofs.Forward.{Moves, Steps}
use Rattle.gl_ast.proofs.Progress.{more_class_moves, segment_moves, spaced_name_moves}
use Rattle.gl_lex.specs.Class.{after_piece}
use Rattle.gl_lex.specs.declared.pieces.Piece.{Piece}
use Rattle.gl_lex.specs.declared.pieces.Piece.TheVariants as p

pub piece_moves : (piece : Piece) → Moves (after_piece piece)
piece_moves p.ClassPart = more_class_moves
piece_moves p.Segment = segment_moves
piece_moves p.Name = spaced_name_moves

pub shorter : (bs rest : List ℕ) → Steps bs rest → length rest < length bs
shorter bs rest s = omega (arith, length-append s.1 rest, ap length s.2)

-- further digits make no number smaller
pub grows : (n : ℕ) (digits : List ℕ) → n ≤ number_from n digits
grows n [] = omega arith
grows n (b ∷ bs) = let h = grows (n * 10 + (b - 48)) bs in omega (arith, h)

pub too_large : (limit n : ℕ) (digits : List ℕ) → limit < n → leb (number_from n digits) limit ≡ false
too_large limit n digits h = let g = grows n digits in grind (arith, nat_tests)
