use Rattle.std.proofs.Common.{◌≡◌, ◌∷◌, ◌++◌, length}
use Rattle.gl_ast.specs.TokenText as text
use Rattle.gl_exprs.specs.Pieces.{after_dot}
use Rattle.gl_exprs.proofs.path.names_of.Given as goal

abbrev pub invariant-loop-rest : goal.invariant-loop-rest
invariant-loop-rest l = l.head ∷ (l.rest ++ after_dot l.scan) ≡ text.names_of l.fn.raw

abbrev pub decreases-loop-rest : goal.decreases-loop-rest
decreases-loop-rest l = length l.scan
