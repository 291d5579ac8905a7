use Rattle.std.proofs.Common.{◌≡◌, length}
use Rattle.gl_ast.specs.Words.{number_from}
use Rattle.gl_lex.proofs.words.fits.Given as goal

abbrev pub invariant-loop-rest : goal.invariant-loop-rest
invariant-loop-rest l = number_from l.number l.rest ≡ number_from 0 l.fn.digits

abbrev pub decreases-loop-rest : goal.decreases-loop-rest
decreases-loop-rest l = length l.rest
