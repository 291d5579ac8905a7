use Rattle.std.proofs.Common.{◌≡◌, length}
use Rattle.gl_ast.specs.Settling.{closing}
use Rattle.gl_space.proofs.mark.closing.Given as goal

abbrev pub invariant-loop-rest : goal.invariant-loop-rest
invariant-loop-rest l = closing l.rest ≡ closing l.fn.tokens

abbrev pub decreases-loop-rest : goal.decreases-loop-rest
decreases-loop-rest l = length l.rest
