use Rattle.std.proofs.Common.{◌≡◌, length}
use Rattle.gl_ast.specs.Settling.{opens_line}
use Rattle.gl_space.proofs.line.opens_line.Given as goal

abbrev pub invariant-loop-rest : goal.invariant-loop-rest
invariant-loop-rest l = opens_line l.rest ≡ opens_line l.fn.front

abbrev pub decreases-loop-rest : goal.decreases-loop-rest
decreases-loop-rest l = length l.rest
