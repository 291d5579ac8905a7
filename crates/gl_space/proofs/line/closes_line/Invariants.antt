use Rattle.std.proofs.Common.{◌≡◌, length}
use Rattle.gl_ast.specs.Settling.{closes_line}
use Rattle.gl_space.proofs.line.closes_line.Given as goal

abbrev pub invariant-loop-rest : goal.invariant-loop-rest
invariant-loop-rest l = closes_line l.rest ≡ closes_line l.fn.back

abbrev pub decreases-loop-rest : goal.decreases-loop-rest
decreases-loop-rest l = length l.rest
