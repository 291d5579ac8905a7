use Rattle.std.proofs.Common.{◌≡◌, length}
use Rattle.gl_ast.specs.Settling.{strips}
use Rattle.gl_space.specs.Trim.{trim}
use Rattle.gl_space.proofs.trim.without_run.Given as goal

abbrev pub invariant-loop-rest : goal.invariant-loop-rest
invariant-loop-rest l = trim (strips l.edge) l.rest ≡ trim (strips l.fn.edge) l.fn.text

abbrev pub decreases-loop-rest : goal.decreases-loop-rest
decreases-loop-rest l = length l.rest
