use Rattle.std.proofs.Common.{◌≡◌, ◌≤◌, length}
use Rattle.gl_base.specs.Answers.{◌>>=◌}
use Rattle.gl_ast.specs.TokenText.{referable}
use Rattle.gl_exprs.specs.Referring.{base, value_from, code_in}
use Rattle.gl_exprs.proofs.decode.code_in.Given as goal

abbrev pub invariant-loop-c : goal.invariant-loop-c
invariant-loop-c l = ((value_from l.hexadecimal l.n l.scan >>= referable) ≡ code_in l.fn.hexadecimal l.fn.scan) × (l.n ≤ 1114111) × (l.base ≡ base l.hexadecimal)

abbrev pub decreases-loop-c : goal.decreases-loop-c
decreases-loop-c l = length l.scan
