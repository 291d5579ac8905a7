use Rattle.std.proofs.Common.{◌≡◌, ◌++◌, length}
use Rattle.gl_ast.specs.TokenText.{decoded_from}
use Rattle.gl_exprs.proofs.decode.decoded.Given as goal

abbrev pub invariant-loop-c : goal.invariant-loop-c
invariant-loop-c l = l.out ++ decoded_from 0 l.scan ≡ decoded_from 0 l.fn.raw

abbrev pub decreases-loop-c : goal.decreases-loop-c
decreases-loop-c l = length l.scan
