use Rattle.std.proofs.Common.{◌≡◌, ◌++◌, length}
use Rattle.gl_ast.specs.TokenText as text
use Rattle.gl_exprs.specs.Pieces.{front}
use Rattle.gl_exprs.proofs.words.push_unescaped.Given as goal

abbrev pub invariant-loop-c : goal.invariant-loop-c
invariant-loop-c l = l.out ++ text.unescaped l.quote (front l.scan) ≡ l.fn.out ++ text.unescaped l.fn.quote (front l.fn.scan)

abbrev pub decreases-loop-c : goal.decreases-loop-c
decreases-loop-c l = length l.scan
