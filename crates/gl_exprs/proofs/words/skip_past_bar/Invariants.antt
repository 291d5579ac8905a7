use Rattle.std.proofs.Common.{◌≡◌, length}
use Rattle.gl_ast.specs.TokenText as text
use Rattle.gl_exprs.proofs.words.skip_past_bar.Given as goal

abbrev pub invariant-loop-c : goal.invariant-loop-c
invariant-loop-c l = text.beyond 124 l.scan ≡ text.beyond 124 l.fn.scan

abbrev pub decreases-loop-c : goal.decreases-loop-c
decreases-loop-c l = length l.scan
