use Rattle.std.proofs.Common.{◌≡◌, length}
use Rattle.gl_ast.specs.TokenText as text
use Rattle.gl_exprs.proofs.name.has_dot.Given as goal

abbrev pub invariant-loop-c : goal.invariant-loop-c
invariant-loop-c l = text.has_char 46 l.scan ≡ text.has_char 46 l.fn.raw

abbrev pub decreases-loop-c : goal.decreases-loop-c
decreases-loop-c l = length l.scan
