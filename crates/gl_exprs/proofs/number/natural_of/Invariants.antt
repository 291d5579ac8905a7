use Rattle.std.proofs.Common.{◌≡◌, ◌≤◌, length}
use Rattle.gl_ast.specs.Words.{number_from, greatest}
use Rattle.gl_exprs.proofs.number.natural_of.Given as goal

abbrev pub invariant-loop-digit : goal.invariant-loop-digit
invariant-loop-digit l = (number_from l.n l.scan ≡ number_from 0 l.fn.scan) × (l.n ≤ greatest)

abbrev pub decreases-loop-digit : goal.decreases-loop-digit
decreases-loop-digit l = length l.scan
