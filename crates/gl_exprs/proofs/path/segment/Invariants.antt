use Rattle.std.proofs.Common.{◌≡◌, ◌≤◌, length}
use Rattle.gl_value.specs.Value.{split}
use Rattle.gl_exprs.specs.Pieces.{add_front}
use Rattle.gl_exprs.proofs.path.segment.Given as goal

abbrev pub invariant-loop-c : goal.invariant-loop-c
invariant-loop-c l = (l.ahead ≡ l.scan) × (add_front l.out (split 46 l.scan) ≡ split 46 l.fn.scan) × (length l.scan ≤ length l.fn.scan)

abbrev pub decreases-loop-c : goal.decreases-loop-c
decreases-loop-c l = length l.ahead
