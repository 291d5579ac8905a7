use Rattle.std.proofs.Common.{◌≡◌, ◌+◌, List, ℕ, ◌++◌, length}
use Rattle.gl_outside.proofs.real.read_up_to.Given as goal

abbrev pub invariant-loop-left : goal.invariant-loop-left
invariant-loop-left g l =
    (bytes : List ℕ) × (length bytes + l.left ≡ l.fn.most) × (l.into.items ≡ l.fn.into.items ++ bytes)

abbrev pub decreases-loop-left : goal.decreases-loop-left
decreases-loop-left g l = l.left
