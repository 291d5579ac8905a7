use Rattle.std.proofs.Common.{ℕ, ◌<◌}
use Rattle.gl_cycles.specs.Chains.{IsMarked}
use Rattle.gl_cycles.proofs.finding.first_in.Given as goal

-- no row so far has its own mark
abbrev pub invariant-loop-place : goal.invariant-loop-place
invariant-loop-place l = (k : ℕ) → k < l.place → IsMarked l.rows k k → ⊥
