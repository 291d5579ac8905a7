use Rattle.std.proofs.Common.{◌≡◌, ℕ, ◌<◌, ◌≤◌, get_or}
use Rattle.gl_cycles.specs.Chains.{through}
use Rattle.gl_cycles.proofs.marks.lead_through.Given as goal

-- the rows before the index are led through, the others are as they were
abbrev pub invariant-loop-row : goal.invariant-loop-row
invariant-loop-row l = record {
  led : (k : ℕ) → k < l.row-index → get_or l.rows k 0 ≡ through l.middle l.onward (get_or l.initial.rows k 0);
  kept : (k : ℕ) → l.row-index ≤ k → get_or l.rows k 0 ≡ get_or l.initial.rows k 0;
}
