use Rattle.std.proofs.Common.{◌≡◌, ℕ, ◌<◌, length}
use Rattle.gl_cycles.specs.Chains.{IsMarked, Chain}
use Rattle.gl_cycles.proofs.marks.close.Given as goal

abbrev pub invariant-loop-middle : goal.invariant-loop-middle
invariant-loop-middle l = record {
  long : length l.rows ≡ 32;
  sound : (i j : ℕ) → IsMarked l.rows i j → Chain l.initial.rows i j;
  keeps : (i j : ℕ) → IsMarked l.initial.rows i j → IsMarked l.rows i j;
  closed : (k : ℕ) → k < l.middle → (i j : ℕ) → IsMarked l.rows i k → IsMarked l.rows k j → IsMarked l.rows i j;
}
