use Rattle.std.proofs.Common.{◌≡◌, ℕ, ◌<◌, ◌≤◌, get_or, length, slice_get}
use Rattle.gl_ast.specs.View.{seen_pairs}
use Rattle.gl_cycles.specs.Marks.{mentioned}
use Rattle.gl_cycles.proofs.mentions.rows_of.Given as goal

abbrev pub invariant-loop-place : goal.invariant-loop-place
invariant-loop-place l = record {
  long : length l.rows ≡ 32;
  done : (k : ℕ) → k < l.place → get_or l.rows k 0 ≡ mentioned (seen_pairs l.getters) (slice_get (seen_pairs l.getters) k);
  empty : (k : ℕ) → l.place ≤ k → get_or l.rows k 0 ≡ 0;
}
