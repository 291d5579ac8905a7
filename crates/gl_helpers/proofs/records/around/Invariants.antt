use Rattle.std.proofs.Common.{◌≡◌, ◌++◌, ℕ, take, drop}
use Rattle.gl_value.specs.Value as v
use Rattle.gl_value.specs.View.{seen_pairs}
use Rattle.gl_helpers.specs.Records.{put_pair}
use Rattle.gl_helpers.proofs.Puts.{Orders}
use Rattle.gl_helpers.proofs.records.around.Given as goal

-- the place is none of those passed
abbrev pub invariant-loop-at : goal.invariant-loop-at
invariant-loop-at l = record {
  put : (x : v.Value ℕ) → seen_pairs (take l.at l.pairs) ++ put_pair l.key x (seen_pairs (drop l.at l.pairs)) ≡ put_pair l.key x (seen_pairs l.pairs);
  orders : Orders l.key (seen_pairs (drop l.at l.pairs)) → Orders l.key (seen_pairs l.pairs);
}
