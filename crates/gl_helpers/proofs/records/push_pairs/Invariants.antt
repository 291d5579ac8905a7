use Rattle.std.proofs.Common.{◌≡◌, ◌++◌, drop}
use Rattle.gl_value.specs.View.{seen_pairs}
use Rattle.gl_helpers.proofs.records.push_pairs.Given as goal

-- what is there so far, and what is left to add, are the whole
abbrev pub invariant-loop-pair : goal.invariant-loop-pair
invariant-loop-pair l = l.out ++ seen_pairs (drop l.pair-index l.pairs) ≡ l.fn.out ++ seen_pairs l.pairs
