use Rattle.std.proofs.Common.{◌≡◌, take}
use Rattle.gl_value.specs.View.{seen_pairs}
use Rattle.gl_value.proofs.record.copied.Given as goal

-- what is copied so far is a copy of the first pairs
abbrev pub invariant-loop-pair : goal.invariant-loop-pair
invariant-loop-pair l = seen_pairs l.copies.items ≡ seen_pairs (take l.pair-index l.pair-items)
