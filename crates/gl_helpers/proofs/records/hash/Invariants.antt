use Rattle.std.proofs.Common.{◌≡◌, ◌++◌, []}
use Rattle.gl_value.specs.View.{seen_entries}
use Rattle.gl_helpers.specs.Lent.{seen_lent}
use Rattle.gl_helpers.specs.Records.{put_all}
use Rattle.gl_helpers.proofs.records.hash.Given as goal

-- what is made so far, and what is left to make, are the whole
abbrev pub invariant-loop-name : goal.invariant-loop-name
invariant-loop-name l =
    (goal.iterator-loop-name).can_next l.name-iterator × (goal.iterator-loop-name).is_finite l.name-iterator
    × (l.record ++ seen_lent l.name-iterator ≡ put_all [] (seen_entries l.named))
