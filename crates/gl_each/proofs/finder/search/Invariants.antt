use Rattle.std.proofs.Common.{ℕ, Some, ◌<◌}
use Rattle.std.specs.Prelude.{◌≢◌, position}
use Rattle.gl_each.specs.Key.{same_key}
use Rattle.gl_each.specs.View.{key_view, seen_keys}
use Rattle.gl_each.proofs.finder.search.Given as goal

-- none of the places so far
abbrev pub invariant-loop-place : goal.invariant-loop-place
invariant-loop-place l = (i : ℕ) → i < l.place → position (same_key (key_view l.key)) (seen_keys l.old) ≢ Some i
