use Rattle.std.proofs.Common.{◌≡◌, ◌++◌, drop, not}
use Rattle.std.specs.Prelude.{int_lt, ◌&&◌}
use Rattle.gl_value.specs.Helpers.{at_places, is_before}
use Rattle.gl_value.specs.View.{view, seen_items}
use Rattle.gl_helpers.proofs.lists.slice.Given as goal

-- what is made so far, and what is left to make, are the whole
abbrev pub invariant-loop-place : goal.invariant-loop-place
invariant-loop-place l = l.list ++ at_places (λ p. not (int_lt p l.from) && is_before p (view l.end)) l.place (seen_items (drop l.place l.items)) ≡ at_places (λ p. not (int_lt p l.from) && is_before p (view l.end)) 0 (seen_items l.items)
