use Rattle.std.proofs.Common.{◌≡◌, ◌++◌, drop, not}
use Rattle.std.specs.Ordering.{int_eq}
use Rattle.gl_value.specs.Helpers.{at_places}
use Rattle.gl_value.specs.View.{seen_items}
use Rattle.gl_helpers.proofs.lists.without_place.Given as goal

-- what is made so far, and what is left to make, are the whole
abbrev pub invariant-loop-place : goal.invariant-loop-place
invariant-loop-place l = l.list ++ at_places (λ p. not (int_eq p l.at)) l.place (seen_items (drop l.place l.items)) ≡ at_places (λ p. not (int_eq p l.at)) 0 (seen_items l.items)
