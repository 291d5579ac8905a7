-- What is kept of modifiers: the two lists may have ids that live no more. Words of private clauses.
use Rattle.std.specs.Prelude.{◌≡◌, ◌⊎◌, ℕ, ◌<◌, ◌==◌, List, [], ◌∷◌, ◌++◌, Option, None, if◌then◌else◌}
use Rattle.gl_arena.specs.Id.{Id}
use Rattle.gl_arena.specs.Arena.{Arena, named, IsStamped}
use Rattle.gl_mods.specs.Mods.{Installed, Mods, ids_at, living, times, count_at}

-- the modifiers, of lists in which ids may stand that live no more
abbrev pub seen : Arena Installed → List (Id × List Id) → List Id → List Id → Mods
seen a nodes installs updates = record { table = a; nodes = nodes; installs = living a installs; updates = living a updates }

-- each of the ids was given before
abbrev pub AreGiven : ℕ → List Id → Type 0
AreGiven made [] = Unit {0}
AreGiven made (i ∷ is) = (i.1 < made) × AreGiven made is

pub record IsKept (a : Arena Installed) (nodes : List (Id × List Id)) (installs updates : List Id) : Type 0 where
  pub stamps : IsStamped a
  pub on : (n i : Id) → times i (ids_at n nodes) ≡ count_at n (named a i)
  pub installs_given : AreGiven a.made installs
  pub updates_given : AreGiven a.made updates

-- the list, maybe with one more
abbrev pub IsMaybeMore : Id → List Id → List Id → Type 0
IsMaybeMore i xs ys = (ys ≡ xs) ⊎ (ys ≡ xs ++ i ∷ [])

-- some ids live no more
unfoldable pub ended : {A : Type 0} → (Id → ℕ) → (Id → Option A) → Id → Option A
ended g l i = if g i == 0 then l i else None
