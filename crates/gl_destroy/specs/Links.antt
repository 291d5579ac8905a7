-- The lists of children, and when they are a forest. Words of private clauses.
use Rattle.std.specs.Prelude.{◌≡◌, ℕ, zero, suc, ◌+◌, ◌<◌, ◌≤◌, ◌==◌, List, [], ◌∷◌, ◌++◌, filter, reverse, is_some, IsSome, Option, Some, None, option_map, if◌then◌else◌, ◌⊎◌}
use Rattle.gl_arena.specs.Id.{Id, same_id}
use Rattle.gl_destroy.specs.What.{What}
use Rattle.gl_destroy.specs.Forest.{Forest, end, tree, hit, times, children_first}

-- what each live id stands for, and its list of children, in which ids may stand that live no more
abbrev pub Look : Type 0
Look = Id → Option (What × List Id)

-- the ids that live
abbrev pub living : Look → List Id → List Id
living l ids = filter (λ i. is_some (l i)) ids

-- the ids of the trees themselves
abbrev pub tops : Forest → List Id
tops end = []
tops (tree i w k r) = i ∷ tops r

-- how many stand in a forest
abbrev pub size : Forest → ℕ
size end = 0
size (tree i w k r) = suc (size k + size r)

-- each of the ids was given before
abbrev pub AreGiven : ℕ → List Id → Type 0
AreGiven made [] = Unit {0}
AreGiven made (i ∷ is) = (i.1 < made) × AreGiven made is

-- the id stands for this, and these of its children live
abbrev pub Shows : Look → Id → What → List Id → Type 0
Shows l i w ks = (cs : List Id) × (l i ≡ Some (w, cs)) × (living l cs ≡ ks)

-- the look-up has this forest
abbrev pub Linked : Look → Forest → Type 0
Linked l end = Unit {0}
Linked l (tree i w k r) = Shows l i w (tops k) × Linked l k × Linked l r

-- Reading a forest, with a count of steps.
module _ (l : Look) where
  abbrev pub read_at : (List Id → Forest) → Id → List Id → Option (What × List Id) → Forest
  read_at rest i is None = end
  read_at rest i is (Some e) = tree i e.0 (rest (living l e.1)) (rest is)

  abbrev pub read : ℕ → List Id → Forest
  read zero is = end
  read (suc n) [] = end
  read (suc n) (i ∷ is) = read_at (read n) i is (l i)

-- the trees of a list of ids, of which some may live no more
abbrev pub forest_in : Look → ℕ → List Id → Forest
forest_in l made ids = read l made (living l ids)

-- the look-up is this forest, each id stands once in it, and all ids in lists were given before
pub record IsForest (l : Look) (made : ℕ) (ids : List Id) (f : Forest) : Type 0 where
  pub heads : living l ids ≡ tops f
  pub linked : Linked l f
  pub once : (i : Id) → times i f ≤ 1
  pub fits : size f ≤ made
  pub given : AreGiven made ids
  pub lists : (i : Id) (w : What) (cs : List Id) → l i ≡ Some (w, cs) → AreGiven made cs

-- and what lives stands in the forest
pub record IsWhole (l : Look) (made : ℕ) (ids : List Id) (f : Forest) : Type 0 where
  pub forest : IsForest l made ids f
  pub stands : (i : Id) → IsSome (l i) → 0 < times i f

-- one more in the list of children of a parent
abbrev pub one_if : Id → Id → Id → List Id
one_if i p x = if same_id i p then x ∷ [] else []

abbrev pub more_children : List Id → What × List Id → What × List Id
more_children ids e = (e.0, e.1 ++ ids)

unfoldable pub listed : Id → Id → Look → Look
listed p x l i = option_map (more_children (one_if i p x)) (l i)

-- in the list of a parent, or in that of the trees themselves
abbrev pub listed_in : Option Id → Id → Look → Look
listed_in None x l = l
listed_in (Some p) x l = listed p x l

abbrev pub ids_with : Option Id → Id → List Id → List Id
ids_with None x ids = ids ++ x ∷ []
ids_with (Some p) x ids = ids

-- the list of an id has lost those that live no more
pub record Lost (old new : Look) (i : Id) : Type 0 where
  pub what : What
  pub ids : List Id
  pub was : old i ≡ Some (what, ids)
  pub is : new i ≡ Some (what, living old ids)

-- some lists have lost those that live no more
abbrev pub IsThinned : Look → Look → Type 0
IsThinned old new = (i : Id) → (new i ≡ old i) ⊎ Lost old new i

-- how often an id stands in a list
abbrev pub times_in : {A : Type 0} → Id → List (Id × A) → ℕ
times_in x [] = 0
times_in x (e ∷ es) = hit x e.0 + times_in x es

-- some ids live no more
unfoldable pub ended : (Id → ℕ) → Look → Look
ended g l i = if g i == 0 then l i else None

-- the tree of a live id
abbrev pub tree_in : Look → ℕ → Id → Forest
tree_in l made i = read l made (i ∷ [])

-- the look-up has this forest, which is the one tree of an id
pub record IsTree (l : Look) (made : ℕ) (i : Id) (f : Forest) : Type 0 where
  pub heads : tops f ≡ i ∷ []
  pub linked : Linked l f
  pub fits : size f ≤ made

-- What is left of a walk: the trees of a stack's ids, the last id's first. Before what was reached, the last first, they
-- make the whole.
pub record IsLeft (l : Look) (made : ℕ) (stack : List Id) (order : List (Id × What)) (whole : List (Id × What)) : Type 0 where
  pub forest : Forest
  pub heads : tops forest ≡ stack
  pub linked : Linked l forest
  pub fits : size forest ≤ made
  pub is : children_first forest ++ reverse order ≡ whole
