-- The plan by which a list of keys becomes another one.
use Rattle.std.specs.Prelude.{◌≡◌, ◌≢◌, ℕ, List, [], ◌∷◌, ◌++◌, filter, length, Bool, true, false, not, nat_eq, nat_lt, Some, slice_get}
use Rattle.std.specs.List.{list_any, range_with_len}

-- What is done for one new item: the old item at a place is kept where it stands, or it is moved, or a new item is put in.
pub data Step : Type 0 where
  retain : ℕ → Step
  move : ℕ → Step
  insert : Step

-- the old places that the steps keep, in the order of the steps
abbrev pub kept_by : Step → List ℕ
kept_by (retain i) = i ∷ []
kept_by (move i) = i ∷ []
kept_by insert = []

abbrev pub kept : List Step → List ℕ
kept [] = []
kept (s ∷ ss) = kept_by s ++ kept ss

-- one of the places is greater
abbrev pub is_passed : List ℕ → ℕ → Bool
is_passed places i = list_any (λ j. nat_lt i j) places

-- the place is among the places
abbrev pub has_place : List ℕ → ℕ → Bool
has_place places i = list_any (nat_eq i) places

-- of n old places, those that no step keeps, rising
abbrev pub unkept : ℕ → List Step → List ℕ
unkept n ss = filter (λ i. not (has_place (kept ss) i)) (range_with_len 0 n)

module _ {K : Type 0} (old : List K) where
  -- The step of a key, where `before` are the old places that earlier steps keep. A key that is in the old list at a place is kept
  -- or moved from there, and moved exactly where an earlier step keeps a greater place. For any other key an item is put in.
  abbrev pub IsStep : List ℕ → K → Step → Type 0
  IsStep before k (retain i) = (slice_get old i ≡ Some k) × (is_passed before i ≡ false)
  IsStep before k (move i) = (slice_get old i ≡ Some k) × (is_passed before i ≡ true)
  IsStep before k insert = (i : ℕ) → slice_get old i ≢ Some k

  -- one step for each new key, in order
  abbrev pub AreSteps : List ℕ → List K → List Step → Type 0
  AreSteps before [] [] = Unit {0}
  AreSteps before (k ∷ ks) (s ∷ ss) = IsStep before k s × AreSteps (before ++ kept_by s) ks ss
  AreSteps before [] (s ∷ ss) = ⊥
  AreSteps before (k ∷ ks) [] = ⊥

  -- The plan: one step for each new key in order, and the old places that no step keeps, rising.
  pub record IsSync (new : List K) (steps : List Step) (removed : List ℕ) : Type 0 where
    pub steps_are : AreSteps [] new steps
    pub removed_are : removed ≡ unkept (length old) steps
