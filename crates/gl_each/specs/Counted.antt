-- The keys of a list, step by step: the key of each item, and how many equal keys stand before each.
use Rattle.std.specs.Prelude.{◌≡◌, ℕ, suc, List, [], ◌∷◌, ◌++◌, map, false, codes, count_by, nat_eq}
use Rattle.std.specs.List.{list_any}
use Rattle.std.specs.Str.{bytes_eq}
use Rattle.gl_base.specs.Texts.{Text}
use Rattle.gl_value.specs.Value.{Value, same, split, key_of}
use Rattle.gl_value.specs.Proper.{IsProper}
use Rattle.gl_each.specs.Key.{Key}

-- the keys of the items, where the first has the index i
abbrev pub item_keys : Text → ℕ → List (Value ℕ) → List (Value ℕ)
item_keys k i [] = []
item_keys k i (v ∷ vs) = key_of k i v ∷ item_keys k (suc i) vs

-- a key text that is the name of one property
pub record IsName (k : Text) : Type 0 where
  pub index : bytes_eq k (codes "@index") ≡ false
  pub identity : bytes_eq k (codes "@identity") ≡ false
  pub piece : split 46 k ≡ k ∷ []

-- how often a value stands in a list
abbrev pub times : Value ℕ → List (Value ℕ) → ℕ
times k ks = count_by (same nat_eq k) ks

-- how often each stands before its place, where `before` stands before the list
abbrev pub counts_after : List (Value ℕ) → List (Value ℕ) → List ℕ
counts_after before [] = []
counts_after before (k ∷ ks) = times k before ∷ counts_after (before ++ k ∷ []) ks

abbrev pub counts : List (Value ℕ) → List ℕ
counts ks = counts_after [] ks

-- the values of keys, and keys with no equal one before them
abbrev pub key_values : List Key → List (Value ℕ)
key_values ks = map (λ k. k.0) ks

abbrev pub first_keys : List (Value ℕ) → List Key
first_keys vs = map (λ v. (v, 0)) vs

-- keys with these occurrences, as far as there are some
abbrev pub put_counts : List Key → List ℕ → List Key
put_counts [] ns = []
put_counts (k ∷ ks) [] = k ∷ ks
put_counts (k ∷ ks) (n ∷ ns) = (k.0, n) ∷ put_counts ks ns

-- no number stands before its place, where `before` stands before the list
abbrev pub AreNew : List ℕ → List ℕ → Type 0
AreNew before [] = Unit {0}
AreNew before (n ∷ ns) = (list_any (nat_eq n) before ≡ false) × AreNew (before ++ n ∷ []) ns

abbrev pub AreProper : List (Value ℕ) → Type 0
AreProper [] = Unit {0}
AreProper (v ∷ vs) = IsProper v × AreProper vs

abbrev pub KeysAreProper : List Key → Type 0
KeysAreProper [] = Unit {0}
KeysAreProper (k ∷ ks) = IsProper k.0 × KeysAreProper ks
