-- Between a tree in which no key stands twice and itself nothing is moved.
use Rattle.std.proofs.Common.{◌≡◌, ◌≢◌, ◌≤◌, ◌<◌, ℕ, suc, ◌+◌, Bool, true, false, ◌||◌, List, [], ◌∷◌, ◌++◌, Option, Some, slice_get, refl, sym, ◌∙◌, ap, ap₂, arith, inl, inr, ltb-true}
use Rattle.std.specs.Prelude.{nat_lt, if◌then◌else◌}
use Rattle.gl_ast.specs.ExprCode.{owned}
use Rattle.gl_meaning.specs.Known.{Among}
use Rattle.gl_meaning.specs.Laws.{NoRepeat}
use Rattle.gl_plain.specs.Live as v
use Rattle.gl_plain.specs.Live.{Live, Items, no_items, item_live, Lives, no_lives, live_and}
use Rattle.gl_each.specs.Key.{Key, same_key}
use Rattle.gl_each.specs.SameKeys.{same_key-Decides}
use Rattle.gl_each.specs.Sync.{Step, retain, is_passed, AreSteps}
use Rattle.gl_each.specs.Moved.{moves}
use Rattle.gl_kept.specs.Between.{moves_between, lives_with, kept_with, moved_between, moved_items, moved_bodies}
use Rattle.gl_kept.specs.Listed.{spot_keys}
use Rattle.gl_kept.proofs.Between.{moves_are_planned}
use Rattle.gl_guards.specs.Once.{KeysOnce, KeysOnceItems, KeysOnceIn}

-- Keys in their places

-- none of the places is behind this one, or one that comes after it
abbrev Below : ℕ → List ℕ → Type 0
Below i places = (j : ℕ) → i ≤ j → is_passed places j ≡ false

not_below : (i j : ℕ) → i ≤ j → nat_lt j i ≡ false
not_below i j le = by (nat_lt j i) refl where
  by : (b : Bool) → nat_lt j i ≡ b → b ≡ false
  by true e = let lt : j < i = ltb-true j i e in absurd (omega (arith, le, lt))
  by false e = refl

one_more_below : (places : List ℕ) (i j : ℕ) → i ≤ j → is_passed places j ≡ false → is_passed (places ++ i ∷ []) j ≡ false
one_more_below [] i j le none = ap (λ b. b || false) (not_below i j le)
one_more_below (k ∷ ks) i j le none = by (nat_lt j k) none (one_more_below ks i j le) where
  by : (b : Bool) → (b || is_passed ks j) ≡ false → (is_passed ks j ≡ false → is_passed (ks ++ i ∷ []) j ≡ false) → (b || is_passed (ks ++ i ∷ []) j) ≡ false
  by true e more = e
  by false e more = more e

-- each key is kept, from a place on
abbrev retains : ℕ → List Key → List Step
retains i [] = []
retains i (k ∷ ks) = retain i ∷ retains (suc i) ks

none_moves : (i : ℕ) (ks : List Key) → moves (retains i ks) ≡ 0
none_moves i [] = refl
none_moves i (k ∷ ks) = none_moves (suc i) ks

-- the keys stand in the list from a place on
abbrev StandsFrom : List Key → ℕ → List Key → Type 0
StandsFrom old i [] = Unit {0}
StandsFrom old i (k ∷ ks) = (slice_get old i ≡ Some k) × StandsFrom old (suc i) ks

further : (x : Key) (old : List Key) (i : ℕ) (ks : List Key) → StandsFrom old i ks → StandsFrom (x ∷ old) (suc i) ks
further x old i [] h = tt
further x old i (k ∷ ks) h = (h.0, further x old (suc i) ks h.1)

stands_in_itself : (ks : List Key) → StandsFrom ks 0 ks
stands_in_itself [] = tt
stands_in_itself (k ∷ ks) = (refl, further k ks 0 ks (stands_in_itself ks))

are_retained : (old : List Key) (i : ℕ) (before : List ℕ) (ks : List Key) → StandsFrom old i ks → Below i before → AreSteps old before ks (retains i ks)
are_retained old i before [] h below = tt
are_retained old i before (k ∷ ks) h below =
    ((h.0, below i (omega arith)), are_retained old (suc i) (before ++ i ∷ []) ks h.1 (λ j le. one_more_below before i j (omega (arith, le)) (below j (omega (arith, le)))))

-- no key moves
pub none_passed : (ks : List Key) → NoRepeat ks → moves_between ks ks ≡ 0
none_passed ks once =
    sym (moves_are_planned ks ks [] (retains 0 ks) once (are_retained ks 0 [] ks (stands_in_itself ks) (λ j le. refl))) ∙ none_moves 0 ks

-- Items by their keys

-- each of these items is found by its key
abbrev Found : Items → Items → Type 0
Found all no_items = Unit {0}
Found all (item_live z k ls is) = (lives_with (owned z.key, z.occurrence) all ≡ Some ls) × Found all is

apart : (k l : Key) → k ≢ l → same_key k l ≡ false
apart k l ne = by (same_key k l) refl where
  by : (b : Bool) → same_key k l ≡ b → b ≡ false
  by true e = absurd (ne ((same_key-Decides k l).0 e))
  by false e = refl

found_further : (z : v.ItemSpot) (o : Option ℕ) (ls : Lives) (all is : Items) → (Among (owned z.key, z.occurrence) (spot_keys is) → ⊥) → Found all is → Found (item_live z o ls all) is
found_further z o ls all no_items other h = tt
found_further z o ls all (item_live y k ms is) other h =
    let x : Key = (owned y.key, y.occurrence) in
    let w : Key = (owned z.key, z.occurrence) in
    (ap (λ b. if b then Some ls else lives_with x all) (apart x w (λ e. other (inl (sym e)))) ∙ h.0, found_further z o ls all is (λ m. other (inr m)) h.1)

found_in_itself : (is : Items) → NoRepeat (spot_keys is) → Found is is
found_in_itself no_items once = tt
found_in_itself (item_live z k ls is) once =
    let w : Key = (owned z.key, z.occurrence) in
    (ap (λ b. if b then Some ls else lives_with w is) ((same_key-Decides w w).1 refl), found_further z k ls is is once.0 (found_in_itself is once.1))

-- Trees

mutual
  pub none_moved : (l : Live) → KeysOnce l → moved_between l l ≡ 0
  none_moved (v.still n) h = refl
  none_moved (v.put_live n z) h = refl
  none_moved (v.element_live n made xs zs ls) h = none_moved_in ls h
  none_moved (v.branch_live z true k ls) h = none_moved_in ls h
  none_moved (v.branch_live z false k ls) h = none_moved_in ls h
  none_moved (v.listed z is) h =
      let keys = none_passed (spot_keys is) h.0 in
      let items = none_moved_items is is h.1 (found_in_itself is h.0) in
      let m = moves_between (spot_keys is) (spot_keys is) in
      let n = moved_items is is in
      omega (arith, keys, items)
  none_moved (v.unlisted z k ls) h = none_moved_in ls h
  none_moved (v.let_live made rs ls) h = none_moved_in ls h
  none_moved (v.component_live i made gm args b ls) h = none_moved_in ls h
  none_moved (v.yield_live n made rs ls) h = none_moved_in ls h
  none_moved (v.deep_live p) h = refl

  none_moved_items : (all is : Items) → KeysOnceItems is → Found all is → moved_items all is ≡ 0
  none_moved_items all no_items h f = refl
  none_moved_items all (item_live z k ls is) h f =
      let one : kept_with (lives_with (owned z.key, z.occurrence) all) (λ ks. moved_bodies ks ls) ≡ 0 = ap (λ o. kept_with o (λ ks. moved_bodies ks ls)) f.0 ∙ none_moved_in ls h.0 in
      let rest = none_moved_items all is h.1 f.1 in
      ap₂ (λ a b. a + b) one rest

  pub none_moved_in : (ls : Lives) → KeysOnceIn ls → moved_bodies ls ls ≡ 0
  none_moved_in no_lives h = refl
  none_moved_in (live_and l ls) h = ap₂ (λ a b. a + b) (none_moved l h.0) (none_moved_in ls h.1)

-- the items of a list
pub none_moved_within : (is : Items) → NoRepeat (spot_keys is) → KeysOnceItems is → moved_items is is ≡ 0
none_moved_within is once h = none_moved_items is is h (found_in_itself is once)
