-- What a look-up of a property finds.
use Rattle.std.proofs.Common.{◌≡◌, ◌≤◌, ◌+◌, ℕ, zero, suc, min, List, [], ◌∷◌, Bool, true, false, cond, refl, ap, arith, Option, Some, option_map, decimal}
use Rattle.std.specs.Prelude.{slice_get}
use Rattle.std.specs.List.{find}
use Rattle.std.specs.Str.{bytes_eq}
use Rattle.std.proofs.lemmas.Bool.{false_from_ne_true}
use Rattle.std.proofs.lemmas.Fmt.{decimal_injective}
use Rattle.std.proofs.lemmas.Slice.Eq.{bytes_eq-Decides}
use Rattle.gl_base.specs.Texts.{Text}
use Rattle.gl_base.specs.Names.{named}
use Rattle.gl_value.specs.Value.{Value, undefined, values_of, pairs_of, member_at, item_at}
use Rattle.gl_value.specs.View.{view, seen_pairs}
use Rattle.gl_value.specs.Found.{or_undefined}
use Rattle.gl_value.specs.declared.value.Pair.{Pair}

-- a member is the first of its key
pub member_at-named : {O : Type 0} (k : Text) (ps : List (Text × Value O)) → member_at k (pairs_of ps) ≡ or_undefined (named k ps)
member_at-named k [] = refl
member_at-named k (p ∷ ps) = chosen (bytes_eq k p.0) p.1 _ _ (member_at-named k ps)
  where
    chosen : {O : Type 0} (b : Bool) (v w : Value O) (o : Option (Value O)) → w ≡ or_undefined o → cond b v w ≡ or_undefined (cond b (Some v) o)
    chosen true v w o e = refl
    chosen false v w o e = e

seen_first : (b : Bool) (p : Pair) (o : Option Pair) (q : Option (Value ℕ)) → option_map (λ (x : Pair). view x.value) o ≡ q → option_map (λ (x : Pair). view x.value) (cond b (Some p) o) ≡ cond b (Some (view p.value)) q
seen_first true p o q h = refl
seen_first false p o q h = h

pub named-pair : (k : Text) (ps : List Pair) → option_map (λ (p : Pair). view p.value) (find (λ (p : Pair). bytes_eq k p.key) ps) ≡ named k (seen_pairs ps)
named-pair k [] = refl
named-pair k (p ∷ ps) = seen_first (bytes_eq k p.key) p (find (λ (x : Pair). bytes_eq k x.key) ps) (named k (seen_pairs ps)) (named-pair k ps)

-- a text that writes no index finds no item
pub item_at-none : {O : Type 0} (k : Text) (i : ℕ) (vs : List (Value O)) → ((j : ℕ) → j ≤ 9007199254740991 → bytes_eq k (decimal j) ≡ false) → item_at k i (values_of vs) ≡ undefined
item_at-none k i [] h = refl
item_at-none k i (v ∷ vs) h = rw (h (min i 9007199254740991) (omega arith)) (item_at-none k (suc i) vs h)

-- a text that writes an index finds the item there
pub item_at-some : {O : Type 0} (n k i : ℕ) (vs : List (Value O)) → n ≤ 9007199254740991 → n ≡ k + i → item_at (decimal n) i (values_of vs) ≡ or_undefined (slice_get vs k)
item_at-some n k i [] h e = refl
item_at-some n zero i (v ∷ vs) h e =
    let here : bytes_eq (decimal n) (decimal (min i 9007199254740991)) ≡ true = (bytes_eq-Decides _ _).1 (ap decimal (omega arith)) in
    rw here refl
item_at-some n (suc k) i (v ∷ vs) h e =
    let other : bytes_eq (decimal n) (decimal (min i 9007199254740991)) ≡ false = false_from_ne_true _ (λ t.
    let same : n ≡ min i 9007199254740991 = decimal_injective n (min i 9007199254740991) (omega arith) (omega arith) ((bytes_eq-Decides _ _).0 t) in
    absurd (omega arith)) in
    rw other (item_at-some n k (suc i) vs h (omega arith))
