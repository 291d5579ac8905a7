-- Lists of values, item by item.
use Rattle.std.proofs.Common.{◌≡◌, ℕ, zero, suc, List, [], ◌∷◌, ◌++◌, Bool, true, false, cond, map, refl, sym, ap, ◌∙◌, append_assoc, append-nil, Some, None, ℤ, pos, ◌<◌, length, get_or, drop, add-one}
use Rattle.gl_base.proofs.Lists.{drop_item}
use Rattle.gl_value.specs.Helpers.{at_places}
use Rattle.gl_value.specs.View.{view, seen_items}
use Rattle.gl_value.specs.declared.value.Value as code
use Rattle.std.proofs.lemmas.List.{reverse-append, map-append}
use Rattle.std.specs.Prelude.{slice_get, reverse}
use Rattle.gl_base.specs.Names.{at_place}
use Rattle.gl_value.specs.Value.{Value, undefined, values_of, list_of}
use Rattle.gl_value.proofs.Values.{list_of-values_of}

pub at_place-some : {O : Type 0} (i : ℕ) (vs : List (Value O)) (v : Value O) → Some v ≡ slice_get vs i → v ≡ at_place undefined i vs
at_place-some i [] v e = cc
at_place-some zero (w ∷ vs) v e = cc
at_place-some (suc i) (w ∷ vs) v e = at_place-some i vs v e

pub at_place-none : {O : Type 0} (i : ℕ) (vs : List (Value O)) → None ≡ slice_get vs i → undefined ≡ at_place undefined i vs
at_place-none i [] e = refl
at_place-none zero (w ∷ vs) e = cc
at_place-none (suc i) (w ∷ vs) e = at_place-none i vs e

-- one more item is kept, or isn't
pub kept_step : {A : Type 0} (b : Bool) (done rest : List A) (v : A) → (done ++ cond b (v ∷ []) []) ++ rest ≡ done ++ cond b (v ∷ rest) rest
kept_step true done rest v = append_assoc done (v ∷ []) rest
kept_step false done rest v = ap (λ l. l ++ rest) (append-nil done)

pub ruleset kept_laws = (kept_step)

pub map_reverse : {A B : Type 0} (f : A → B) (xs : List A) → map f (reverse xs) ≡ reverse (map f xs)
map_reverse f [] = refl
map_reverse f (x ∷ xs) =
    ap (map f) (reverse-append (x ∷ []) xs) ∙ map-append f (reverse xs) (x ∷ []) ∙ ap (λ l. l ++ f x ∷ []) (map_reverse f xs) ∙ sym (reverse-append (f x ∷ []) (map f xs))

-- one more place is passed
pub place_next : (test : ℤ → Bool) (items : List code.Value) (i : ℕ) (v : code.Value) (b : Bool) (done new all : List (Value ℕ)) → i < length items → v ≡ get_or items i v → b ≡ test (pos i) → new ≡ done ++ cond b (view v ∷ []) []
    → done ++ at_places test i (seen_items (drop i items)) ≡ all → new ++ at_places test (suc i) (seen_items (drop (suc i) items)) ≡ all
place_next test items i v b done new all h is same e whole =
    let here = rw add-one at (drop_item items i v h is) in
    rw (e, kept_step b done (at_places test (suc i) (seen_items (drop (suc i) items))) (view v), same) (rw here at whole)

pub list_of_values : (vs : List (Value ℕ)) → list_of (values_of vs) ≡ vs
list_of_values = list_of-values_of

pub ruleset list_laws = (list_of_values)

-- one more item is made
pub made_next : {A B : Type 0} (f : A → B) (item : A) (rest : List A) (new : B) (done next all : List B) → new ≡ f item → next ≡ done ++ new ∷ [] → done ++ map f (item ∷ rest) ≡ all → next ++ map f rest ≡ all
made_next f item rest new done next all is e whole = ap (λ l. l ++ map f rest) e ∙ append_assoc done (new ∷ []) (map f rest) ∙ ap (λ x. done ++ x ∷ map f rest) is ∙ whole
