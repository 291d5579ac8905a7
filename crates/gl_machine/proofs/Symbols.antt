-- Parameters by their symbols, and names that all have one.
use Rattle.std.proofs.Common.{◌≡◌, ℕ, suc, ◌==◌, List, [], ◌∷◌, map, Bool, true, false, ◌||◌, cond, Option, Some, None, refl, sym, ◌∙◌, ap, subst, arith, ◌++◌, inl, inr}
use Rattle.std.specs.Str.{bytes_eq}
use Rattle.std.proofs.lemmas.Bool.{eqb-true, eq-eqb, both_ways, or_cases, or_left, or_right}
use Rattle.std.proofs.lemmas.Slice.Eq.{bytes_eq-Decides}
use Rattle.gl_base.specs.Texts.{Text}
use Rattle.gl_base.specs.Names.{last_named, or_else, has_text}
use Rattle.gl_wire.specs.Symbols.{place_of}
use Rattle.gl_machine.specs.Step.{last_symbol}
use Rattle.gl_machine.specs.Params.{Known, TwoKnown}
use Rattle.gl_machine.specs.Env.{by_symbol, texts_of}
use Rattle.gl_machine.proofs.Numbered.{same_if}

at_head : (n m y : Text) (ys : List Text) (b c : Bool) → bytes_eq n y ≡ b → bytes_eq m y ≡ c
    → (has_text n ys ≡ true → place_of ys n ≡ place_of ys m → n ≡ m)
    → (b || has_text n ys) ≡ true → cond b 0 (suc (place_of ys n)) ≡ cond c 0 (suc (place_of ys m)) → n ≡ m
at_head n m y ys true true e f ih h p = (bytes_eq-Decides n y).0 e ∙ sym ((bytes_eq-Decides m y).0 f)
at_head n m y ys true false e f ih h p = absurd (omega (arith, p))
at_head n m y ys false true e f ih h p = absurd (omega (arith, p))
at_head n m y ys false false e f ih h p = ih h (omega (arith, p))

pub one_place : (ys : List Text) (n m : Text) → has_text n ys ≡ true → place_of ys n ≡ place_of ys m → n ≡ m
one_place [] n m h p = absurd (both_ways _ refl h)
one_place (y ∷ ys) n m h p = at_head n m y ys (bytes_eq n y) (bytes_eq m y) refl refl (one_place ys n m) h p

same_place : (ys : List Text) (n m : Text) → has_text n ys ≡ true → (place_of ys n == place_of ys m) ≡ bytes_eq n m
same_place ys n m h =
    same_if (place_of ys n == place_of ys m) (bytes_eq n m)
    (λ e. (bytes_eq-Decides n m).1 (one_place ys n m h (eqb-true _ _ e)))
    (λ e. eq-eqb _ _ (ap (place_of ys) ((bytes_eq-Decides n m).0 e)))

pub symbol_is : (ys : List Text) (n : Text) (xs : List (Text × ℕ)) → has_text n ys ≡ true → last_symbol (place_of ys n) (map (by_symbol ys) xs) ≡ last_named n xs
symbol_is ys n [] h = refl
symbol_is ys n (x ∷ xs) h = rw (symbol_is ys n xs h, same_place ys n x.0 h) refl

-- what is found of a name by whether it is there
abbrev Found : Bool → Option ℕ → Type 0
Found true o = (r : ℕ) × (o ≡ Some r)
Found false o = o ≡ None

found_step : (b c : Bool) (o : Option ℕ) (r : ℕ) → Found c o → Found (b || c) (or_else o (cond b (Some r) None))
found_step true true o r (q, e) = (q, ap (λ x. or_else x (Some r)) e)
found_step false true o r (q, e) = (q, ap (λ x. or_else x None) e)
found_step true false o r e = (r, ap (λ x. or_else x (Some r)) e)
found_step false false o r e = ap (λ x. or_else x None) e

found_as : (n : Text) (xs : List (Text × ℕ)) → Found (has_text n (texts_of xs)) (last_named n xs)
found_as n [] = refl
found_as n (x ∷ xs) = found_step (bytes_eq n x.0) (has_text n (texts_of xs)) (last_named n xs) x.1 (found_as n xs)

pub named_there : (n : Text) (xs : List (Text × ℕ)) → has_text n (texts_of xs) ≡ true → (r : ℕ) × (last_named n xs ≡ Some r)
named_there n xs h = subst (λ b. Found b (last_named n xs)) h (found_as n xs)

pub none_there : (n : Text) (xs : List (Text × ℕ)) → has_text n (texts_of xs) ≡ false → last_named n xs ≡ None
none_there n xs h = subst (λ b. Found b (last_named n xs)) h (found_as n xs)

-- names that have symbols, together

pub known_none : (symbols : List Text) → Known symbols []
known_none symbols n h = absurd (both_ways _ refl h)

pub known_both : (symbols xs ys : List Text) → Known symbols xs → Known symbols ys → Known symbols (xs ++ ys)
known_both symbols [] ys f g n h = g n h
known_both symbols (x ∷ xs) ys f g n h =
    elim (or_cases (bytes_eq n x) (has_text n (xs ++ ys)) h) [
      | inl e ↦ f n (or_left (bytes_eq n x) (has_text n xs) e)
      | inr e ↦ known_both symbols xs ys (λ m k. f m (or_right (bytes_eq m x) (has_text m xs) k)) g n e
    ]

known_more : (symbols : List Text) (n : Text) (xs : List Text) → has_text n symbols ≡ true → Known symbols xs → Known symbols (n ∷ xs)
known_more symbols n xs e f m h =
    elim (or_cases (bytes_eq m n) (has_text m xs) h) [
      | inl g ↦ subst (λ x. has_text x symbols ≡ true) (sym ((bytes_eq-Decides m n).0 g)) e
      | inr g ↦ f m g
    ]

pub known_two : (symbols xs : List Text) → TwoKnown symbols xs → Known symbols xs
known_two symbols [] t = known_none symbols
known_two symbols (n ∷ []) t = known_more symbols n [] t (known_none symbols)
known_two symbols (n ∷ k ∷ []) t = known_more symbols n (k ∷ []) t.0 (known_more symbols k [] t.1 (known_none symbols))
known_two symbols (n ∷ k ∷ i ∷ xs) t = absurd t
