-- Rows by the numbers of their names.
use Rattle.std.proofs.Common.{◌≡◌, ℕ, suc, ◌+◌, List, [], ◌∷◌, length, Bool, true, false, not, cond, Option, Some, None, refl, sym, ◌∙◌, ap, arith}
use Rattle.std.specs.Prelude.{slice_get, option_map, nat_lt}
use Rattle.std.specs.List.{prefix_len}
use Rattle.std.specs.Str.{bytes_eq}
use Rattle.std.proofs.lemmas.Bool.{ltb-true, lt-ltb}
use Rattle.std.proofs.lemmas.Slice.Eq.{bytes_eq-Decides}
use Rattle.gl_base.specs.Texts.{Text}
use Rattle.gl_base.specs.Names.{named}
use Rattle.gl_opc.specs.Numbers.{number_in, keys}

pub some_is : {A : Type 0} (x y : A) → Some x ≡ Some y → x ≡ y
some_is x y e = cc

pub none_some : {A : Type 0} (x : A) → None ≡ Some x → ⊥
none_some x e = cc

pub same_if : (b c : Bool) → (b ≡ true → c ≡ true) → (c ≡ true → b ≡ true) → b ≡ c
same_if true c f g = sym (f refl)
same_if false true f g = g refl
same_if false false f g = refl

less_suc : (m n : ℕ) → nat_lt (1 + m) (suc n) ≡ nat_lt m n
less_suc m n =
    same_if (nat_lt (1 + m) (suc n)) (nat_lt m n) (λ e. let l = ltb-true (1 + m) (suc n) e in lt-ltb m n (omega (arith, l)))
    (λ e. let l = ltb-true m n e in lt-ltb (1 + m) (suc n) (omega (arith, l)))

one_more : (b : Bool) (m : ℕ) → cond b (Some (1 + m)) None ≡ option_map suc (cond b (Some m) None)
one_more true m = ap Some (let e : 1 + m ≡ suc m = omega arith in e)
one_more false m = refl

first_or_next : (b : Bool) (m n : ℕ)
    → cond (nat_lt (cond (not b) (1 + m) 0) (suc n)) (Some (cond (not b) (1 + m) 0)) None ≡ cond b (Some 0) (option_map suc (cond (nat_lt m n) (Some m) None))
first_or_next true m n = rw (lt-ltb 0 (suc n) (omega arith)) refl
first_or_next false m n = ap (λ b. cond b (Some (1 + m)) None) (less_suc m n) ∙ one_more (nat_lt m n) m

-- the number of a name is 0 where it is the first, and else one more than it is among the others
number_step : (k : Text) (ks : List Text) (n : Text) → number_in (k ∷ ks) n ≡ cond (bytes_eq n k) (Some 0) (option_map suc (number_in ks n))
number_step k ks n = first_or_next (bytes_eq n k) (prefix_len (λ x. not (bytes_eq n x)) ks) (length ks)

-- what a number among the others is
pub under : (o : Option ℕ) (f : ℕ) → option_map suc o ≡ Some f → (g : ℕ) × (o ≡ Some g) × (f ≡ suc g)
under None f e = absurd (none_some f e)
under (Some g) f e = (g, refl, sym (some_is (suc g) f e))

-- A name with a number f: it is the one at f, and if it is not the first it has a number among the others.
pub data Numbered (k : Text) (ks : List Text) (n : Text) (f : ℕ) : Type 0 where
  at_front : n ≡ k → bytes_eq n k ≡ true → f ≡ 0 → Numbered k ks n f
  further : (g : ℕ) → bytes_eq n k ≡ false → number_in ks n ≡ Some g → f ≡ suc g → Numbered k ks n f

pub numbered : (k : Text) (ks : List Text) (n : Text) (f : ℕ) → number_in (k ∷ ks) n ≡ Some f → Numbered k ks n f
numbered k ks n f e = by_test (bytes_eq n k) refl (sym (number_step k ks n) ∙ e)
  where
    by_test : (b : Bool) → bytes_eq n k ≡ b → cond b (Some 0) (option_map suc (number_in ks n)) ≡ Some f → Numbered k ks n f
    by_test true t e = at_front ((bytes_eq-Decides n k).0 t) t (sym (some_is 0 f e))
    by_test false t e = let (g, there, is) = under (number_in ks n) f e in further g t there is

pub none_of : (k : Text) (ks : List Text) (n : Text) → number_in (k ∷ ks) n ≡ None → (bytes_eq n k ≡ false) × (number_in ks n ≡ None)
none_of k ks n e = by_test (bytes_eq n k) refl (sym (number_step k ks n) ∙ e)
  where
    no_more : (o : Option ℕ) → option_map suc o ≡ None → o ≡ None
    no_more None e = refl
    no_more (Some g) e = absurd (none_some (suc g) (sym e))

    by_test : (b : Bool) → bytes_eq n k ≡ b → cond b (Some 0) (option_map suc (number_in ks n)) ≡ None → (bytes_eq n k ≡ false) × (number_in ks n ≡ None)
    by_test true t e = absurd (none_some 0 (sym e))
    by_test false t e = (t, no_more (number_in ks n) e)

no_number : (n : Text) (f : ℕ) → number_in [] n ≡ Some f → ⊥
no_number n f e = none_some f e

-- the name at its number
pub number_at : (ks : List Text) (n : Text) (f : ℕ) → number_in ks n ≡ Some f → slice_get ks f ≡ Some n
number_at [] n f e = absurd (no_number n f e)
number_at (k ∷ ks) n f e =
    elim (numbered k ks n f e) [
      | at_front same t is ↦ rw is (ap Some (sym same))
      | further g t there is ↦ rw is (number_at ks n g there)
    ]

-- the row of a name, by its number
pub row_at : {A : Type 0} (xs : List (Text × A)) (n : Text) (f : ℕ) → number_in (keys xs) n ≡ Some f → (y : Text × A) × (slice_get xs f ≡ Some y) × (y.0 ≡ n) × (named n xs ≡ Some y.1)
row_at [] n f e = absurd (no_number n f e)
row_at (x ∷ xs) n f e =
    elim (numbered x.0 (keys xs) n f e) [
      | at_front same t is ↦ (x, ap (slice_get (x ∷ xs)) is, sym same, ap (λ b. cond b (Some x.1) (named n xs)) t)
      | further g t there is ↦
          let (y, got, same, found) = row_at xs n g there in (y, ap (slice_get (x ∷ xs)) is ∙ got, same, ap (λ b. cond b (Some x.1) (named n xs)) t ∙ found)
    ]

pub row_none : {A : Type 0} (xs : List (Text × A)) (n : Text) → number_in (keys xs) n ≡ None → named n xs ≡ None
row_none [] n e = refl
row_none (x ∷ xs) n e = let (t, none) = none_of x.0 (keys xs) n e in ap (λ b. cond b (Some x.1) (named n xs)) t ∙ row_none xs n none
