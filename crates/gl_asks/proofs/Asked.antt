-- Positions that are asked one after another. To ask changes nothing of what is kept.
use Rattle.std.proofs.Common.{◌≡◌, ℕ, ◌+◌, Bool, true, false, List, [], ◌∷◌, ◌++◌, inl, inr, length, refl, sym, ap, ap₂, ◌∙◌, subst, arith}
use Rattle.std.specs.Prelude.{◌||◌, nat_lt, Result, IfOk}
use Rattle.std.proofs.lemmas.Result.{IfOk-weaker}
use Rattle.std.proofs.lemmas.List.{length-append}
use Rattle.std.proofs.lemmas.Bool.{cases_lt, lt-ltb, le-ltb, ltb-true}
use Rattle.gl_plain.specs.State.{State}
use Rattle.gl_plain.specs.Renew.{is_stale}
use Rattle.gl_guards.specs.Along.{enters_over}
use Rattle.gl_guards.specs.Guarded.{any_stale}
use Rattle.gl_vm.specs.View.{Tables, Agrees, state_of}
use Rattle.gl_vm.specs.Steps.{Follows, Does}
use Rattle.gl_vm.specs.declared.vm.Vm.{Vm}
use Rattle.gl_asks.specs.Asked.{Asked}

pub does_nothing : (a : Vm) → Does (λ n st. st) a a
does_nothing a n u ag = record { state = refl; agrees = ag }

-- nothing after nothing
pub does_more : (a b c : Vm) → Does (λ n st. st) a b → Does (λ n st. st) b c → Does (λ n st. st) a c
does_more a b c d e n u ag =
    let x = d n u ag in
    subst (λ (st : State). Follows n st c) x.state (e n (state_of n a u).touched x.agrees)

-- Lists of positions, for one state

-- what two lists have that is stale is what the one has or the other
any_join : (st : State) (p q : List ℕ) → any_stale st (p ++ q) ≡ (any_stale st p || any_stale st q)
any_join st [] q = refl
any_join st (r ∷ p) q = by (is_stale st r) (any_join st p q) where
  by : (t : Bool) → any_stale st (p ++ q) ≡ (any_stale st p || any_stale st q) → (t || any_stale st (p ++ q)) ≡ ((t || any_stale st p) || any_stale st q)
  by true e = refl
  by false e = e

or_first : (s t : Bool) → (s || t) ≡ false → s ≡ false
or_first true t e = absurd (let no : true ≡ false = e in cc)
or_first false t e = refl

or_second : (s t : Bool) → (s || t) ≡ false → t ≡ false
or_second true t e = absurd (let no : true ≡ false = e in cc)
or_second false t e = e

-- the first part was asked, and it isn't known yet
over_on : (k k' : ℕ) (st : State) (p q : List ℕ) → k' + length p ≡ k → enters_over k st p ≡ false → enters_over k st (p ++ q) ≡ enters_over k' st q
over_on k k' st p q le e =
    let long = length-append p q in
    ap₂ (λ s t. s || t) (elim (cases_lt k' (length q)) [
      | inl lt ↦ lt-ltb k (length (p ++ q)) (omega (arith, lt, le, long)) ∙ sym (lt-ltb k' (length q) lt)
      | inr ge ↦ le-ltb k (length (p ++ q)) (omega (arith, ge, le, long)) ∙ sym (le-ltb k' (length q) ge)
    ]) (any_join st p q ∙ ap (λ s. s || any_stale st q) (or_second (nat_lt k (length p)) (any_stale st p) e))

-- the first part tells it
over_first : (k : ℕ) (st : State) (p q : List ℕ) → enters_over k st p ≡ true → enters_over k st (p ++ q) ≡ true
over_first k st p q e = by (nat_lt k (length p)) refl where
  by : (t : Bool) → nat_lt k (length p) ≡ t → enters_over k st (p ++ q) ≡ true
  by true m = let lt = ltb-true k (length p) m in let long = length-append p q in
      ap (λ s. s || any_stale st (p ++ q)) (lt-ltb k (length (p ++ q)) (omega (arith, lt, long)))
  by false m =
      let some : any_stale st p ≡ true = sym (ap (λ s. s || any_stale st p) m) ∙ e in
      ap (λ s. nat_lt k (length (p ++ q)) || s) (any_join st p q ∙ ap (λ s. s || any_stale st q) some) ∙ or_true (nat_lt k (length (p ++ q)))
    where
      or_true : (s : Bool) → (s || true) ≡ true
      or_true true = refl
      or_true false = refl

-- The same in code

-- what is known later of what is asked then was so before
asked_before : (a b : Vm) (k k' : ℕ) (rs : Tables → List ℕ) (w : Bool) → Does (λ n st. st) a b → Asked b k k' rs w → Asked a k k' rs w
asked_before a b k k' rs w d e = record {
  enters = λ n u ag. let x = d n u ag in ap (λ st. enters_over k st (rs n)) (sym x.state) ∙ e.enters n u x.agrees;
  leaves = e.leaves;
}

-- nothing is asked
pub asked_none : (a : Vm) (k : ℕ) (rs : Tables → List ℕ) → ((n : Tables) → rs n ≡ []) → Asked a k k rs false
asked_none a k rs none = record {
  enters = λ n u ag. ap (enters_over k (state_of n a u)) (none n) ∙ ap (λ s. s || false) (le-ltb k 0 (omega arith));
  leaves = λ _ n. let e = ap length (none n) in omega (arith, e);
}

-- none may be asked any more
pub asked_full : (a : Vm) (k k' r : ℕ) → k ≡ 0 → Asked a k k' (λ n. r ∷ []) true
asked_full a k k' r e = record {
  enters = λ n u ag. ap (λ s. s || any_stale (state_of n a u) (r ∷ [])) (lt-ltb k 1 (omega (arith, e)));
  leaves = λ e n. absurd (let no : true ≡ false = e in cc);
}

-- one is asked
pub asked_one : (a : Vm) (k k' r : ℕ) (b : Bool) → k ≡ k' + 1 → ((n : Tables) (u : _) → Agrees u a → is_stale (state_of n a u) r ≡ b) → Asked a k k' (λ n. r ∷ []) b
asked_one a k k' r b e stale = record {
  enters = λ n u ag.
      ap (λ s. s || any_stale (state_of n a u) (r ∷ [])) (le-ltb k 1 (omega (arith, e)))
      ∙ (ap (λ s. s || false) (stale n u ag) ∙ or_false b);
  leaves = λ _ n. sym e;
} where
  or_false : (s : Bool) → (s || false) ≡ s
  or_false true = refl
  or_false false = refl

-- the same of a list that is this one
pub asked_as : (a : Vm) (k k' : ℕ) (rs ps : Tables → List ℕ) (b : Bool) → ((n : Tables) → ps n ≡ rs n) → Asked a k k' rs b → Asked a k k' ps b
asked_as a k k' rs ps b e x = record {
  enters = λ n u ag. ap (enters_over k (state_of n a u)) (e n) ∙ x.enters n u ag;
  leaves = λ f n. ap (λ ys. k' + length ys) (e n) ∙ x.leaves f n;
}

-- the first part tells it
pub asked_first : (a : Vm) (k k' : ℕ) (p q : Tables → List ℕ) → Asked a k k' p true → Asked a k k' (λ n. p n ++ q n) true
asked_first a k k' p q x = record {
  enters = λ n u ag. over_first k (state_of n a u) (p n) (q n) (x.enters n u ag);
  leaves = λ e n. absurd (let no : true ≡ false = e in cc);
}

-- one part after another
pub asked_then : (a b : Vm) (k k1 k2 : ℕ) (p q : Tables → List ℕ) (w : Bool) → Does (λ n st. st) a b → Asked a k k1 p false → Asked b k1 k2 q w → Asked a k k2 (λ n. p n ++ q n) w
asked_then a b k k1 k2 p q w d x y = let z = asked_before a b k1 k2 q w d y in record {
  enters = λ n u ag. over_on k k1 (state_of n a u) (p n) (q n) (x.leaves refl n) (x.enters n u ag) ∙ z.enters n u ag;
  leaves = λ f n. let e = x.leaves refl n in let g = z.leaves f n in let long = length-append (p n) (q n) in omega (arith, e, g, long);
}

-- Parts in their order: what is left of them decides.
pub record Left (a : Vm) (k0 k : ℕ) (left all : Tables → List ℕ) : Type 0 where
  pub decides : (n : Tables) (u : _) → Agrees u a → enters_over k (state_of n a u) (left n) ≡ enters_over k0 (state_of n a u) (all n)
  pub counts : (n : Tables) → k + length (all n) ≡ k0 + length (left n)

pub left_begin : (a : Vm) (k : ℕ) (all : Tables → List ℕ) → Left a k k all all
left_begin a k all = record { decides = λ n u ag. refl; counts = λ n. refl }

module _ (a b : Vm) (d : Does (λ n st. st) a b) (k0 k k' : ℕ) (part rest left all : Tables → List ℕ) (is : (n : Tables) → left n ≡ part n ++ rest n) (x : Left a k0 k left all) where
  -- one part more
  pub left_next : Asked b k k' part false → Left a k0 k' rest all
  left_next y = let z = asked_before a b k k' part false d y in record {
    decides = λ n u ag.
        sym (over_on k k' (state_of n a u) (part n) (rest n) (z.leaves refl n) (z.enters n u ag))
        ∙ (ap (enters_over k (state_of n a u)) (sym (is n)) ∙ x.decides n u ag);
    counts = λ n. let e = z.leaves refl n in let f = x.counts n in let g = ap length (is n) in let long = length-append (part n) (rest n) in omega (arith, e, f, g, long);
  }

  -- the part tells it
  pub left_found : Asked b k k' part true → Asked a k0 k' all true
  left_found y = let z = asked_before a b k k' part true d y in record {
    enters = λ n u ag. sym (x.decides n u ag) ∙ (ap (enters_over k (state_of n a u)) (is n) ∙ over_first k (state_of n a u) (part n) (rest n) (z.enters n u ag));
    leaves = λ e n. absurd (let no : true ≡ false = e in cc);
  }

-- none is left
pub left_end : (a : Vm) (k0 k : ℕ) (left all : Tables → List ℕ) → ((n : Tables) → left n ≡ []) → Left a k0 k left all → Asked a k0 k all false
left_end a k0 k left all none x = record {
  enters = λ n u ag. sym (x.decides n u ag) ∙ (ap (enters_over k (state_of n a u)) (none n) ∙ ap (λ s. s || false) (le-ltb k 0 (omega arith)));
  leaves = λ _ n. let e = x.counts n in let f = ap length (none n) in omega (arith, e, f);
}

-- a region of which so many are asked
pub asked_region : {E : Type 0} (most : ℕ) (r : Result Bool E) (a : Vm) (k k' : ℕ) (rs : Tables → List ℕ) → k ≡ most → IfOk r (Asked a k k' rs) → IfOk r (λ b. (n : Tables) (u : _) → Agrees u a → enters_over most (state_of n a u) (rs n) ≡ b)
asked_region most r a k k' rs e = IfOk-weaker r (Asked a k k' rs) (λ b. (n : Tables) (u : _) → Agrees u a → enters_over most (state_of n a u) (rs n) ≡ b)
    (λ b x n u ag. ap (λ m. enters_over m (state_of n a u) (rs n)) (sym e) ∙ x.enters n u ag)
