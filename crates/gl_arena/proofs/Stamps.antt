-- The values by their stamps, after each call.
use Rattle.std.proofs.Common.{◌≡◌, ◌≢◌, ℕ, zero, suc, ◌+◌, ◌<◌, true, false, List, [], ◌∷◌, Option, Some, None, refl, sym, ap, subst, ◌∙◌, IsSome, is_some, get_or, arith, inl, inr, Result, Ok, Err, IfOk}
use Rattle.std.specs.Prelude.{unwrap_or, ◌==◌, if◌then◌else◌}
use Rattle.std.proofs.lemmas.Bool.{cases_eq}
use Rattle.gl_arena.specs.Id.{Id}
use Rattle.gl_arena.specs.Arena.{Arena, stamped, named, at_stamp, by_stamp, either_value, amended, IsStamped, IsOwn, Sets, Gives, Ends, with_value}
use Rattle.gl_arena.proofs.Ids.{id_cases}
use Rattle.gl_arena.proofs.Values.{Writes, with_value-writes}

not_stamp : (i id : Id) (s q : ℕ) → i.1 ≡ q → id.1 ≡ s → q ≢ s → i ≢ id
not_stamp i id s q a b ne e = ne (sym a ∙ (ap (λ j. j.1) e ∙ b))

module _ {T : Type 0} where
  some_value : (x y : T) → Some x ≡ Some y → x ≡ y
  some_value x y e = ap (λ o. unwrap_or o x) e

  not_none : (o : Option T) (v : T) → o ≡ None → o ≡ Some v → ⊥
  not_none o v n s = let no : None ≡ Some v = sym n ∙ s in cc

  -- a value with a stamp stands at a place
  pub at_stamp-place : (s : ℕ) (os : List (Option (ℕ × T))) (v : T) → at_stamp s os ≡ Some v → (k : ℕ) × (stamped s (get_or os k None) ≡ Some v)
  at_stamp-place s [] v h = absurd (let no : None ≡ Some v = h in cc)
  at_stamp-place s (o ∷ os) v h = by_case (stamped s o) refl h (λ t. at_stamp-place s os v t)
    where
      by_case : (q : Option T) → stamped s o ≡ q → either_value q (at_stamp s os) ≡ Some v → (at_stamp s os ≡ Some v → (k : ℕ) × (stamped s (get_or os k None) ≡ Some v)) → (k : ℕ) × (stamped s (get_or (o ∷ os) k None) ≡ Some v)
      by_case None e t rest = let r = rest t in (suc r.0, r.1)
      by_case (Some w) e t rest = (0, e ∙ t)

  -- what stands at a place has a value with its stamp
  pub at_stamp-there : (s : ℕ) (os : List (Option (ℕ × T))) (k : ℕ) → IsSome (stamped s (get_or os k None)) → IsSome (at_stamp s os)
  at_stamp-there s [] k h = h
  at_stamp-there s (o ∷ os) zero h = here (stamped s o) h
    where
      here : (q : Option T) → IsSome q → IsSome (either_value q (at_stamp s os))
      here None t = absurd (let no : false ≡ true = t in cc)
      here (Some w) t = refl
  at_stamp-there s (o ∷ os) (suc k) h = later (stamped s o) (at_stamp-there s os k h)
    where
      later : (q : Option T) → IsSome (at_stamp s os) → IsSome (either_value q (at_stamp s os))
      later None t = t
      later (Some w) t = refl

  pub by_stamp-id : (a : Arena T) (s : ℕ) (v : T) → by_stamp a s ≡ Some v → (i : Id) × (i.1 ≡ s) × (named a i ≡ Some v)
  by_stamp-id a s v h = let r = at_stamp-place s a.slots v h in ((r.0, s), refl, r.1)

  -- a live id names the value with its stamp
  pub by_stamp-live : (a : Arena T) (i : Id) (v : T) → IsStamped a → named a i ≡ Some v → by_stamp a i.1 ≡ Some v
  by_stamp-live a i v st h = by_case (by_stamp a i.1) refl (at_stamp-there i.1 a.slots i.0 (ap is_some h))
    where
      by_case : (o : Option T) → by_stamp a i.1 ≡ o → IsSome o → by_stamp a i.1 ≡ Some v
      by_case None e t = absurd (let no : false ≡ true = t in cc)
      by_case (Some w) e t = let r = by_stamp-id a i.1 w e in let same : r.0 ≡ i = st.apart r.0 i (ap is_some r.2) (ap is_some h) r.1 in e ∙ (sym r.2 ∙ (ap (named a) same ∙ h))

  pub own_live : (a : Arena T) (i : Id) (v : T) → IsStamped a → named a i ≡ Some v → IsOwn a i
  own_live a i v st h = record { below = st.below i (ap is_some h); same = h ∙ sym (by_stamp-live a i v st h) }

  -- where all ids with a stamp name what they named, so does the stamp
  pub by_stamp-same : (a b : Arena T) (s : ℕ) → IsStamped a → IsStamped b → ((i : Id) → i.1 ≡ s → named b i ≡ named a i) → by_stamp b s ≡ by_stamp a s
  by_stamp-same a b s sa sb same = by_case (by_stamp b s) (by_stamp a s) refl refl
    where
      by_case : (p q : Option T) → by_stamp b s ≡ p → by_stamp a s ≡ q → by_stamp b s ≡ by_stamp a s
      by_case (Some v) q eb ea = let r = by_stamp-id b s v eb in eb ∙ (sym (by_stamp-live a r.0 v sa (sym (same r.0 r.1) ∙ r.2)) ∙ ap (by_stamp a) r.1)
      by_case None None eb ea = eb ∙ sym ea
      by_case None (Some v) eb ea = let r = by_stamp-id a s v ea in absurd (not_none (by_stamp b s) v eb (sym (ap (by_stamp b) r.1) ∙ by_stamp-live b r.0 v sb (same r.0 r.1 ∙ r.2)))

  live_not : (a : Arena T) (i k : Id) → named a i ≡ None → IsSome (named a k) → k ≢ i
  live_not a i k n s e = let no : false ≡ true = sym (ap is_some (ap (named a) e ∙ n)) ∙ s in cc

  -- Each call keeps the stamps apart.
  pub empty-stamped : (a : Arena T) → ((i : Id) → named a i ≡ None) → IsStamped a
  empty-stamped a none = record {
    below = λ i s. absurd (live_not a i i (none i) s refl);
    apart = λ i k s t e. absurd (live_not a i i (none i) s refl);
  }

  pub gives-stamped : (a b : Arena T) (id : Id) (v : T) → IsStamped a → Gives a b id v → IsStamped b
  gives-stamped a b id v st g = record {
    below = λ i s. elim (id_cases i id) [
      | inl e ↦ let at = ap (λ j. j.1) e in let q = g.stamp in let c = g.count in omega (arith, at, q, c)
      | inr ne ↦ let lt = st.below i (subst IsSome (g.others i ne) s) in let c = g.count in omega (arith, lt, c)
    ];
    apart = λ i k s t e. elim (id_cases i id) [
      | inl p ↦ elim (id_cases k id) [
        | inl q ↦ p ∙ sym q
        | inr ne ↦ let lt = st.below k (subst IsSome (g.others k ne) t) in let at = ap (λ j. j.1) p in let w = g.stamp in absurd (omega (arith, lt, at, w, e))
      ]
      | inr ne ↦ elim (id_cases k id) [
        | inl q ↦ let lt = st.below i (subst IsSome (g.others i ne) s) in let at = ap (λ j. j.1) q in let w = g.stamp in absurd (omega (arith, lt, at, w, e))
        | inr nk ↦ st.apart i k (subst IsSome (g.others i ne) s) (subst IsSome (g.others k nk) t) e
      ]
    ];
  }

  -- where the live ids are among those of before, and the count is no less
  pub fewer-stamped : (a b : Arena T) → IsStamped a → b.made ≡ a.made → ((i : Id) → IsSome (named b i) → IsSome (named a i)) → IsStamped b
  fewer-stamped a b st count live = record {
    below = λ i s. let lt = st.below i (live i s) in omega (arith, lt, count);
    apart = λ i k s t e. st.apart i k (live i s) (live k t) e;
  }

  pub ends-stamped : (a b : Arena T) (id : Id) → IsStamped a → Ends a b id → IsStamped b
  ends-stamped a b id st g = fewer-stamped a b st g.count (λ i s. subst IsSome (g.others i (live_not b id i g.ended s)) s)

  pub writes-stamped : (a b : Arena T) (id : Id) (v : T) → IsStamped a → IsSome (named a id) → Writes a b id v → IsStamped b
  writes-stamped a b id v st was g = fewer-stamped a b st g.count (λ i s. elim (id_cases i id) [
    | inl e ↦ subst (λ j. IsSome (named a j)) (sym e) was
    | inr ne ↦ subst IsSome (g.others i ne) s
  ])

  pub written-stamped : (a : Arena T) (id : Id) (v : T) → IsStamped a → IsSome (named a id) → IsStamped (with_value a id v)
  written-stamped a id v st was = writes-stamped a (with_value a id v) id v st was (with_value-writes a id v was)

  -- What each call does to the values by stamps.
  -- an id of before that names what it named, where its stamp names what it named
  own_kept : (a b : Arena T) (i : Id) → a.made < b.made + 1 → named b i ≡ named a i → by_stamp b i.1 ≡ by_stamp a i.1 → IsOwn a i → IsOwn b i
  own_kept a b i le n s own = record { below = let lt = own.below in omega (arith, lt, le); same = n ∙ (own.same ∙ sym s) }

  pub gives-sets : (a b : Arena T) (id : Id) (v : T) → IsStamped a → Gives a b id v → Sets a b a.made (Some v) × IsOwn b id
  gives-sets a b id v st g = let sb = gives-stamped a b id v st g in let now = own_live b id v sb g.given in let others : (q : ℕ) → q ≢ a.made → by_stamp b q ≡ by_stamp a q = λ q ne. by_stamp-same a b q st sb (λ i e. g.others i (not_stamp i id a.made q e g.stamp ne)) in (
    record {
      here = ap (by_stamp b) (sym g.stamp) ∙ by_stamp-live b id v sb g.given;
      others = others;
      own = λ i own. let off : i.1 ≢ a.made = λ e. let lt = own.below in absurd (omega (arith, lt, e)) in own_kept a b i (let c = g.count in omega (arith, c)) (g.others i (not_stamp i id a.made i.1 refl g.stamp off)) (others i.1 off) own;
    },
    now,
  )

  -- a write, or an end, of a live id
  pub changes-sets : (a b : Arena T) (id : Id) (o : Option T) → IsStamped a → IsStamped b → IsSome (named a id) → b.made ≡ a.made → named b id ≡ o → ((i : Id) → i ≢ id → named b i ≡ named a i) → by_stamp b id.1 ≡ o → Sets a b id.1 o
  changes-sets a b id o sa sb was count given rest here = let others : (q : ℕ) → q ≢ id.1 → by_stamp b q ≡ by_stamp a q = λ q ne. by_stamp-same a b q sa sb (λ i e. rest i (not_stamp i id id.1 q e refl ne)) in record {
    here = here;
    others = others;
    own = λ i own. elim (id_cases i id) [
      | inl e ↦ subst (λ j. IsOwn b j) (sym e) (record { below = let lt = sa.below id was in omega (arith, lt, count); same = given ∙ sym here })
      | inr ne ↦ own_kept a b i (omega (arith, count)) (rest i ne) (others i.1 (λ e. other i ne own e)) own
    ];
  }
    where
      -- an id of another place with this stamp was never given
      other : (i : Id) → i ≢ id → IsOwn a i → i.1 ≡ id.1 → ⊥
      other i ne own e = by_case (named a id) refl was
        where
          by_case : (q : Option T) → named a id ≡ q → IsSome q → ⊥
          by_case None n t = let no : false ≡ true = t in cc
          by_case (Some v) n t = ne (sa.apart i id (ap is_some (own.same ∙ (ap (by_stamp a) e ∙ by_stamp-live a id v sa n))) was e)

  pub writes-sets : (a b : Arena T) (id : Id) (v : T) → IsStamped a → IsSome (named a id) → Writes a b id v → Sets a b id.1 (Some v)
  writes-sets a b id v st was g = let sb = writes-stamped a b id v st was g in changes-sets a b id (Some v) st sb was g.count g.given g.others (by_stamp-live b id v sb g.given)

  pub ends-sets : (a b : Arena T) (id : Id) → IsStamped a → IsSome (named a id) → Ends a b id → Sets a b id.1 None
  ends-sets a b id st was g = let sb = ends-stamped a b id st g in changes-sets a b id None st sb was g.count g.ended g.others (gone (by_stamp b id.1) refl)
    where
      gone : (o : Option T) → by_stamp b id.1 ≡ o → by_stamp b id.1 ≡ None
      gone None e = e
      gone (Some v) e = let r = by_stamp-id b id.1 v e in let ne : r.0 ≢ id = live_not b id r.0 g.ended (ap is_some r.2) in absurd (ne (st.apart r.0 id (ap is_some (sym (g.others r.0 ne) ∙ r.2)) was r.1))

  -- an own id whose stamp has a value is live
  pub own_named : (a : Arena T) (i : Id) (v : T) → IsOwn a i → by_stamp a i.1 ≡ Some v → named a i ≡ Some v
  own_named a i v own h = own.same ∙ h

  -- own ids are told apart by their stamps alone, while one of them is live
  pub own_same : (a : Arena T) (i k : Id) → IsStamped a → IsOwn a i → IsOwn a k → IsSome (named a k) → i.1 ≡ k.1 → i ≡ k
  own_same a i k st oi ok s e = st.apart i k (subst IsSome (ok.same ∙ (sym (ap (by_stamp a) e) ∙ sym oi.same)) s) s e

  pub written-sets : (a : Arena T) (id : Id) (v : T) → IsStamped a → IsSome (named a id) → Sets a (with_value a id v) id.1 (Some v)
  written-sets a id v st was = writes-sets a (with_value a id v) id v st was (with_value-writes a id v was)

-- the same as an equation of functions
pub sets-is : {T : Type 0} (a b : Arena T) (s : ℕ) (o : Option T) → Sets a b s o → by_stamp b ≡ amended (by_stamp a) s o
unfolding amended
sets-is a b s o sets = λ t q. at q t
  where
    at : (q : ℕ) → by_stamp b q ≡ (if q == s then o else by_stamp a q)
    at q = elim (cases_eq q s) [
      | inl e ↦ ap (by_stamp b) e ∙ (sets.here ∙ sym (ap (λ x. if x then o else by_stamp a q) (test q e)))
      | inr ne ↦ sets.others q ne ∙ sym (ap (λ x. if x then o else by_stamp a q) (test_not q ne))
    ]
      where
        test : (q : ℕ) → q ≡ s → (q == s) ≡ true
        test q e = grind arith

        test_not : (q : ℕ) → q ≢ s → (q == s) ≡ false
        test_not q ne = grind arith

pub on_if : {T E : Type 0} {P Q : T → Type 0} (r : Result T E) → ((x : T) → P x → Q x) → IfOk r P → IfOk r Q
on_if (Ok v) f h = f v h
on_if (Err e) f h = h
