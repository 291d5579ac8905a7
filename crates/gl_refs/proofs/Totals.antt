-- How often an id stands in the lists of an arena, after each call.
use Rattle.std.proofs.Common.{◌≡◌, ◌≢◌, ℕ, zero, suc, ◌+◌, ◌<◌, ◌≤◌, add-one, Bool, true, false, cond, List, [], ◌∷◌, Option, Some, None, IsSome, length, refl, sym, subst, ◌∙◌, ap, arith, ◌⊎◌, inl, inr}
use Rattle.std.specs.Prelude.{◌||◌}
use Rattle.std.specs.List.{list_any}
use Rattle.std.proofs.lemmas.Bool.{or_parts, cases_eq}
use Rattle.gl_arena.specs.Id.{Id, same_id}
use Rattle.gl_arena.specs.Arena.{Arena, named, by_stamp, IsStamped, Gives, Ends}
use Rattle.gl_arena.proofs.Stamps.{by_stamp-id, by_stamp-live, by_stamp-same, gives-sets, ends-sets}
use Rattle.gl_refs.specs.Counting.{once, times, listed, sum_below, total}

module _ (c : Id) where
  pub times_none : (xs : List Id) → list_any (same_id c) xs ≡ false → times c xs ≡ 0
  times_none [] h = refl
  times_none (x ∷ xs) h =
      let p = or_parts (same_id c x) (list_any (same_id c) xs) h in
      let a : once c x ≡ 0 = ap (λ b. cond b 1 0) p.0 in
      let r = times_none xs p.1 in
      omega (arith, a, r)

  pub none_times : (xs : List Id) → times c xs ≡ 0 → list_any (same_id c) xs ≡ false
  none_times [] h = refl
  none_times (x ∷ xs) h = by (same_id c x) refl (λ z. none_times xs z) where
    by : (b : Bool) → same_id c x ≡ b → (times c xs ≡ 0 → list_any (same_id c) xs ≡ false) → list_any (same_id c) (x ∷ xs) ≡ false
    by true e r = let a : once c x ≡ 1 = ap (λ b. cond b 1 0) e in let q : once c x + times c xs ≡ 0 = h in absurd (omega (arith, a, q))
    by false e r = let a : once c x ≡ 0 = ap (λ b. cond b 1 0) e in let q : once c x + times c xs ≡ 0 = h in ap (λ b. b || list_any (same_id c) xs) e ∙ r (omega (arith, a, q))

  one_most : (b : Bool) → cond b 1 0 ≤ 1
  one_most true = omega arith
  one_most false = omega arith

  pub times_most : (xs : List Id) → times c xs ≤ length xs
  times_most [] = omega arith
  times_most (x ∷ xs) = let a = one_most (same_id c x) in let r = times_most xs in omega (arith, a, r)

-- sums
sum_same : (f g : ℕ → ℕ) (n : ℕ) → ((s : ℕ) → s < n → f s ≡ g s) → sum_below f n ≡ sum_below g n
sum_same f g zero h = refl
sum_same f g (suc n) h = let a = h n (omega arith) in let r = sum_same f g n (λ s lt. h s (omega (arith, lt))) in omega (arith, a, r)

sum_one : (f g : ℕ → ℕ) (n s : ℕ) → s < n → ((q : ℕ) → q ≢ s → g q ≡ f q) → sum_below g n + f s ≡ sum_below f n + g s
sum_one f g zero s lt h = absurd (omega (arith, lt))
sum_one f g (suc n) s lt h = by (cases_eq s n) (λ z. sum_one f g n s z h) where
  by : (s ≡ n) ⊎ (s ≢ n) → (s < n → sum_below g n + f s ≡ sum_below f n + g s) → sum_below g (suc n) + f s ≡ sum_below f (suc n) + g s
  by (inl e) r =
      let a = sum_same g f n (λ q lt. h q (λ z. absurd (omega (arith, lt, z, e)))) in
      let b = ap f e in
      let d = ap g e in
      omega (arith, a, b, d)
  by (inr ne) r = let a = h n (λ z. ne (sym z)) in let b = r (omega (arith, lt, ne)) in omega (arith, a, b)

sum_none : (f : ℕ → ℕ) (n : ℕ) → ((s : ℕ) → f s ≡ 0) → sum_below f n ≡ 0
sum_none f zero h = refl
sum_none f (suc n) h = let a = h n in let r = sum_none f n h in omega (arith, a, r)

sum_term : (f : ℕ → ℕ) (n s : ℕ) → s < n → f s ≤ sum_below f n
sum_term f zero s lt = absurd (omega (arith, lt))
sum_term f (suc n) s lt = by (cases_eq s n) (λ z. sum_term f n s z) where
  by : (s ≡ n) ⊎ (s ≢ n) → (s < n → f s ≤ sum_below f n) → f s ≤ sum_below f (suc n)
  by (inl e) r = let b = ap f e in omega (arith, b)
  by (inr ne) r = let b = r (omega (arith, lt, ne)) in omega (arith, b)

module _ (a b : Arena (List Id)) (c : Id) where
  abbrev at : Arena (List Id) → ℕ → ℕ
  at x s = listed c (by_stamp x s)

  pub total_gives : (n : Id) (xs : List Id) → IsStamped a → Gives a b n xs → total b c ≡ total a c + times c xs
  total_gives n xs st g =
      let s = (gives-sets a b n xs st g).0 in
      let here : at b a.made ≡ times c xs = ap (listed c) s.here in
      let rest = sum_same (at b) (at a) a.made (λ q lt. ap (listed c) (s.others q (λ e. absurd (omega (arith, lt, e))))) in
      let whole : total b c ≡ at b a.made + sum_below (at b) a.made = ap (sum_below (at b)) (g.count ∙ add-one a.made) in
      omega (arith, here, rest, whole)

  pub total_ends : (n : Id) (xs : List Id) → IsStamped a → named a n ≡ Some xs → Ends a b n → total b c + times c xs ≡ total a c
  total_ends n xs st is g =
      let live = subst IsSome (sym is) refl in
      let s = ends-sets a b n st live g in
      let gone : at b n.1 ≡ 0 = ap (listed c) s.here in
      let was : at a n.1 ≡ times c xs = ap (listed c) (by_stamp-live a n xs st is) in
      let sum = sum_one (at a) (at b) a.made n.1 (st.below n live) (λ q ne. ap (listed c) (s.others q ne)) in
      let whole : total b c ≡ sum_below (at b) a.made = ap (sum_below (at b)) g.count in
      omega (arith, gone, was, sum, whole)

  pub total_same : IsStamped a → IsStamped b → b.made ≡ a.made → ((i : Id) → named b i ≡ named a i) → total b c ≡ total a c
  total_same sa sb made same = ap (sum_below (at b)) made ∙ sum_same (at b) (at a) a.made (λ s lt. ap (listed c) (by_stamp-same a b s sa sb (λ i e. same i)))

module _ (a : Arena (List Id)) (c : Id) (st : IsStamped a) where
  pub total_one : (i : Id) (xs : List Id) → named a i ≡ Some xs → times c xs ≤ total a c
  total_one i xs is = subst (λ n. n ≤ total a c) (ap (listed c) (by_stamp-live a i xs st is)) (sum_term (λ s. listed c (by_stamp a s)) a.made i.1 (st.below i (subst IsSome (sym is) refl)))

  pub total_none : ((i : Id) (xs : List Id) → named a i ≡ Some xs → times c xs ≡ 0) → total a c ≡ 0
  total_none h = sum_none (λ s. listed c (by_stamp a s)) a.made (λ s. by s (by_stamp a s) refl) where
    by : (s : ℕ) (o : Option (List Id)) → by_stamp a s ≡ o → listed c (by_stamp a s) ≡ 0
    by s None e = ap (listed c) e
    by s (Some xs) e = let r = by_stamp-id a s xs e in ap (listed c) e ∙ h r.0 xs r.2
