-- The numbers of the nodes that are counted, after pairs were carried.
use Rattle.std.proofs.Common.{◌≡◌, ◌≢◌, ℕ, ◌+◌, ◌<◌, List, [], ◌∷◌, ◌++◌, Option, Some, None, refl, sym, ap, subst, ◌∙◌, inl, inr, arith, Result, Ok, Err, OnOk, OnErr}
use Rattle.std.specs.Prelude.{if◌then◌else◌}
use Rattle.gl_arena.specs.Id.{Id, same_id}
use Rattle.gl_arena.proofs.Ids.{id_cases, same_id-refl, same_id-other}
use Rattle.gl_nodes.specs.Forest.{hit}
use Rattle.gl_nodes.proofs.Counts.{hit-same}
use Rattle.gl_print.specs.Numbers.{Numbers, at, first_of, given_on, carried, CarriesFront, IsNumberingOf, olds, AreOld, KeepsNumbering}

-- what the new node of a pair has, and every other
given-here : (m : Id → Option ℕ) (p : Id × Id) (i : Id) → i ≡ p.1 → given_on m p i ≡ first_of (m p.0) (m i)
unfolding given_on
given-here m p i e = ap (λ b. if b then first_of (m p.0) (m i) else m i) (ap (λ j. same_id j p.1) e ∙ same_id-refl p.1)

given-other : (m : Id → Option ℕ) (p : Id × Id) (i : Id) → i ≢ p.1 → given_on m p i ≡ m i
unfolding given_on
given-other m p i ne = ap (λ b. if b then first_of (m p.0) (m i) else m i) (same_id-other i p.1 ne)

-- the number of a node after a pair is one that it had, or the new node's, which the old one had
data Came (m : Id → Option ℕ) (p : Id × Id) (i : Id) (n : ℕ) : Type 0 where
  was : m i ≡ Some n → Came m p i n
  given : i ≡ p.1 → m p.0 ≡ Some n → Came m p i n

came : (m : Id → Option ℕ) (p : Id × Id) (i : Id) (n : ℕ) → given_on m p i ≡ Some n → Came m p i n
came m p i n h = elim (id_cases i p.1) [
  | inl e ↦ by_old (m p.0) refl e (sym (given-here m p i e) ∙ h)
  | inr ne ↦ was (sym (given-other m p i ne) ∙ h)
]
  where
    by_old : (o : Option ℕ) → m p.0 ≡ o → i ≡ p.1 → first_of (m p.0) (m i) ≡ Some n → Came m p i n
    by_old None e at h = was (sym (ap (λ o. first_of o (m i)) e) ∙ h)
    by_old (Some w) e at h = given at (e ∙ (sym (ap (λ o. first_of o (m i)) e) ∙ h))

carry-step : (counts : Id → ℕ) (m : Id → Option ℕ) (next : ℕ) (p : Id × Id) (ps : List (Id × Id)) → counts p.0 ≡ 0 → olds p.0 ps ≡ 0
    → IsNumberingOf (λ i. counts i + olds i (p ∷ ps)) m next → IsNumberingOf (λ i. counts i + olds i ps) (given_on m p) next
carry-step counts m next p ps out once num = record {
  once = λ i k n a b h w. same i k n a b (came m p i n h) (came m p k n w);
  below = λ i n a h. low i n a (came m p i n h);
}
  where
    old_on : 0 < counts p.0 + (hit p.0 p.0 + olds p.0 ps)
    old_on = let one = hit-same p.0 in omega (arith, one)

    -- a node that is counted, or an old one of the rest, is not this pair's old node
    apart : (i : Id) → 0 < counts i + olds i ps → i ≢ p.0
    apart i a e = let c = ap counts e in let o = ap (λ j. olds j ps) e in absurd (omega (arith, a, c, o, out, once))

    same : (i k : Id) (n : ℕ) → 0 < counts i + olds i ps → 0 < counts k + olds k ps → Came m p i n → Came m p k n → i ≡ k
    same i k n a b (was h) (was w) = num.once i k n (omega (arith, a)) (omega (arith, b)) h w
    same i k n a b (was h) (given e w) = absurd (apart i a (num.once i p.0 n (omega (arith, a)) old_on h w))
    same i k n a b (given e h) (was w) = absurd (apart k b (num.once k p.0 n (omega (arith, b)) old_on w h))
    same i k n a b (given e h) (given q w) = e ∙ sym q

    low : (i : Id) (n : ℕ) → 0 < counts i + olds i ps → Came m p i n → n < next
    low i n a (was h) = num.below i n (omega (arith, a)) h
    low i n a (given e h) = num.below p.0 n old_on h

pub carried-numbering : (counts : Id → ℕ) (m : Id → Option ℕ) (next : ℕ) (ps : List (Id × Id)) → AreOld counts ps → IsNumberingOf (λ i. counts i + olds i ps) m next → IsNumberingOf counts (carried m ps) next
carried-numbering counts m next [] h num = record {
  once = λ i k n a b x y. num.once i k n (omega (arith, a)) (omega (arith, b)) x y;
  below = λ i n a x. num.below i n (omega (arith, a)) x;
}
carried-numbering counts m next (p ∷ ps) h num = carried-numbering counts (given_on m p) next ps h.2 (carry-step counts m next p ps h.0 h.1 num)

-- a front of the pairs
olds-front : (i : Id) (ps qs : List (Id × Id)) → olds i (ps ++ qs) ≡ olds i ps + olds i qs
olds-front i [] qs = omega arith
olds-front i (p ∷ ps) qs = let q = olds-front i ps qs in omega (arith, q)

old-front : (counts : Id → ℕ) (ps qs : List (Id × Id)) → AreOld counts (ps ++ qs) → AreOld counts ps
old-front counts [] qs h = tt
old-front counts (p ∷ ps) qs h = (h.0, let w = h.1 in let q = olds-front p.0 ps qs in omega (arith, w, q), old-front counts ps qs h.2)

pub keeps_numbering : {T E : Type 0} (r : Result T E) (old new : Numbers) (ps : List (Id × Id)) → OnOk r ((λ i. at i new.of) ≡ carried (λ i. at i old.of) ps)
    → OnErr r (CarriesFront (λ i. at i old.of) (λ i. at i new.of) ps) → new.next ≡ old.next → KeepsNumbering old new ps
keeps_numbering (Ok v) old new ps of err next = λ counts h num.
    subst (λ n. IsNumberingOf counts (λ i. at i new.of) n) (sym next) (subst (λ m. IsNumberingOf counts m old.next) (sym of) (carried-numbering counts (λ i. at i old.of) old.next ps h num))
keeps_numbering (Err e) old new ps of err next = λ counts h num.
    let fewer : IsNumberingOf (λ i. counts i + olds i err.done) (λ i. at i old.of) old.next = record {
      once = λ i k n a b x y. num.once i k n (more counts i a) (more counts k b) x y;
      below = λ i n a x. num.below i n (more counts i a) x;
    } in
    subst (λ n. IsNumberingOf counts (λ i. at i new.of) n) (sym next)
    (subst (λ m. IsNumberingOf counts m old.next) (sym err.numbers)
    (carried-numbering counts (λ i. at i old.of) old.next err.done (old-front counts err.done err.rest (subst (AreOld counts) err.pairs h)) fewer))
  where
    more : (counts : Id → ℕ) (i : Id) → 0 < counts i + olds i err.done → 0 < counts i + olds i ps
    more counts i a = let q = olds-front i err.done err.rest in let w = ap (olds i) err.pairs in omega (arith, a, q, w)
