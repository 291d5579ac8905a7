-- Nodes and their numbers, both ways.
use Rattle.std.proofs.Common.{◌≡◌, ◌≢◌, ℕ, ◌+◌, ◌<◌, ◌≤◌, ◌==◌, true, false, map, List, [], ◌∷◌, ◌++◌, Option, Some, None, refl, sym, ap, subst, ◌∙◌, inl, inr, arith, IsSome, Result, Ok, Err, IfOk, OnOk}
use Rattle.std.specs.Prelude.{if◌then◌else◌, unwrap_or, ◌↔◌}
use Rattle.std.specs.List.Sorted.{IsStrictlySortedBy}
use Rattle.std.specs.List.{AllByRecursion}
use Rattle.std.specs.declared.cmp.Ordering.TheVariants.{Less}
use Rattle.std.specs.Ordering.{is_eq}
use Rattle.gl_arena.specs.Id.{Id, same_id, id_cmp, id_cmp_ties}
use Rattle.gl_arena.proofs.Ids.{id_cases, same_id-refl, same_id-other}
use Rattle.gl_nodes.specs.Forest.{Forest, end, tree, hit, times}
use Rattle.gl_nodes.proofs.Counts.{hit-same}
use Rattle.gl_meaning.specs.Numbering.{numbers_from}
use Rattle.gl_print.specs.Numbers.{Numbers, at, ids, node_of, AreKeysOnce, IsNumbering, IsNumberingOf}
use Rattle.gl_print.specs.Printing.{given, after}
use Rattle.gl_print.proofs.Givens.{numbers_from-of, numbers_from-next}
use Rattle.gl_print.proofs.Printings.{at-here, at-other}

-- The keys of a map stand once.
less_other : (k y : Id) → id_cmp k y ≡ Less → same_id k y ≡ false
less_other k y e = id_cmp_ties k y ∙ ap is_eq e

at-less : (k : Id) (es : List (Id × ℕ)) → AllByRecursion (λ y. id_cmp k y ≡ Less) (map (λ e. e.0) es) → at k es ≡ None
at-less k [] h = refl
at-less k (e ∷ es) h = ap (λ b. if b then Some e.1 else at k es) (less_other k e.0 h.0) ∙ at-less k es h.1

pub keys_once : (es : List (Id × ℕ)) → IsStrictlySortedBy id_cmp (map (λ e. e.0) es) → AreKeysOnce es
unfolding IsStrictlySortedBy
keys_once [] h = tt
keys_once (e ∷ es) h = (at-less e.0 es h.0, keys_once es h.1)

-- Both ways.
some_id : (i k : Id) → Some i ≡ Some k → i ≡ k
some_id i k e = ap (λ o. unwrap_or o i) e

some_number : (n m : ℕ) → Some n ≡ Some m → n ≡ m
some_number n m e = ap (λ o. unwrap_or o 0) e

none_some : {A : Type 0} (o : Option A) (v : A) → o ≡ None → o ≡ Some v → ⊥
none_some o v n s = let no : None ≡ Some v = sym n ∙ s in cc

pub node_of-at : (n : ℕ) (es : List (Id × ℕ)) (i : Id) → AreKeysOnce es → node_of n es ≡ Some i → at i es ≡ Some n
node_of-at n [] i once h = absurd (let no : None ≡ Some i = h in cc)
node_of-at n (p ∷ ps) i once h = by_test (n == p.1) refl h (λ t. node_of-at n ps i once.1 t)
  where
    by_test : (b : _) → (n == p.1) ≡ b → (if b then Some p.0 else node_of n ps) ≡ Some i → (node_of n ps ≡ Some i → at i ps ≡ Some n) → at i (p ∷ ps) ≡ Some n
    by_test true e t rest = let same : i ≡ p.0 = sym (some_id p.0 i t) in let eq : p.1 ≡ n = grind (arith, e) in ap (λ b. if b then Some p.1 else at i ps) (ap (λ j. same_id j p.0) same ∙ same_id-refl p.0) ∙ ap Some eq
    by_test false e t rest = let got = rest t in let ne : i ≢ p.0 = λ q. none_some (at i ps) n (ap (λ j. at j ps) q ∙ once.0) got in ap (λ b. if b then Some p.1 else at i ps) (same_id-other i p.0 ne) ∙ got

pub at-found : (n : ℕ) (es : List (Id × ℕ)) (i : Id) → at i es ≡ Some n → IsSome (node_of n es)
at-found n [] i h = absurd (let no : None ≡ Some n = h in cc)
at-found n (p ∷ ps) i h = by_test (n == p.1) refl (λ t. at-found n ps i t)
  where
    by_test : (b : _) → (n == p.1) ≡ b → (at i ps ≡ Some n → IsSome (node_of n ps)) → IsSome (if b then Some p.0 else node_of n ps)
    by_test true e rest = refl
    by_test false e rest = elim (same_id i p.0) as (λ b. (if b then Some p.1 else at i ps) ≡ Some n → IsSome (node_of n ps)) [
      | true ↦ λ t. let eq = some_number p.1 n t in let no : (n == p.1) ≡ true = grind (arith, eq) in absurd (let bad : false ≡ true = sym e ∙ no in cc)
      | false ↦ λ t. rest t
    ] h

pub node_of-is : (m : Numbers) (n : ℕ) (i : Id) → AreKeysOnce m.of → IsNumbering m → (node_of n m.of ≡ Some i) ↔ (at i m.of ≡ Some n)
node_of-is m n i keys is = ((λ h. node_of-at n m.of i keys h), (λ h. found (node_of n m.of) refl (at-found n m.of i h) h))
  where
    found : (o : Option Id) → node_of n m.of ≡ o → IsSome o → at i m.of ≡ Some n → node_of n m.of ≡ Some i
    found None e s h = absurd (let no : false ≡ true = s in cc)
    found (Some k) e s h = e ∙ ap Some (is.once k i n (node_of-at n m.of k keys e) h)

pub both_ways : (m : Numbers) (n : ℕ) (i : Id) (o : Option Id) → o ≡ node_of n m.of → AreKeysOnce m.of → IsNumbering m → (o ≡ Some i) ↔ (at i m.of ≡ Some n)
both_ways m n i o e keys is = subst (λ q. (q ≡ Some i) ↔ (at i m.of ≡ Some n)) (sym e) (node_of-is m n i keys is)

-- Numbers that are given.
pub many : Id → List Id → ℕ
many x [] = 0
many x (i ∷ is) = hit x i + many x is

many-append : (x : Id) (is ks : List Id) → many x (is ++ ks) ≡ many x is + many x ks
unfolding many
many-append x [] ks = omega arith
many-append x (i ∷ is) ks = let q = many-append x is ks in omega (arith, q)

pub many-ids : (x : Id) (f : Forest) → many x (ids f) ≡ times x f
unfolding many
many-ids x end = refl
many-ids x (tree i k r) = let a = many-append x (ids k) (ids r) in let b = many-ids x k in let c = many-ids x r in omega (arith, a, b, c)

module _ (old : Id → Option ℕ) where
  -- a number that is given is the old one, or a new one
  pub data Came (next last : ℕ) (is : List Id) (x : Id) (n : ℕ) : Type 0 where
    was : old x ≡ Some n → 0 < many x is → Came next last is x n
    fresh : old x ≡ None → next ≤ n → n < last → Came next last is x n

  pub record Numbered (next : ℕ) (is : List Id) (m : Numbers) : Type 0 where
    pub came : (x : Id) (n : ℕ) → at x m.of ≡ Some n → Came next m.next is x n
    pub once : (x y : Id) (n : ℕ) → at x m.of ≡ Some n → at y m.of ≡ Some n → x ≡ y
    pub more : next ≤ m.next

  more_came : (next next' last : ℕ) (i : Id) (is : List Id) (x : Id) (n : ℕ) → next ≤ next' → Came next' last is x n → Came next last (i ∷ is) x n
  unfolding many
  more_came next next' last i is x n le (was e lt) = was e (omega (arith, lt))
  more_came next next' last i is x n le (fresh e a b) = fresh e (omega (arith, a, le)) b

  -- one more node in front
  one_more : (next : ℕ) (i : Id) (is : List Id) (o : Option ℕ) → old i ≡ o → IsNumberingOf (λ x. many x (i ∷ is)) old next → (m : Numbers) → Numbered (after o next) is m → Numbered next (i ∷ is) (record { of = (i, given o next) ∷ m.of; next = m.next })
  unfolding many
  one_more next i is o e num m rest = record {
    came = λ x n h. elim (id_cases x i) [
      | inl q ↦ subst (λ j. Came next m.next (i ∷ is) j n) (sym q) (own o e rest.more (sym (at-here i (given o next) m.of) ∙ (ap (λ j. at j ((i, given o next) ∷ m.of)) (sym q) ∙ h)))
      | inr ne ↦ more_came next (after o next) m.next i is x n (le o) (rest.came x n (sym (at-other x i (given o next) m.of ne) ∙ h))
    ];
    once = λ x y n h k. elim (id_cases x i) [
      | inl q ↦ elim (id_cases y i) [
        | inl w ↦ q ∙ sym w
        | inr nw ↦ q ∙ clash o e y n (head x n q h) (rest.came y n (sym (at-other y i (given o next) m.of nw) ∙ k))
      ]
      | inr nq ↦ elim (id_cases y i) [
        | inl w ↦ sym (w ∙ clash o e x n (head y n w k) (rest.came x n (sym (at-other x i (given o next) m.of nq) ∙ h)))
        | inr nw ↦ rest.once x y n (sym (at-other x i (given o next) m.of nq) ∙ h) (sym (at-other y i (given o next) m.of nw) ∙ k)
      ]
    ];
    more = let a = le o in let b = rest.more in omega (arith, a, b);
  }
    where
      le : (o : Option ℕ) → next ≤ after o next
      le None = omega arith
      le (Some n) = omega arith

      head : (x : Id) (n : ℕ) → x ≡ i → at x ((i, given o next) ∷ m.of) ≡ Some n → given o next ≡ n
      head x n q h = some_number (given o next) n (sym (at-here i (given o next) m.of) ∙ (ap (λ j. at j ((i, given o next) ∷ m.of)) (sym q) ∙ h))

      own : (o : Option ℕ) → old i ≡ o → after o next ≤ m.next → {n : ℕ} → Some (given o next) ≡ Some n → Came next m.next (i ∷ is) i n
      own None e le {n} h = let at = some_number next n h in fresh e (omega (arith, at)) (omega (arith, at, le))
      own (Some w) e le {n} h = was (e ∙ h) (let one = hit-same i in omega (arith, one))

      clash : (o : Option ℕ) → old i ≡ o → (y : Id) (n : ℕ) → given o next ≡ n → Came (after o next) m.next is y n → i ≡ y
      clash None e y n at (was q lt) = let b = num.below y n (omega (arith, lt)) q in absurd (omega (arith, b, at))
      clash None e y n at (fresh q a b) = absurd (omega (arith, a, at))
      clash (Some w) e y n at (was q lt) = num.once i y n (let one = hit-same i in omega (arith, one)) (omega (arith, lt)) (e ∙ ap Some at) q
      clash (Some w) e y n at (fresh q a b) = let c = num.below i n (let one = hit-same i in omega (arith, one)) (e ∙ ap Some at) in absurd (omega (arith, a, c))

  pub numbered : (next : ℕ) (is : List Id) → IsNumberingOf (λ x. many x is) old next → Numbered next is (numbers_from old next is)
  unfolding many
  numbered next [] num = record {
    came = λ x n h. absurd (let no : None ≡ Some n = h in cc);
    once = λ x y n h k. absurd (let no : None ≡ Some n = h in cc);
    more = omega arith;
  }
  numbered next (i ∷ is) num = let rest = numbered (after (old i) next) is (record {
    once = λ x y n a b h k. num.once x y n (omega (arith, a)) (omega (arith, b)) h k;
    below = λ x n a h. let lt = num.below x n (omega (arith, a)) h in let g = rising (old i) next in omega (arith, lt, g);
  }) in let all = one_more next i is (old i) refl num (numbers_from old (after (old i) next) is) rest in subst (λ m. Numbered next (i ∷ is) m) (same (numbers_from-of old next i is) (numbers_from-next old next i is)) all
    where
      rising : (o : Option ℕ) (next : ℕ) → next ≤ after o next
      rising None next = omega arith
      rising (Some n) next = omega arith

      same : {m w : Numbers} → m.of ≡ w.of → m.next ≡ w.next → w ≡ m
      same {m} {w} a b = λ t. record { of = sym a t; next = sym b t }

-- what is printed is numbered, where the nodes of the tree were
pub print_numbers : (old new : Numbers) (f : Forest) → IsNumberingOf (λ x. times x f) (λ x. at x old.of) old.next → ((i : Id) → at i new.of ≡ at i (numbers_from (λ k. at k old.of) old.next (ids f)).of) → new.next ≡ (numbers_from (λ k. at k old.of) old.next (ids f)).next → IsNumbering new
print_numbers old new f num of next = let q = numbered (λ k. at k old.of) old.next (ids f) (record {
  once = λ i k n a b h w. num.once i k n (let z = many-ids i f in omega (arith, a, z)) (let z = many-ids k f in omega (arith, b, z)) h w;
  below = λ i n a h. num.below i n (let z = many-ids i f in omega (arith, a, z)) h;
}) in record {
  once = λ i k n h w. q.once i k n (sym (of i) ∙ h) (sym (of k) ∙ w);
  below = λ i n h. by_case i n (q.came i n (sym (of i) ∙ h)) q.more next;
}
  where
    by_case : (i : Id) (n : ℕ) → Came (λ k. at k old.of) old.next (numbers_from (λ k. at k old.of) old.next (ids f)).next (ids f) i n → old.next ≤ (numbers_from (λ k. at k old.of) old.next (ids f)).next → new.next ≡ (numbers_from (λ k. at k old.of) old.next (ids f)).next → n < new.next
    by_case i n (was e lt) more next = let b = num.below i n (let z = many-ids i f in omega (arith, lt, z)) e in omega (arith, b, more, next)
    by_case i n (fresh e a b) more next = omega (arith, b, next)

pub numbering_of : (m : Numbers) (counts : Id → ℕ) → IsNumbering m → IsNumberingOf counts (λ x. at x m.of) m.next
numbering_of m counts is = record { once = λ i k n a b h w. is.once i k n h w; below = λ i n a h. is.below i n h }

pub on_all_ok : {T E Q R : Type 0} {P S : T → Type 0} (r : Result T E) → ((x : T) → P x → Q → R → S x) → IfOk r P → OnOk r Q → OnOk r R → IfOk r S
on_all_ok (Ok v) f h k l = f v h k l
on_all_ok (Err e) f h k l = h
