-- The first child and the next sibling, by the lists of stamps.
use Rattle.std.proofs.Common.{◌≡◌, ◌≢◌, ℕ, ◌+◌, ◌<◌, ◌≤◌, true, false, List, [], ◌∷◌, ◌++◌, Option, Some, None, IsSome, refl, sym, ap, ◌∙◌, inl, inr, arith, append-nil}
use Rattle.std.specs.Prelude.{if◌then◌else◌, ◌⊎◌}
use Rattle.std.proofs.lemmas.Bool.{cases_lt, cases_eq}
use Rattle.gl_arena.specs.Id.{Id, same_id}
use Rattle.gl_arena.proofs.Ids.{same_id-refl, same_id-other, id_cases}
use Rattle.gl_nodes.specs.Forest.{Forest, end, tree, first, times, either, below, below_node, after_node}
use Rattle.gl_nodes.specs.Tree.{Tree, first_in}
use Rattle.gl_nodes.specs.Flat.{same_stamp, stands, tops, kids_in, children, head_of, stamp_of, IsFlat}
use Rattle.gl_nodes.proofs.Counts.{hit-other}
use Rattle.gl_nodes.proofs.Flats.{stamp-same, stands-times, kids_in-here, kids_in-there, kids_in-off, kids_in-below, head_is, tail_of, listed-stands}
use Rattle.gl_nodes.proofs.Removing.{after_node-none}

pub first-head : (f : Forest) → stamp_of (first f) ≡ head_of (tops f)
first-head end = refl
first-head (tree i k r) = refl

-- the first child of a parent of the tree
pub first-flat : (t : Tree) (p : Option Id) → IsFlat t → IsSome (below p t.forest) → stamp_of (first_in (below p t.forest)) ≡ head_of (children t (stamp_of p))
first-flat t None flat h = first-head t.forest
first-flat t (Some p) flat h = by_case (below_node p t.forest) refl h
  where
    by_case : (o : Option Forest) → below_node p t.forest ≡ o → IsSome o → stamp_of (first_in (below_node p t.forest)) ≡ head_of (kids_in p.1 t.forest)
    by_case None e s = absurd (let no : false ≡ true = s in cc)
    by_case (Some g) e s = ap (λ o. stamp_of (first_in o)) e ∙ (first-head g ∙ sym (ap head_of (kids_in-below p t.forest g (flat.once p.1) e)))

-- A stamp that stands in one of two lists.

none_among : (s : ℕ) (front back : List ℕ) → [] ≡ front ++ s ∷ back → ⊥
none_among s [] back e = let no : [] ≡ s ∷ back = e in cc
none_among s (c ∷ cs) back e = let no : [] ≡ c ∷ (cs ++ s ∷ back) = e in cc

among_two : (s : ℕ) (xs ys front back : List ℕ) → xs ++ ys ≡ front ++ s ∷ back → ((f : List ℕ) × (b : List ℕ) × (xs ≡ f ++ s ∷ b)) ⊎ ((f : List ℕ) × (b : List ℕ) × (ys ≡ f ++ s ∷ b))
among_two s [] ys front back e = inr (front, back, e)
among_two s (x ∷ xs) ys [] back e = inl ([], xs, ap (λ z. z ∷ xs) (head_is x s (xs ++ ys) back e))
among_two s (x ∷ xs) ys (c ∷ cs) back e = elim (among_two s xs ys cs back (ap tail_of e)) [
  | inl q ↦ inl (x ∷ q.0, q.1, ap (λ l. x ∷ l) q.2)
  | inr q ↦ inr q
]

-- a child stands in the forest
pub kid-stands : (x s : ℕ) (f : Forest) (front back : List ℕ) → kids_in s f ≡ front ++ x ∷ back → 0 < stands x f
kid-stands x s end front back e = absurd (none_among x front back e)
kid-stands x s (tree i k r) front back e = elim (cases_eq s i.1) [
  | inl at ↦ elim (among_two x (tops k) (kids_in s k ++ kids_in s r) front back (sym (kids_in-here s i k r at) ∙ e)) [
    | inl q ↦ let on = listed-stands x k q.0 q.1 q.2 in omega (arith, on)
    | inr q ↦ further q.0 q.1 q.2 (kid-stands x s k) (kid-stands x s r)
  ]
  | inr ne ↦ further front back (sym (kids_in-there s i k r ne) ∙ e) (kid-stands x s k) (kid-stands x s r)
]
  where
    further : (front back : List ℕ) → kids_in s k ++ kids_in s r ≡ front ++ x ∷ back
        → ((f b : List ℕ) → kids_in s k ≡ f ++ x ∷ b → 0 < stands x k) → ((f b : List ℕ) → kids_in s r ≡ f ++ x ∷ b → 0 < stands x r)
        → 0 < same_stamp x i.1 + (stands x k + stands x r)
    further front back e in_k in_r = elim (among_two x (kids_in s k) (kids_in s r) front back e) [
      | inl q ↦ let on = in_k q.0 q.1 q.2 in omega (arith, on)
      | inr q ↦ let on = in_r q.0 q.1 q.2 in omega (arith, on)
    ]

-- the siblings after a node are these
pub record After (x : Id) (f : Forest) (back : List ℕ) : Type 0 where
  pub rest : Forest
  pub is : after_node x f ≡ Some rest
  pub listed : tops rest ≡ back

-- where a node stands below the first tree, or after it
after_down : (x i : Id) (k r : Forest) (back : List ℕ) → i ≢ x → After x k back → After x (tree i k r) back
after_down x i k r back ne a = record {
  rest = a.rest;
  is = ap (λ b. if b then Some r else either (after_node x k) (after_node x r)) (same_id-other i x ne) ∙ ap (λ o. either o (after_node x r)) a.is;
  listed = a.listed;
}

after_along : (x i : Id) (k r : Forest) (back : List ℕ) → i ≢ x → times x k ≡ 0 → After x r back → After x (tree i k r) back
after_along x i k r back ne off a = record {
  rest = a.rest;
  is = ap (λ b. if b then Some r else either (after_node x k) (after_node x r)) (same_id-other i x ne) ∙ (ap (λ o. either o (after_node x r)) (after_node-none x k off) ∙ a.is);
  listed = a.listed;
}

-- a stamp that stands below or after the first tree is not the first tree's
not_first : (x i : Id) (k r : Forest) → stands x.1 (tree i k r) ≤ 1 → 0 < stands x.1 k + stands x.1 r → i ≢ x
not_first x i k r once lt e = let one = ap (λ j. same_stamp x.1 j.1) e in let v = stamp-same x.1 in absurd (omega (arith, one, v, lt, once))

pub after-tops : (x : Id) (f : Forest) (front back : List ℕ) → 0 < times x f → stands x.1 f ≤ 1 → tops f ≡ front ++ x.1 ∷ back → After x f back
after-tops x end front back lt once e = absurd (omega arith)
after-tops x (tree i k r) [] back lt once e =
    let same : i ≡ x = elim (id_cases x i) [
      | inl q ↦ sym q
      | inr ne ↦
          let z = hit-other x i ne in
          let a = stands-times x k in
          let b = stands-times x r in
          let one = ap (same_stamp x.1) (head_is i.1 x.1 (tops r) back e) in
          let v = stamp-same x.1 in
          absurd (omega (arith, z, a, b, one, v, lt, once))
    ] in
    record {
      rest = r;
      is = ap (λ b. if b then Some r else either (after_node x k) (after_node x r)) (ap (λ j. same_id j x) same ∙ same_id-refl x);
      listed = ap tail_of e;
    }
after-tops x (tree i k r) (c ∷ cs) back lt once e =
    let rest : tops r ≡ cs ++ x.1 ∷ back = ap tail_of e in
    let stood = listed-stands x.1 r cs back rest in
    let ne = not_first x i k r once (omega (arith, stood)) in
    let a = stands-times x k in
    let off : times x k ≡ 0 = omega (arith, a, once, stood) in
    let z = hit-other x i (λ q. ne (sym q)) in
    after_along x i k r back ne off (after-tops x r cs back (omega (arith, lt, z, off)) (omega (arith, once)) rest)

pub after-kids_in : (x : Id) (s : ℕ) (f : Forest) (front back : List ℕ) → 0 < times x f → ((q : ℕ) → stands q f ≤ 1) → kids_in s f ≡ front ++ x.1 ∷ back → After x f back
after-kids_in x s end front back lt once e = absurd (omega arith)
after-kids_in x s (tree i k r) front back lt once e = elim (cases_eq s i.1) [
  | inl at ↦
      let one = ap (same_stamp s) (sym at) in
      let v = stamp-same s in
      let o = once s in
      let own : tops k ≡ front ++ x.1 ∷ back =
      sym (kids_in-here s i k r at ∙ (ap (λ l. tops k ++ (l ++ kids_in s r)) (kids_in-off s k (omega (arith, one, v, o)))
      ∙ (ap (λ l. tops k ++ l) (kids_in-off s r (omega (arith, one, v, o))) ∙ append-nil (tops k)))) ∙ e in
      let stood = listed-stands x.1 k front back own in
      let on = in_first stood in
      after_down x i k r back on.0 (after-tops x k front back on.1 (let w = once x.1 in omega (arith, w)) own)
  | inr ne ↦ further (sym (kids_in-there s i k r ne) ∙ e) (λ lt once e. after-kids_in x s k front back lt once e) (λ lt once e. after-kids_in x s r front back lt once e)
]
  where
    in_first : 0 < stands x.1 k → (i ≢ x) × (0 < times x k)
    in_first stood =
        let o = once x.1 in
        let ne = not_first x i k r o (omega (arith, stood)) in
        let a = stands-times x r in
        let z = hit-other x i (λ q. ne (sym q)) in
        (ne, omega (arith, o, stood, a, z, lt))

    further : kids_in s k ++ kids_in s r ≡ front ++ x.1 ∷ back
        → (0 < times x k → ((q : ℕ) → stands q k ≤ 1) → kids_in s k ≡ front ++ x.1 ∷ back → After x k back)
        → (0 < times x r → ((q : ℕ) → stands q r ≤ 1) → kids_in s r ≡ front ++ x.1 ∷ back → After x r back)
        → After x (tree i k r) back
    further e in_k in_r = elim (cases_lt 0 (stands s k)) [
      | inl on ↦
          let own : kids_in s k ≡ front ++ x.1 ∷ back = sym (ap (λ l. kids_in s k ++ l) (kids_in-off s r (let o = once s in omega (arith, o, on))) ∙ append-nil (kids_in s k)) ∙ e in
          let stood = kid-stands x.1 s k front back own in
          let there = in_first stood in
          after_down x i k r back there.0 (in_k there.1 (λ q. let o = once q in omega (arith, o)) own)
      | inr off ↦
          let own : kids_in s r ≡ front ++ x.1 ∷ back = sym (ap (λ l. l ++ kids_in s r) (kids_in-off s k (omega (arith, off)))) ∙ e in
          let stood = kid-stands x.1 s r front back own in
          let o = once x.1 in
          let ne = not_first x i k r o (omega (arith, stood)) in
          let a = stands-times x k in
          let gone : times x k ≡ 0 = omega (arith, a, o, stood) in
          let z = hit-other x i (λ q. ne (sym q)) in
          after_along x i k r back ne gone (in_r (omega (arith, lt, z, gone)) (λ q. let o = once q in omega (arith, o)) own)
    ]

-- the next sibling of a node of the tree
pub next-flat : (t : Tree) (x : Id) (q : Option ℕ) (front back : List ℕ) → IsFlat t → 0 < times x t.forest → children t q ≡ front ++ x.1 ∷ back → stamp_of (first_in (after_node x t.forest)) ≡ head_of back
next-flat t x q front back flat lt e = ended (by_case q e)
  where
    by_case : (q : Option ℕ) → children t q ≡ front ++ x.1 ∷ back → After x t.forest back
    by_case None e = after-tops x t.forest front back lt (flat.once x.1) e
    by_case (Some s) e = after-kids_in x s t.forest front back lt flat.once e

    ended : After x t.forest back → stamp_of (first_in (after_node x t.forest)) ≡ head_of back
    ended a = ap (λ o. stamp_of (first_in o)) a.is ∙ (first-head a.rest ∙ ap head_of a.listed)
