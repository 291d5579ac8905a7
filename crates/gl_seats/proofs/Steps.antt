-- What the calls of the tree do to a part of what was rendered.
use Rattle.std.proofs.Common.{◌≡◌, ◌≢◌, ℕ, suc, ◌+◌, ◌<◌, ◌≤◌, ◌==◌, List, [], ◌∷◌, ◌++◌, Option, Some, None, IsSome, refl, sym, ap, subst, ◌∙◌, inl, inr, arith, append_assoc}
use Rattle.std.specs.Prelude.{if◌then◌else◌, ◌⊎◌}
use Rattle.std.proofs.lemmas.Bool.{cases_eq}
use Rattle.gl_arena.specs.Id.{Id}
use Rattle.gl_nodes.specs.Forest as f
use Rattle.gl_nodes.specs.Forest.{Forest, after_node, below, times_top}
use Rattle.gl_nodes.specs.Tree.{Tree, first_in, node_at}
use Rattle.gl_nodes.specs.Flat as t
use Rattle.gl_nodes.specs.Flat.{same_stamp, stands, kids_in, kids, children, head_of, last_from, stamp_of, IsFlat, PutsFlat, RemovesFlat, RemovesLeaf, MovesFlat, Shifts}
use Rattle.gl_nodes.proofs.Flats.{stamp-same, test-same, test-other, kids_in-off, kids_in-below, listed-stands}
use Rattle.gl_arena.proofs.Ids.{id_cases}
use Rattle.gl_nodes.proofs.Counts.{hit-same, hit-other, some_same}
use Rattle.gl_nodes.proofs.FlatPlaces.{own_of, stands_own}
use Rattle.gl_nodes.proofs.Siblings.{kid-stands, next-flat}
use Rattle.gl_machine.specs.Shape.{Nest, end, tree, leaf}
use Rattle.gl_code.specs.Hung.{tops, stands_in, Hung, Hangs}
use Rattle.gl_seats.specs.Seats.{last_of, Nested, Unseats, SeatsBefore, ShiftsBefore, IsBehind}
use Rattle.gl_seats.proofs.Nests.{nested_same, of_some}

-- A stamp stands among the children of one parent only.

abbrev among : ℕ → List ℕ → ℕ
among s [] = 0
among s (x ∷ xs) = same_stamp s x + among s xs

among-both : (s : ℕ) (xs ys : List ℕ) → among s (xs ++ ys) ≡ among s xs + among s ys
among-both s [] ys = omega arith
among-both s (x ∷ xs) ys = let e = among-both s xs ys in omega (arith, e)

among-at : (s : ℕ) (front back : List ℕ) → 0 < among s (front ++ s ∷ back)
among-at s front back = let e = among-both s front (s ∷ back) in let one = stamp-same s in omega (arith, e, one)

-- the trees of a node are counted where the look-up asks for it
among-kids : (s a : ℕ) (i : Id) (k r : Forest) → among s (kids_in a (f.tree i k r)) ≡ among s (if a == i.1 then t.tops k else []) + (among s (kids_in a k) + among s (kids_in a r))
among-kids s a i k r = let own = if a == i.1 then t.tops k else [] in let e = among-both s own (kids_in a k ++ kids_in a r) in let d = among-both s (kids_in a k) (kids_in a r) in omega (arith, e, d)

own_or : (s a : ℕ) (i : Id) (k : Forest) → ((a ≡ i.1) × (among s (if a == i.1 then t.tops k else []) ≡ among s (t.tops k))) ⊎ ((a ≢ i.1) × (among s (if a == i.1 then t.tops k else []) ≡ 0))
own_or s a i k = elim (cases_eq a i.1) [
  | inl e ↦ inl (e, ap (λ b. among s (if b then t.tops k else [])) (test-same a i.1 e))
  | inr ne ↦ inr (ne, ap (λ b. among s (if b then t.tops k else [])) (test-other a i.1 ne))
]

among-three : (s a b : ℕ) (x : Forest) → a ≢ b → among s (t.tops x) + (among s (kids_in a x) + among s (kids_in b x)) ≤ stands s x
among-three s a b f.end ne = omega arith
among-three s a b (f.tree i k r) ne =
    let down = among-three s a b k ne in
    let along = among-three s a b r ne in
    let at_a = among-kids s a i k r in
    let at_b = among-kids s b i k r in
    elim (own_or s a i k) [
      | inl u ↦ elim (own_or s b i k) [
        | inl v ↦ absurd (ne (u.0 ∙ sym v.0))
        | inr v ↦ let c = u.1 in let d = v.1 in omega (arith, down, along, at_a, at_b, c, d)
      ]
      | inr u ↦ elim (own_or s b i k) [
        | inl v ↦ let c = u.1 in let d = v.1 in omega (arith, down, along, at_a, at_b, c, d)
        | inr v ↦ let c = u.1 in let d = v.1 in omega (arith, down, along, at_a, at_b, c, d)
      ]
    ]

-- so the parent of a stamp is one
pub one_parent : (s : ℕ) (x : Forest) (p q : Option ℕ) → stands s x ≤ 1 → 0 < among s (kids p x) → 0 < among s (kids q x) → p ≡ q
one_parent s x None None once a b = refl
one_parent s x None (Some c) once a b = let w = among-three s c (suc c) x (omega arith) in absurd (omega (arith, w, once, a, b))
one_parent s x (Some c) None once a b = let w = among-three s c (suc c) x (omega arith) in absurd (omega (arith, w, once, a, b))
one_parent s x (Some c) (Some d) once a b = elim (cases_eq c d) [
  | inl e ↦ ap Some e
  | inr ne ↦ let w = among-three s c d x ne in absurd (omega (arith, w, once, a, b))
]

-- two parents are the same, or not
parent_cases : (p q : Option ℕ) → (p ≡ q) ⊎ (p ≢ q)
parent_cases None None = inl refl
parent_cases None (Some d) = inr (λ e. let no : None ≡ Some d = e in cc)
parent_cases (Some c) None = inr (λ e. let no : Some c ≡ None = e in cc)
parent_cases (Some c) (Some d) = elim (cases_eq c d) [
  | inl e ↦ inl (ap Some e)
  | inr ne ↦ inr (λ e. ne (of_some c d e))
]

-- what is listed below a parent stands in the forest
child_stands : (s : ℕ) (x : Forest) (p : Option ℕ) (front back : List ℕ) → kids p x ≡ front ++ s ∷ back → 0 < stands s x
child_stands s x None front back e = listed-stands s x front back e
child_stands s x (Some q) front back e = kid-stands s q x front back e

pub leaf_unseats : (old new : Tree) (i : Id) → IsFlat new → RemovesLeaf old new i → Unseats old.forest new.forest (leaf i.1)
leaf_unseats old new i flat gone p front back stood = record {
  stood = record {
    line = ap (λ q. kids q new.forest) (sym parent_is) ∙ r.here front [] back (ap (λ q. kids q old.forest) parent_is ∙ stood.line) refl;
    nested = tt;
    within = λ s. omega arith;
    once = flat.once;
    parent = λ s e. let c = r.counts s in let w = stood.parent s e in let o = stood.apart s e in omega (arith, c, w, o);
    apart = λ s e. refl;
  };
  others = λ q ne off. r.others q (λ e. ne (e ∙ parent_is)) (λ s e. (off s e).0);
  counts = λ s. let c = r.counts s in omega (arith, c);
}
  where
    r : RemovesFlat old new gone.parent i.1 i.1 (f.leaf i)
    r = gone.removes

    parent_is : gone.parent ≡ p
    parent_is = elim (parent_cases p gone.parent) [
      | inl e ↦ sym e
      | inr ne ↦
          let same : kids p new.forest ≡ kids p old.forest = r.others p ne (λ s e. stood.apart s e) in
          let on = child_stands i.1 new.forest p front back (same ∙ stood.line) in
          let c = r.counts i.1 in
          let o = stood.once i.1 in
          let one = stamp-same i.1 in
          absurd (omega (arith, on, c, o, one))
    ]

-- a node that is put in stood nowhere before, so the parent is another one
put_out : (old new : Tree) (p next : Option ℕ) (s : ℕ) → IsFlat new → PutsFlat old new p next s → stands s old.forest ≡ 0
put_out old new p next s flat puts = let c = puts.counts s in let o = flat.once s in let one = stamp-same s in omega (arith, c, o, one)

put_childless : (old new : Tree) (p next : Option ℕ) (s : ℕ) → IsFlat new → PutsFlat old new p next s → p ≢ Some s → kids (Some s) new.forest ≡ []
put_childless old new p next s flat puts ne = puts.others (Some s) (λ e. ne (sym e)) ∙ kids_in-off s old.forest (put_out old new p next s flat puts)

pub hung_nested : (v : Tree) (x : Nest ℕ) → Hung v x → Nested v.forest x
hung_nested v end h = tt
hung_nested v (tree s k r) h = (h.0, hung_nested v k h.1, hung_nested v r h.2)

pub tree_seats : (old mid new : Tree) (p next : Option ℕ) (s : ℕ) (k : Nest ℕ) → IsFlat mid → IsFlat new → PutsFlat old mid p next s → Hangs mid new (Some s) k → SeatsBefore old.forest new.forest p next (tree s k end)
tree_seats old mid new p next s k was flat puts hangs front back stood at = record {
  stood = record {
    line = hangs.others p not_node in_none ∙ puts.here front back stood.line (sym at);
    nested = (hangs.top ∙ ap (λ l. l ++ tops k) (put_childless old mid p next s was puts not_node), hung_nested new k hangs.below, tt);
    within = λ q. let c = puts.counts q in let d = hangs.counts q in omega (arith, c, d);
    once = flat.once;
    parent = λ q e. let c = puts.counts q in let d = hangs.counts q in let w = stood.parent q e in omega (arith, c, d, w);
    apart = λ q e. let c = puts.counts q in let d = hangs.counts q in let w = stood.parent q e in let o = flat.once q in omega (arith, c, d, w, o);
  };
  others = λ q ne off. hangs.others q (λ e. let o = (off s e).1 in let one = stamp-same s in absurd (omega (arith, o, one))) (λ n e. let o = (off n e).1 in omega (arith, o)) ∙ puts.others q ne;
  counts = λ q. let c = puts.counts q in let d = hangs.counts q in omega (arith, c, d);
}
  where
    not_node : p ≢ Some s
    not_node e = let w = stood.parent s e in let out = put_out old mid p next s was puts in absurd (omega (arith, w, out))

    in_none : (q : ℕ) → p ≡ Some q → stands_in q k ≡ 0
    in_none q e = let c = puts.counts q in let d = hangs.counts q in let w = stood.parent q e in let o = flat.once q in omega (arith, c, d, w, o)

pub node_seats : (old new : Tree) (p next : Option ℕ) (s : ℕ) → IsFlat new → PutsFlat old new p next s → SeatsBefore old.forest new.forest p next (leaf s)
node_seats old new p next s flat puts front back stood at = record {
  stood = record {
    line = puts.here front back stood.line (sym at);
    nested = (put_childless old new p next s flat puts not_node, tt, tt);
    within = λ q. let c = puts.counts q in omega (arith, c);
    once = flat.once;
    parent = λ q e. let c = puts.counts q in let w = stood.parent q e in omega (arith, c, w);
    apart = λ q e. let c = puts.counts q in let w = stood.parent q e in let o = flat.once q in omega (arith, c, w, o);
  };
  others = λ q ne off. puts.others q ne;
  counts = λ q. let c = puts.counts q in omega (arith, c);
}
  where
    not_node : p ≢ Some s
    not_node e = let w = stood.parent s e in let out = put_out old new p next s flat puts in absurd (omega (arith, w, out))

-- The first and the last of a list.

pub last-from : (x : ℕ) (xs : List ℕ) → last_of (x ∷ xs) ≡ Some (last_from x xs)
last-from x [] = refl
last-from x (y ∷ ys) = last-from y ys

-- the run of the trees of a nest, from its first to its last
record Run (xs : List ℕ) (a b : ℕ) : Type 0 where
  rest : List ℕ
  is : xs ≡ a ∷ rest
  ends : last_from a rest ≡ b

run_of : (xs : List ℕ) (a b : ℕ) → head_of xs ≡ Some a → last_of xs ≡ Some b → Run xs a b
run_of [] a b h l = absurd (let no : None ≡ Some a = h in cc)
run_of (x ∷ xs) a b h l = let same : x ≡ a = of_some x a h in subst (λ z. Run (x ∷ xs) z b) same (record { rest = xs; is = refl; ends = of_some (last_from x xs) b (sym (last-from x xs) ∙ l) })

-- what stands before the last of a list
until_last : (xs : List ℕ) (b : ℕ) → last_of xs ≡ Some b → (front : List ℕ) × (xs ≡ front ++ b ∷ [])
until_last [] b l = absurd (let no : None ≡ Some b = l in cc)
until_last (x ∷ []) b l = ([], ap (λ z. z ∷ []) (of_some x b l))
until_last (x ∷ (y ∷ ys)) b l = let q = until_last (y ∷ ys) b l in (x ∷ q.0, ap (λ z. x ∷ z) q.1)

-- one of the trees of a forest is counted among their stamps
top_among : (i : Id) (x : Forest) → times_top i x ≤ among i.1 (t.tops x)
top_among i f.end = omega arith
top_among i (f.tree j k r) = let w = top_among i r in elim (id_cases i j) [
  | inl e ↦ let h = ap (f.hit i) (sym e) in let one = hit-same i in let at = ap (λ z. same_stamp i.1 z.1) (sym e) in let v = stamp-same i.1 in omega (arith, w, h, one, at, v)
  | inr ne ↦ let h = hit-other i j ne in omega (arith, w, h)
]

-- so is one that stands below a parent
below_among : (v : Tree) (i : Id) (p : Option Id) (g : Forest) → IsFlat v → below p v.forest ≡ Some g → 0 < times_top i g → 0 < among i.1 (kids (stamp_of p) v.forest)
below_among v i None g flat h lt = let at = ap (times_top i) (some_same v.forest g h) in let w = top_among i v.forest in omega (arith, at, w, lt)
below_among v i (Some x) g flat h lt = let at = ap (among i.1) (kids_in-below x v.forest g (flat.once x.1) h) in let w = top_among i g in omega (arith, at, w, lt)

pub run_shifts : (old new : Tree) (first last : Id) (p next : Option ℕ) (next_id : Option Id) (x : Nest ℕ) → IsFlat old → IsFlat new → Shifts old new first last next_id → next ≡ stamp_of next_id
    → head_of (tops x) ≡ Some first.1 → last_of (tops x) ≡ Some last.1 → ShiftsBefore old.forest new.forest p next x
run_shifts old new first last p next next_id x was flat shifts at begins ends front back stood left right same here = record {
  stood = record {
    line = ap (λ q. kids q new.forest) (sym parent_is)
        ∙ (m.here front r.rest back (ap (λ q. kids q old.forest) parent_is ∙ (stood.line ∙ ap (λ l. front ++ (l ++ back)) r.is)) r.ends left right same (sym here ∙ at) ∙ ap (λ l. left ++ (l ++ right)) (sym r.is));
    nested = nested_same old.forest new.forest x (λ s lt. m.others (Some s) (λ e. let o = stood.apart s (sym (e ∙ parent_is)) in absurd (omega (arith, o, lt)))) stood.nested;
    within = λ s. let c = m.counts s in let w = stood.within s in omega (arith, c, w);
    once = flat.once;
    parent = λ s e. let c = m.counts s in let w = stood.parent s e in omega (arith, c, w);
    apart = stood.apart;
  };
  others = λ q ne. m.others q (λ e. ne (e ∙ parent_is));
  counts = λ s. m.counts s;
}
  where
    m : MovesFlat old new (stamp_of shifts.parent) (stamp_of next_id) first.1 last.1
    m = shifts.moves_flat

    r : Run (tops x) first.1 last.1
    r = run_of (tops x) first.1 last.1 begins ends

    parent_is : stamp_of shifts.parent ≡ p
    parent_is = one_parent first.1 old.forest (stamp_of shifts.parent) p (was.once first.1) (below_among old first shifts.parent shifts.kids was shifts.is_below (let w = shifts.is_run.starts in omega (arith, w)))
        (let e = ap (among first.1) (stood.line ∙ ap (λ l. front ++ (l ++ back)) r.is) in let w = among-at first.1 front (r.rest ++ back) in omega (arith, e, w))

pub node_behind : (v : Tree) (p : Option ℕ) (x : Nest ℕ) (i : Id) → IsFlat v → IsSome (node_at v i) → last_of (tops x) ≡ Some i.1 → IsBehind v.forest p x (stamp_of (first_in (after_node i v.forest)))
node_behind v p x i flat live ends front back stood =
    let q = until_last (tops x) i.1 ends in
    let line : children v p ≡ (front ++ q.0) ++ i.1 ∷ back =
    stood.line ∙ (ap (λ l. front ++ (l ++ back)) q.1 ∙ (ap (λ l. front ++ l) (append_assoc q.0 (i.1 ∷ []) back) ∙ sym (append_assoc front q.0 (i.1 ∷ back)))) in
    let on = child_stands i.1 v.forest p (front ++ q.0) back line in
    next-flat v i p (front ++ q.0) back flat (stands_own v i flat (own_of v i flat live) on) line
