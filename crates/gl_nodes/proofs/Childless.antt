-- A node without children, as a run by itself.
use Rattle.std.proofs.Common.{◌≡◌, ◌≢◌, ℕ, ◌<◌, ◌≤◌, true, false, Option, Some, None, refl, sym, ap, subst, ◌∙◌, inl, inr, arith, is_some}
use Rattle.std.specs.Prelude.{if◌then◌else◌}
use Rattle.gl_arena.specs.Id.{Id, same_id}
use Rattle.gl_arena.specs.Arena.{Arena}
use Rattle.gl_arena.proofs.Ids.{same_id-refl, same_id-other, id_cases}
use Rattle.gl_nodes.specs.Forest.{Forest, end, tree, hit, times, times_top, either, below, below_node, from, through, run, IsRun}
use Rattle.gl_nodes.specs.Links.{first_of, parent_of}
use Rattle.gl_nodes.specs.Tree.{Tree, first_in, Removes}
use Rattle.gl_nodes.specs.View.{links_of, IsTree}
use Rattle.gl_nodes.specs.Flat.{stamp_of, RemovesRange, RemovesFlat, IsLeaf, RemovesLeaf}
use Rattle.gl_nodes.specs.declared.links.Entry.{Entry}
use Rattle.gl_nodes.proofs.Counts.{hit-same, hit-other, some_same, times_top-le}
use Rattle.gl_nodes.proofs.Trees.{once_in}
use Rattle.gl_nodes.proofs.Flats.{below-there}
use Rattle.gl_nodes.proofs.Callers.{below_node-leaf, from-first}
use Rattle.gl_nodes.proofs.Asked.{below_there}
use Rattle.gl_nodes.proofs.Removing.{first_child}

-- where a node stands: among the children of a parent
pub record Place (i : Id) (k f : Forest) : Type 0 where
  pub parent : Option Id
  pub kids : Forest
  pub is_below : below parent f ≡ Some kids
  pub top : 0 < times_top i kids
  pub here : below_node i kids ≡ Some k
  pub once : times i kids ≤ 1

none_below : (x : Id) (f : Forest) → times x f ≡ 0 → below_node x f ≡ None
none_below x f off = by_case (below_node x f) refl where
  by_case : (o : Option Forest) → below_node x f ≡ o → below_node x f ≡ None
  by_case None e = e
  by_case (Some g) e = let lt = below-there x f g e in absurd (omega (arith, lt, off))

below_other : (x j : Id) (m r : Forest) → j ≢ x → below_node x (tree j m r) ≡ either (below_node x m) (below_node x r)
below_other x j m r ne = ap (λ b. if b then Some m else either (below_node x m) (below_node x r)) (same_id-other j x ne)

-- a node stands once, so what stands below or after the first tree is another one
down_from : (i j : Id) (k m r : Forest) → ((x : Id) → times x (tree j m r) ≤ 1) → Place i k m → Place i k (tree j m r)
down_from i j k m r once w = by_case w.parent w.is_below where
  by_case : (p : Option Id) → below p m ≡ Some w.kids → Place i k (tree j m r)
  by_case None e = record { parent = Some j; kids = w.kids; is_below = below_node-leaf j m r ∙ e; top = w.top; here = w.here; once = w.once }
  by_case (Some x) e = record {
    parent = Some x;
    kids = w.kids;
    is_below = below_other x j m r (λ q. let lt = below-there x m w.kids e in let o = once j in let one = hit-same j in let at = ap (λ z. times z m) q in absurd (omega (arith, lt, o, one, at)))
        ∙ ap (λ o. either o (below_node x r)) e;
    top = w.top;
    here = w.here;
    once = w.once;
  }

after_it : (i j : Id) (k m r : Forest) → ((x : Id) → times x (tree j m r) ≤ 1) → below_node i (tree j m r) ≡ Some k → Place i k r → Place i k (tree j m r)
after_it i j k m r once here w = by_case w.parent w.is_below where
  by_case : (p : Option Id) → below p r ≡ Some w.kids → Place i k (tree j m r)
  by_case None e =
      let at = ap (times_top i) (some_same r w.kids e) in let t = w.top in record { parent = None; kids = tree j m r; is_below = refl; top = omega (arith, at, t); here = here; once = once i }
  by_case (Some x) e =
      let lt = below-there x r w.kids e in record {
        parent = Some x;
        kids = w.kids;
        is_below = below_other x j m r (λ q. let o = once j in let one = hit-same j in let at = ap (λ z. times z r) q in absurd (omega (arith, lt, o, one, at)))
            ∙ (ap (λ o. either o (below_node x r)) (none_below x m (let o = once x in omega (arith, o, lt))) ∙ e);
        top = w.top;
        here = w.here;
        once = w.once;
      }

pub place_of : (i : Id) (k f : Forest) → ((x : Id) → times x f ≤ 1) → below_node i f ≡ Some k → Place i k f
place_of i k end once e = absurd (let no : None ≡ Some k = e in cc)
place_of i k (tree j m r) once e = elim (id_cases j i) [
  | inl q ↦ record { parent = None; kids = tree j m r; is_below = refl; top = (let at = ap (hit i) q in let one = hit-same i in omega (arith, at, one)); here = e; once = once i }
  | inr ne ↦ by_case (below_node i m) refl (sym (below_other i j m r ne) ∙ e) (λ h. place_of i k m (λ x. let o = once x in omega (arith, o)) h) (λ h. place_of i k r (λ x. let o = once x in omega (arith, o)) h)
]
  where
    by_case : (o : Option Forest) → below_node i m ≡ o → either (below_node i m) (below_node i r) ≡ Some k → (below_node i m ≡ Some k → Place i k m) → (below_node i r ≡ Some k → Place i k r) → Place i k (tree j m r)
    by_case (Some g) is h down after = down_from i j k m r once (down (is ∙ (sym (ap (λ o. either o (below_node i r)) is) ∙ h)))
    by_case None is h down after = after_it i j k m r once e (after (sym (ap (λ o. either o (below_node i r)) is) ∙ h))

-- among its siblings it is the run from it to itself
pub run_alone : (i : Id) (k g : Forest) → 0 < times_top i g → times i g ≤ 1 → below_node i g ≡ Some k → run i i g ≡ tree i k end
run_alone i k end lt once e = absurd (omega (arith, lt))
run_alone i k (tree j m r) lt once e = elim (id_cases j i) [
  | inl q ↦
      let here : Some m ≡ Some k = sym (ap (λ b. if b then Some m else either (below_node i m) (below_node i r)) (ap (λ z. same_id z i) q ∙ same_id-refl i)) ∙ e in
      ap (λ z. run i i (tree z m r)) q
      ∙ (ap (through i) (from-first i m r)
      ∙ (ap (λ b. if b then tree i m end else tree i m (through i r)) (same_id-refl i) ∙ ap (λ z. tree i z end) (some_same m k here)))
  | inr ne ↦
      let off = hit-other i j (λ q. ne (sym q)) in
      let top : 0 < times_top i r = omega (arith, lt, off) in
      let le = times_top-le i r in
      let none = none_below i m (omega (arith, once, top, le)) in
      ap (λ b. through i (if b then tree j m r else from i r)) (same_id-other j i ne)
      ∙ run_alone i k r top (omega (arith, once)) (sym (ap (λ o. either o (below_node i r)) none) ∙ (sym (below_other i j m r ne) ∙ e))
]

run_of : (i : Id) (g : Forest) → 0 < times_top i g → IsRun i i g
run_of i g lt = record { starts = lt; ends = from_top g lt } where
  from_top : (g : Forest) → 0 < times_top i g → 0 < times_top i (from i g)
  from_top end lt = absurd (omega (arith, lt))
  from_top (tree j m r) lt = elim (id_cases j i) [
    | inl q ↦ subst (λ z. 0 < times_top i z) (sym (ap (λ b. if b then tree j m r else from i r) (ap (λ z. same_id z i) q ∙ same_id-refl i))) lt
    | inr ne ↦ let off = hit-other i j (λ q. ne (sym q)) in subst (λ z. 0 < times_top i z) (sym (ap (λ b. if b then tree j m r else from i r) (same_id-other j i ne))) (from_top r (omega (arith, lt, off)))
  ]

leaf_at : (t : Tree) (i : Id) → ((x : Id) → times x t.forest ≤ 1) → below_node i t.forest ≡ Some end → IsLeaf t i
leaf_at t i once e =
    let w = place_of i end t.forest once e in record {
      parent = w.parent;
      kids = w.kids;
      is_below = w.is_below;
      is_run = run_of i w.kids w.top;
      alone = run_alone i end w.kids w.top w.once w.here;
    }

-- a node without a first child has nothing below it
childless : (a : Arena Entry) (root : Id) (n : ℕ) (f : Forest) (i : Id) → IsTree a root n f → 0 < times i f → is_some (first_of (links_of a i)) ≡ false → below_node i f ≡ Some end
childless a root n f i is lt none =
    let b = below_there i f lt in by_case b.0 b.1 (sym (ap is_some (first_child a root n f (Some i) is (ap is_some b.1) ∙ ap first_in b.1)) ∙ none) where
      by_case : (g : Forest) → below_node i f ≡ Some g → is_some (first_in (Some g)) ≡ false → below_node i f ≡ Some end
      by_case end e h = e
      by_case (tree j m r) e h = absurd (let no : true ≡ false = h in cc)

-- what has a parent stands in the tree
pub stands_leaf : (a : Arena Entry) (root : Id) (n : ℕ) (t : Tree) (i : Id) → IsTree a root n t.forest → is_some (parent_of (links_of a i)) ≡ true → is_some (first_of (links_of a i)) ≡ false → IsLeaf t i
stands_leaf a root n t i is has none = leaf_at t i (once_in (links_of a) root n t.forest is.links) (childless a root n t.forest i is (is.placed i has) none)

pub leaf_goes : (old new : Tree) (i : Id) → IsLeaf old i → Removes (Some (i, i)) old new → RemovesRange (Some (i, i)) old new → RemovesLeaf old new i
leaf_goes old new i is gone flat = record {
  parent = stamp_of is.parent;
  removes = subst (RemovesFlat old new (stamp_of is.parent) i.1 i.1) is.alone (flat is.parent is.kids is.is_below is.is_run);
  count = (gone is.parent is.kids is.is_below is.is_run).stamps;
}
