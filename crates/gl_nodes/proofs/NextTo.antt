-- Where a node stands that links to a parent, and where a walk along siblings leads.
use Rattle.std.proofs.Common.{is_some, ◌≡◌, ◌≢◌, ℕ, zero, suc, ◌<◌, ◌≤◌, Option, Some, None, refl, sym, ap, subst, ◌∙◌, inl, inr, arith}
use Rattle.std.specs.Prelude.{unwrap_or, if◌then◌else◌}
use Rattle.gl_arena.specs.Id.{Id}
use Rattle.gl_arena.specs.Arena.{Arena}
use Rattle.gl_arena.proofs.Ids.{same_id-refl, same_id-other, id_cases}
use Rattle.gl_nodes.specs.Forest.{Forest, end, tree, joined, hit, times_top, below, below_node, until, from, past, without, IsAmong}
use Rattle.gl_nodes.specs.Links.{Look, Linked, rooted, parent_of, next_of, AreBeside, Walks, Leads}
use Rattle.gl_nodes.specs.Tree.{Tree, IsPlace, CanMove}
use Rattle.gl_nodes.specs.View.{links_of, IsTree}
use Rattle.gl_nodes.specs.Flat.{TakesNodes}
use Rattle.gl_nodes.specs.declared.links.Entry.{Entry}
use Rattle.gl_nodes.proofs.Counts.{some_same, hit-same, hit-other, times_top-le, below_node-times}
use Rattle.gl_nodes.proofs.Forests.{root_off, rooted-below, below_links}
use Rattle.gl_nodes.proofs.Trees.{once_in}
use Rattle.gl_nodes.proofs.Asked.{below_there}
use Rattle.gl_nodes.proofs.Childless.{Place, place_of}

-- a node of a run links to the parent of the run
top_above : (l : Look) (p b : Option Id) (f : Forest) (a : Option Id) (x : Id) → Linked l p b f a → 0 < times_top x f → parent_of (l x) ≡ p
top_above l p b end a x h lt = absurd (omega (arith, lt))
top_above l p b (tree i k r) a x h lt = elim (id_cases x i) [
  | inl e ↦ ap (λ j. parent_of (l j)) e ∙ ap parent_of h.0
  | inr ne ↦ let off = hit-other x i ne in top_above l p (Some i) r a x h.2 (omega (arith, lt, off))
]

module _ (a : Arena Entry) (root : Id) (n : ℕ) (f : Forest) (is : IsTree a root n f) where
  -- a child links to its parent
  child_above : (parent : Option Id) (kids : Forest) (x : Id) → below parent f ≡ Some kids → 0 < times_top x kids → parent_of (links_of a x) ≡ Some (unwrap_or parent root)
  child_above parent kids x h lt =
      let q = below_links (links_of a) (unwrap_or parent root) kids None None (rooted root f) None (rooted-below root parent f kids (root_off (links_of a) root n f is.links) h) is.links.linked in
      top_above (links_of a) (Some (unwrap_or parent root)) None kids None x q.1.run lt

  -- what links to a parent stands among the children of a parent
  pub placed_at : (x p : Id) → parent_of (links_of a x) ≡ Some p → (k : Forest) × Place x k f
  placed_at x p e = let b = below_there x f (is.placed x (ap is_some e)) in (b.0, place_of x b.0 f (once_in (links_of a) root n f is.links) b.1)

  -- what links to a parent is one of its children
  pub next_to : (parent : Option Id) (kids : Forest) (x : Id) → below parent f ≡ Some kids → parent_of (links_of a x) ≡ Some (unwrap_or parent root) → 0 < times_top x kids
  next_to parent kids x h e =
      let q = placed_at x (unwrap_or parent root) e in
      let off = root_off (links_of a) root n f is.links in
      let same : unwrap_or q.1.parent root ≡ unwrap_or parent root = some_same (unwrap_or q.1.parent root) (unwrap_or parent root) (sym (child_above q.1.parent q.1.kids x q.1.is_below q.1.top) ∙ e) in
      let one : q.1.kids ≡ kids = some_same q.1.kids kids (sym (rooted-below root q.1.parent f q.1.kids off q.1.is_below) ∙ (ap (λ j. below_node j (rooted root f)) same ∙ rooted-below root parent f kids off h)) in
      subst (λ g. 0 < times_top x g) one q.1.top

pub place_there : (a : Arena Entry) (root : Id) (n : ℕ) (t : Tree) (parent : Option Id) (x : Id) → IsTree a root n t.forest → TakesNodes t parent → parent_of (links_of a x) ≡ Some (unwrap_or parent root) → IsPlace t parent (Some x)
place_there a root n t parent x is takes e =
    record { kids = takes.place.kids; is_below = takes.place.is_below; among = next_to a root n t.forest is parent takes.place.kids x takes.place.is_below e }

-- Walks.

-- a walk from the first of some siblings ends at one of them, and what it does not meet stands behind its end
record Passes (x y : Id) (k r : Forest) (next : Option Id) : Type 0 where
  pub ends : 0 < times_top y (tree x k r)
  pub behind : (w : Id) → next ≡ Some w → 0 < times_top w (tree x k r) → 0 < times_top w (past y (tree x k r))

past-here : (x : Id) (k r : Forest) → past x (tree x k r) ≡ r
past-here x k r = ap (λ b. if b then r else past x r) (same_id-refl x)

past-there : (x y : Id) (k r : Forest) → x ≢ y → past y (tree x k r) ≡ past y r
past-there x y k r ne = ap (λ b. if b then r else past y r) (same_id-other x y ne)

-- what is not met is not the first
not_first : (x w : Id) (k r : Forest) (next : Option Id) → next ≢ Some x → next ≡ Some w → 0 < times_top w (tree x k r) → 0 < times_top w r
not_first x w k r next off e lt = let z = hit-other w x (λ q. off (e ∙ ap Some q)) in omega (arith, z, lt)

passes : (l : Look) (n : ℕ) (p b : Option Id) (x y : Id) (k r : Forest) (next : Option Id) → Linked l p b (tree x k r) None → ((z : Id) → times_top z (tree x k r) ≤ 1) → Walks l n x y next → Passes x y k r next
passes l zero p b x y k r next h once w = record {
  ends = let at = ap (λ j. hit j x) w.1 in let one = hit-same x in omega (arith, at, one);
  behind = λ z e lt. subst (λ j. 0 < times_top z (past j (tree x k r))) w.1 (subst (λ g. 0 < times_top z g) (sym (past-here x k r)) (not_first x z k r next w.0 e lt));
}
passes l (suc n) p b x y k end next h once w = absurd (let no : None ≡ Some w.1.0 = sym (ap next_of h.0) ∙ w.1.1 in cc)
passes l (suc n) p b x y k (tree j m s) next h once w =
    let at : j ≡ w.1.0 = some_same j w.1.0 (sym (ap next_of h.0) ∙ w.1.1) in
    let rest = passes l n p (Some x) j y m s next h.2 (λ z. let o = once z in omega (arith, o)) (subst (λ z. Walks l n z y next) (sym at) w.1.2) in
    let ends = rest.ends in
    let ne : x ≢ y = λ q. let o = once y in let z = ap (hit y) q in let one = hit-same y in absurd (omega (arith, o, z, one, ends)) in
    record {
      ends = omega (arith, ends);
      behind = λ z e lt. subst (λ g. 0 < times_top z g) (sym (past-there x y k (tree j m s) ne)) (rest.behind z e (not_first x z k (tree j m s) next w.0 e lt));
    }

-- among siblings, from one of them on
record Runs (x y : Id) (g : Forest) (next : Option Id) : Type 0 where
  pub ends : 0 < times_top y (from x g)
  pub stays : (w : Id) → next ≡ Some w → 0 < times_top w g → 0 < times_top w (without x y g)

runs : (l : Look) (n : ℕ) (p b : Option Id) (x y : Id) (g : Forest) (next : Option Id) → Linked l p b g None → ((z : Id) → times_top z g ≤ 1) → 0 < times_top x g → Walks l n x y next → Runs x y g next
runs l n p b x y end next h once lt w = absurd (omega (arith, lt))
runs l n p b x y (tree i k r) next h once lt w = elim (id_cases i x) [
  | inl e ↦ subst (λ j. Runs x y (tree j k r) next) (sym e) (at_first (subst (λ j. Linked l p b (tree j k r) None) e h) (subst (λ j. (z : Id) → times_top z (tree j k r) ≤ 1) e once))
  | inr ne ↦ let off = hit-other x i (λ q. ne (sym q)) in later ne (runs l n p (Some i) x y r next h.2 (λ z. let o = once z in omega (arith, o)) (omega (arith, lt, off)) w)
]
  where
    at_first : Linked l p b (tree x k r) None → ((z : Id) → times_top z (tree x k r) ≤ 1) → Runs x y (tree x k r) next
    at_first h once =
        let q = passes l n p b x y k r next h once w in
        let here : from x (tree x k r) ≡ tree x k r = ap (λ b. if b then tree x k r else from x r) (same_id-refl x) in
        let none : until x (tree x k r) ≡ end = ap (λ b. if b then end else tree x k (until x r)) (same_id-refl x) in
        record {
          ends = subst (λ g. 0 < times_top y g) (sym here) q.ends;
          stays = λ z e lt. subst (λ g. 0 < times_top z (joined g (past y (from x (tree x k r))))) (sym none) (subst (λ g. 0 < times_top z (past y g)) (sym here) (q.behind z e lt));
        }

    later : i ≢ x → Runs x y r next → Runs x y (tree i k r) next
    later ne q =
        let here : from x (tree i k r) ≡ from x r = ap (λ b. if b then tree i k r else from x r) (same_id-other i x ne) in
        let front : until x (tree i k r) ≡ tree i k (until x r) = ap (λ b. if b then end else tree i k (until x r)) (same_id-other i x ne) in
        record {
          ends = subst (λ g. 0 < times_top y g) (sym here) q.ends;
          stays = λ z e lt. subst (λ g. 0 < times_top z (joined g (past y (from x (tree i k r))))) (sym front)
              (subst (λ g. 0 < times_top z (joined (tree i k (until x r)) (past y g))) (sym here) (elim (id_cases z i) [
                | inl at ↦ let one = ap (hit z) at in let v = hit-same z in omega (arith, one, v)
                | inr far ↦ let off = hit-other z i far in let s = q.stays z e (omega (arith, lt, off)) in omega (arith, s)
              ]));
        }

-- siblings that lead from one to another are a run, and a third sibling that they don't meet is not of it
pub can_move : (a : Arena Entry) (root : Id) (n : ℕ) (f : Forest) (x y : Id) (next : Option Id) → IsTree a root n f → AreBeside (links_of a) x next → Leads (links_of a) x y next → CanMove f (Some (x, y)) next
can_move a root n f x y next is beside leads =
    let q = placed_at a root n f is x beside.parent beside.above in
    let at = q.1 in
    let p = unwrap_or at.parent root in
    let below' = rooted-below root at.parent f at.kids (root_off (links_of a) root n f is.links) at.is_below in
    let links = below_links (links_of a) p at.kids None None (rooted root f) None below' is.links.linked in
    let same : Some beside.parent ≡ Some p = sym beside.above ∙ child_above a root n f is at.parent at.kids x at.is_below at.top in
    let r = runs (links_of a) leads.0 (Some p) None x y at.kids next links.1.run (λ z. let g = below_node-times p (rooted root f) at.kids below' z in let o = is.links.once z in let t = times_top-le z at.kids in omega (arith, g, o, t)) at.top leads.1 in
    (at.parent, at.kids, at.is_below, record { starts = at.top; ends = r.ends }, among next at.kids (without x y at.kids) refl r.stays (λ w e. next_to a root n f is at.parent at.kids w at.is_below (beside.same w e ∙ same)))
  where
    among : (o : Option Id) (g h : Forest) → o ≡ next → ((w : Id) → next ≡ Some w → 0 < times_top w g → 0 < times_top w h) → ((w : Id) → next ≡ Some w → 0 < times_top w g) → IsAmong o h
    among None g h e stays there = tt
    among (Some w) g h e stays there = stays w (sym e) (there w (sym e))
