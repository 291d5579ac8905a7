-- A tree by flat look-ups, after each call.
use Rattle.std.proofs.Common.{◌≡◌, ◌≢◌, ℕ, ◌<◌, ◌≤◌, ◌++◌, Option, Some, None, IsSome, is_some, true, false, refl, sym, ap, ◌∙◌, inl, inr, arith}
use Rattle.std.specs.Prelude.{unwrap_or}
use Rattle.std.proofs.lemmas.Bool.{cases_lt}
use Rattle.gl_arena.specs.Id.{Id}
use Rattle.gl_arena.specs.Arena.{Arena, by_stamp, IsStamped, IsOwn}
use Rattle.gl_arena.proofs.Stamps.{by_stamp-id, by_stamp-live, by_stamp-same, changes-sets, own_live, own_same}
use Rattle.gl_nodes.specs.Node.{Node}
use Rattle.gl_nodes.specs.Forest.{Forest, leaf, times, below, below_node, edit, put_before, run, without, moved, IsAmong, IsRun}
use Rattle.gl_nodes.specs.Tree.{Tree, node_at, IsSound, IsMade, IsPlace, Makes, Changes, Loses, Range, Moves, Removes}
use Rattle.gl_nodes.specs.Flat.{stands, kids_in, kids, node_by, placed, cut, shifted, stamp_of, IsFlat, PutsFlat, RemovesFlat, ChangesFlat, MakesFlat, MovesFlat, MovesRange, RemovesRange}
use Rattle.gl_nodes.specs.View.{nodes_of}
use Rattle.gl_nodes.specs.declared.links.Entry.{Entry}
use Rattle.gl_nodes.proofs.Trees.{entry_live, times-without}
use Rattle.gl_nodes.proofs.Counts.{some_same, below_node-times}
use Rattle.gl_nodes.proofs.FlatLists.{without-cut, moved-shifted}
use Rattle.gl_nodes.proofs.FlatPlaces.{own_of}
use Rattle.gl_nodes.proofs.Flats.{stamp-same, stamp-other, stands-times, stands-id, stands-once, stands-below, stands-without, stands-put_before, kids_in-off, kids_in-leaf, kids_in-beside, kids_in-without, kids_in-moved, put_before-tops, put_before-placed, without-tops, below-there, edits}

pub IsStamped-nodes_of : (a : Arena Entry) → IsStamped a → IsStamped (nodes_of a)
IsStamped-nodes_of a st = record {
  below = λ i s. st.below i (entry_live a i s);
  apart = λ i k s t e. st.apart i k (entry_live a i s) (entry_live a k t) e;
}

pub is_flat : (t : Tree) → IsSound t → IsStamped t.nodes → IsFlat t
is_flat t sound st = record {
  sound = sound;
  stamped = st;
  once = stands-once t.forest sound.once (λ i k li lk e. st.apart i k (sound.live i li) (sound.live k lk) e);
}

-- a parent's own stamp stands nowhere below it
below_off : (t : Tree) (p : Option Id) (g : Forest) → IsFlat t → below p t.forest ≡ Some g → (x : Id) → p ≡ Some x → stands x.1 g ≡ 0
below_off t None g flat h x e = absurd (let no : None ≡ Some x = e in cc)
below_off t (Some p) g flat h x e = let same : p ≡ x = ap (λ o. unwrap_or o p) e in let q = stands-below p t.forest g p.1 h in let o = flat.once p.1 in let one = stamp-same p.1 in let at = ap (λ j. stands j.1 g) same in omega (arith, q, o, one, at)

times-below : (p : Option Id) (f g : Forest) → below p f ≡ Some g → (i : Id) → times i g ≤ times i f
times-below None f g h i = let at = ap (times i) (some_same f g h) in omega (arith, at)
times-below (Some x) f g h i = let got = below_node-times x f g h i in omega (arith, got)

-- a live id that doesn't stand in the forest, and one that does
made_off : (t : Tree) (i : Id) → IsFlat t → IsMade i t → stands i.1 t.forest ≡ 0
made_off t i flat made = elim (cases_lt 0 (stands i.1 t.forest)) [
  | inl lt ↦
      let q = stands-id i.1 t.forest lt in let same : q.0 ≡ i = flat.stamped.apart q.0 i (flat.sound.live q.0 q.2) made.live q.1 in let at = ap (λ j. times j t.forest) same in let on = q.2 in let out = made.out in absurd (omega (arith, at, on, out))
  | inr off ↦ omega (arith, off)
]

pub inserts-flat : (old : Tree) (p next : Option Id) (i : Id) (n : ℕ) → IsFlat old → IsMade i old → IsPlace old p next → PutsFlat old (record old { forest = edit p (put_before next (leaf i)) old.forest; inserts = n }) (stamp_of p) (stamp_of next) i.1
inserts-flat old p next i n flat made place = let g = place.kids in let within : (x : Id) → p ≡ Some x → stands x.1 g ≡ 0 = below_off old p g flat place.is_below in
    let e = edits p (put_before next (leaf i)) old.forest g place.is_below flat.sound.once flat.once (λ s x is at. let a = stands-put_before s next (leaf i) g in let b = within x is in let c = ap (λ z. stands z g) at in
    let ne : s ≢ i.1 = λ q. let on = parent_there p x g place.is_below is in let le = stands-times x old.forest in let off = made_off old i flat made in let z = ap (λ z. stands z old.forest) (sym at ∙ q) in absurd (omega (arith, on, le, off, z)) in let d = stamp-other s i.1 ne in omega (arith, a, b, c, d)) in record {
      is = e.is ∙ (put_before-placed next i g place.among (λ x. let w = e.within x.1 in let o = flat.once x.1 in omega (arith, w, o)) ∙ ap (placed (stamp_of next) i.1) (sym e.was));
      here = λ front back was at. e.is ∙ put_before-tops next (leaf i) g front back place.among (λ x. let w = e.within x.1 in let o = flat.once x.1 in omega (arith, w, o)) (sym e.was ∙ was) at;
      others = λ q ne. e.others q ne (λ s is. kids_in-beside s next (leaf i) g (kids_in-leaf s i));
      counts = λ q. let c = e.counts q in let w = stands-put_before q next (leaf i) g in omega (arith, c, w);
      nodes = refl;
    }
  where
    parent_there : (p : Option Id) (x : Id) (g : Forest) → below p old.forest ≡ Some g → p ≡ Some x → 0 < times x old.forest
    parent_there None x g h e = absurd (let no : None ≡ Some x = e in cc)
    parent_there (Some p) x g h e = below-there x old.forest g (ap (λ j. below_node j old.forest) (sym (ap (λ o. unwrap_or o p) e)) ∙ h)

pub removes-flat : (old new : Tree) (r : Id × Id) (p : Option Id) (g : Forest) → IsFlat old → IsFlat new → below p old.forest ≡ Some g → IsRun r.0 r.1 g → Loses r p g old new → RemovesFlat old new (stamp_of p) r.0.1 r.1.1 (run r.0 r.1 g)
removes-flat old new r p g flat now h is loses = let x = r.0 in let y = r.1 in let e = edits p (without x y) old.forest g h flat.sound.once flat.once (λ s z at same. let a = stands-without s x y g in let b = below_off old p g flat h z at in let c = ap (λ w. stands w g) same in omega (arith, a, b, c)) in
    let single : (z : Id) → stands z.1 g ≤ 1 = λ z. let w = e.within z.1 in let o = flat.once z.1 in omega (arith, w, o) in let inside : (i : Id) → 0 < times i (run x y g) → IsSome (node_at old i) = λ i lt.
    flat.sound.live i (let a = times-without x y g is i in let b = times-below p old.forest g h i in omega (arith, lt, a, b)) in record {
      is = ap (λ f. kids (stamp_of p) f) loses.forest ∙ (e.is ∙ ((without-cut x y g is single).0 ∙ ap (cut x.1 y.1) (sym e.was)));
      parent = λ s at. own_off p s at h;
      here = λ front rest back was last. ap (λ f. kids (stamp_of p) f) loses.forest ∙ (e.is ∙ (without-tops x y g front rest back is single (sym e.was ∙ was) last).0);
      others = λ q ne off. ap (λ f. kids q f) loses.forest ∙ e.others q ne (λ s at. kids_in-without s x y g (off s at));
      counts = λ s. let c = e.counts s in let w = stands-without s x y g in let z = ap (stands s) loses.forest in omega (arith, c, w, z);
      childless = λ s lt. ap (kids_in s) loses.forest ∙ kids_in-off s (edit p (without x y) old.forest) (let c = e.counts s in let w = stands-without s x y g in let o = flat.once s in omega (arith, c, w, o, lt));
      ended = λ s lt. gone s lt inside (by_stamp new.nodes s) refl;
      nodes = λ s off. by_stamp-same old.nodes new.nodes s flat.stamped now.stamped (λ i at. loses.others i (let a = stands-times i (run x y g) in let b = ap (λ z. stands z (run x y g)) at in omega (arith, a, b, off)));
      own = λ i own. record {
        below = let lt = own.below in let c = loses.stamps in omega (arith, lt, c);
        same = elim (cases_lt 0 (stands i.1 (run x y g))) [
          | inl on ↦ ended_id i own on inside ∙ sym (gone i.1 on inside (by_stamp new.nodes i.1) refl)
          | inr off ↦ loses.others i (let a = stands-times i (run x y g) in omega (arith, a, off)) ∙ (own.same ∙ sym (by_stamp-same old.nodes new.nodes i.1 flat.stamped now.stamped (λ k at. loses.others k (let a = stands-times k (run x y g) in let b = ap (λ z. stands z (run x y g)) at in omega (arith, a, b, off)))))
        ];
      };
    }
  where
    own_off : (p : Option Id) (s : ℕ) → stamp_of p ≡ Some s → below p old.forest ≡ Some g → stands s (run r.0 r.1 g) ≡ 0
    own_off None s at h = absurd (let no : None ≡ Some s = at in cc)
    own_off (Some z) s at h =
        let same : z.1 ≡ s = ap (λ o. unwrap_or o 0) at in
        let q = below_off old (Some z) g flat h z refl in
        let w = stands-without s r.0 r.1 g in
        let c = ap (λ n. stands n g) same in
        omega (arith, q, w, c)

    ended_id : (i : Id) → IsOwn old.nodes i → 0 < stands i.1 (run r.0 r.1 g) → ((i : Id) → 0 < times i (run r.0 r.1 g) → IsSome (node_at old i)) → node_at new i ≡ None
    ended_id i own lt inside = let q = stands-id i.1 (run r.0 r.1 g) lt in let live = inside q.0 q.2 in let same = own_same old.nodes i q.0 flat.stamped own (own_of old q.0 flat live) live (sym q.1) in loses.ended i (let at = ap (λ j. times j (run r.0 r.1 g)) same in let on = q.2 in omega (arith, at, on))

    gone : (s : ℕ) → 0 < stands s (run r.0 r.1 g) → ((i : Id) → 0 < times i (run r.0 r.1 g) → IsSome (node_at old i)) → (o : Option Node) → by_stamp new.nodes s ≡ o → by_stamp new.nodes s ≡ None
    gone s lt inside None e = e
    gone s lt inside (Some v) e = let q = stands-id s (run r.0 r.1 g) lt in let w = by_stamp-id new.nodes s v e in elim (cases_lt 0 (times w.0 (run r.0 r.1 g))) [
      | inl on ↦ absurd (let no : None ≡ Some v = sym (loses.ended w.0 on) ∙ w.2 in cc)
      | inr off ↦
          let live : IsSome (node_at old w.0) = ap is_some (sym (loses.others w.0 (omega (arith, off))) ∙ w.2) in let same : w.0 ≡ q.0 = flat.stamped.apart w.0 q.0 live (inside q.0 q.2) (w.1 ∙ sym q.1) in let at = ap (λ j. times j (run r.0 r.1 g)) same in let on = q.2 in absurd (omega (arith, at, on, off))
    ]

pub changes-flat : (old new : Tree) (i : Id) (node : Option Node) → IsFlat old → IsFlat new → IsSome (node_at old i) → IsSome node → Changes old new i node → ChangesFlat old new i.1 node
changes-flat old new i node flat now was is c = by_case node refl is
  where
    by_case : (o : Option Node) → node ≡ o → IsSome o → ChangesFlat old new i.1 node
    by_case None e s = absurd (let no : false ≡ true = s in cc)
    by_case (Some v) e s = let here = by_stamp-live new.nodes i v now.stamped (c.given ∙ e) in let sets = changes-sets old.nodes new.nodes i node flat.stamped now.stamped was c.stamps c.given c.others (here ∙ sym e) in record {
      here = sets.here;
      others = sets.others;
      children = λ q. ap (λ f. kids q f) c.forest;
      counts = λ q. ap (stands q) c.forest;
      own = sets.own;
    }

pub makes-flat : (old new : Tree) (i : Id) (node : Node) → IsFlat old → IsFlat new → Makes old new i node → MakesFlat old new i node
makes-flat old new i node flat now m = let not : (k : Id) (q : ℕ) → k.1 ≡ q → q ≢ i.1 → k ≢ i = λ k q at ne e. ne (sym at ∙ ap (λ j. j.1) e) in
    let others : (q : ℕ) → q ≢ i.1 → node_by new q ≡ node_by old q = λ q ne. by_stamp-same old.nodes new.nodes q flat.stamped now.stamped (λ k at. m.others k (not k q at ne)) in record {
      stamp = m.stamp;
      stamps = m.stamps;
      here = by_stamp-live new.nodes i node now.stamped m.given;
      others = others;
      children = λ q. ap (λ f. kids q f) m.forest;
      counts = λ q. ap (stands q) m.forest;
      out = made_off new i now (record { live = ap is_some m.given; out = ap (times i) m.forest ∙ m.out });
      is_own = own_live new.nodes i node now.stamped m.given;
      own = λ k own. let off : k.1 ≢ i.1 = λ e. let lt = own.below in let s = m.stamp in absurd (omega (arith, lt, s, e)) in record { below = let lt = own.below in let c = m.stamps in omega (arith, lt, c); same = m.others k (not k k.1 refl off) ∙ (own.same ∙ sym (others k.1 off)) };
    }

pub moves-flat : (old new : Tree) (p next : Option Id) (x y : Id) (g : Forest) → IsFlat old → below p old.forest ≡ Some g → IsRun x y g → IsAmong next (without x y g) → new.forest ≡ edit p (moved x y next) old.forest → MovesFlat old new (stamp_of p) (stamp_of next) x.1 y.1
moves-flat old new p next x y g flat h is among now = let count : (s : ℕ) → stands s (moved x y next g) ≡ stands s g = λ s. let a = stands-put_before s next (run x y g) (without x y g) in let b = stands-without s x y g in omega (arith, a, b) in
    let e = edits p (moved x y next) old.forest g h flat.sound.once flat.once (λ s z at same. let a = count s in let b = below_off old p g flat h z at in let c = ap (λ w. stands w g) same in omega (arith, a, b, c)) in
    let single : (z : Id) → stands z.1 g ≤ 1 = λ z. let w = e.within z.1 in let o = flat.once z.1 in omega (arith, w, o) in record {
      is = ap (λ f. kids (stamp_of p) f) now ∙ (e.is ∙ (moved-shifted x y next g is among single ∙ ap (shifted x.1 y.1 (stamp_of next)) (sym e.was)));
      here = λ front rest back was last front' back' same at. let t = without-tops x y g front rest back is single (sym e.was ∙ was) last in ap (λ f. kids (stamp_of p) f) now ∙ (e.is
          ∙ (put_before-tops next (run x y g) (without x y g) front' back' among (λ z. let w = stands-without z.1 x y g in let o = single z in omega (arith, w, o)) (t.0 ∙ same) at ∙ ap (λ l. front' ++ (l ++ back')) t.1));
      counts = λ q. let c = e.counts q in let w = count q in let z = ap (stands q) now in omega (arith, c, w, z);
      others = λ q ne. ap (λ f. kids q f) now ∙ e.others q ne (λ s is. kids_in-moved s x y next g (let w = e.within s in let o = flat.once s in omega (arith, w, o)));
    }

pub moves-range : (old new : Tree) (r : Range) (next : Option Id) → IsFlat old → Moves r next old.forest new.forest → MovesRange r next old new
moves-range old new None next flat h = λ q. ap (λ f. kids q f) h
moves-range old new (Some r) next flat h = λ p g at is among. moves-flat old new p next r.0 r.1 g flat at is among (h p g at is among)

pub removes-range : (old new : Tree) (r : Range) → IsFlat old → IsFlat new → Removes r old new → RemovesRange r old new
removes-range old new None flat now h = λ q. ap (λ f. kids q f) h.0
removes-range old new (Some r) flat now h = λ p g at is. removes-flat old new r p g flat now at is (h p g at is)
