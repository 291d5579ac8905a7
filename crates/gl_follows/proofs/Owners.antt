-- What is kept of the instances of a tree.
use Rattle.std.proofs.Common.{◌≡◌, ℕ, zero, suc, List, [], ◌∷◌, ◌++◌, map, Bool, true, false, true≢false, Option, Some, None, refl, sym, ap, ap₂, ◌∙◌, subst, inl, inr}
use Rattle.gl_base.specs.Texts.{Text}
use Rattle.gl_value.specs.Value.{Values, no_values, value}
use Rattle.gl_ast.specs.Template as t
use Rattle.gl_meaning.specs.App.{App}
use Rattle.gl_meaning.specs.Path.{Path, at, main, otherwise, items, item, into, slot, at_path}
use Rattle.gl_meaning.specs.Scope.{Source, Scope}
use Rattle.gl_meaning.specs.Eval.{Store, class_at, field_member, member_of}
use Rattle.gl_meaning.specs.Known.{Among}
use Rattle.gl_meaning.specs.Laws.{NoRepeat}
use Rattle.gl_meaning.specs.Changes.{instances}
use Rattle.gl_meaning.specs.Render.{Entry, Block, block_named, draw}
use Rattle.gl_meaning.specs.Session as session
use Rattle.gl_meaning.proofs.Once.{instances_once}
use Rattle.gl_meaning.proofs.Pieces.{among_either, among_left, filter_map_append}
use Rattle.gl_plain.specs.Turns.{begin}
use Rattle.gl_plain.specs.Ids.{Id, instance_id}
use Rattle.gl_plain.specs.State.{Inst, MScope, cell_ref, passed_in, mslots, row, content, instance_row, block_row, modifier_row, Thing, State, touch}
use Rattle.gl_plain.specs.Live.{Live, still, put_live, element_live, branch_live, listed, unlisted, let_live, component_live, yield_live, deep_live, Items, no_items, item_live, Lives, no_lives, live_and}
use Rattle.gl_plain.specs.Stands.{WhereValues, WhereBlock, Stands, StandIn, ItemsStand, BlockStands, ListStands, ElseStands}
use Rattle.gl_plain.specs.Machine.{RootStands, StandsFor}
use Rattle.gl_plain.proofs.Roots.{standing_shows}
use Rattle.gl_naming.specs.Renamed.{there_with, state_with}
use Rattle.gl_naming.specs.Numbered.{number}
use Rattle.gl_naming.specs.Ties.{numbers, ties, ties_items, ties_in, owner_key, owners_in, own_tie, no_tie}
use Rattle.gl_naming.proofs.Exist.{owner_once}
use Rattle.gl_naming.proofs.Swaps.{takes_at}
use Rattle.gl_turns.specs.Places.{Place, instance_in, comment_places, attr_places, mod_places, places, places_items, places_in}
use Rattle.gl_turns.proofs.Found.{at_found, mapped_from}
use Rattle.gl_turns.proofs.Numbered.{tree_agrees}
use Rattle.gl_follows.specs.Sets.{set_at_by, set_all_by, AreThere, Put, put_at, put_all, held_of, AreOwn}
use Rattle.gl_follows.specs.Turns.{FollowsBy}
use Rattle.gl_follows.specs.Laws.{OwnerIs, OwnerBy, NumberBy, PutsBy}
use Rattle.gl_follows.proofs.Tied.{among_right, insts, in_either, in_element, in_arm, tied, rows_of}

left_of : (z : Path × Inst) (xs ys : List Place) → Among z (insts ys) → Among z (insts (xs ++ ys))
left_of z xs ys m = subst (Among z) (sym (filter_map_append instance_in xs ys)) (among_right z (insts xs) (insts ys) m)

right_of : (z : Path × Inst) (xs ys : List Place) → Among z (insts xs) → Among z (insts (xs ++ ys))
right_of z xs ys m = subst (Among z) (sym (filter_map_append instance_in xs ys)) (among_left z (insts xs) (insts ys) m)

-- each instance of the tree is kept as it is
module _ (look : Id → Option Thing) where
  abbrev pub Kept : Path × Inst → Type 0
  Kept z = look (instance_id z.1.id) ≡ Some (instance_row z.1)

  abbrev mutual
    pub RowsThere : Live → Type 0
    RowsThere (element_live n made xs zs ls) = RowsIn ls
    RowsThere (branch_live x u k ls) = RowsIn ls
    RowsThere (listed x is) = RowsItems is
    RowsThere (unlisted x k ls) = RowsIn ls
    RowsThere (let_live made rs ls) = RowsIn ls
    RowsThere (component_live i made gm args k ls) = (look (instance_id i.id) ≡ Some (instance_row i)) × RowsIn ls
    RowsThere (yield_live n made rs ls) = RowsIn ls
    RowsThere _ = Unit {0}

    pub RowsItems : Items → Type 0
    RowsItems no_items = Unit {0}
    RowsItems (item_live x k ls is) = RowsIn ls × RowsItems is

    pub RowsIn : Lives → Type 0
    RowsIn no_lives = Unit {0}
    RowsIn (live_and l ls) = RowsThere l × RowsIn ls

  mutual
    kept : (p : Path) (l : Live) → RowsThere l → (z : Path × Inst) → Among z (insts (places p l)) → Kept z
    kept p (still n) s z m = absurd m
    kept p (put_live n x) s z m = absurd m
    kept p (element_live n made xs zs ls) s z m = kept_in p 0 ls s z (in_element z p xs (places_in p 0 ls) zs m)
    kept p (branch_live x true k ls) s z m = kept_in (main ∷ p) 0 ls s z (in_arm z (main ∷ p) (places_in (main ∷ p) 0 ls) k m)
    kept p (branch_live x false k ls) s z m = kept_in (otherwise ∷ p) 0 ls s z (in_arm z (otherwise ∷ p) (places_in (otherwise ∷ p) 0 ls) k m)
    kept p (listed x is) s z m = kept_items (items ∷ p) is s z m
    kept p (unlisted x k ls) s z m = kept_in (otherwise ∷ p) 0 ls s z (in_arm z (otherwise ∷ p) (places_in (otherwise ∷ p) 0 ls) k m)
    kept p (let_live made rs ls) s z m = kept_in (main ∷ p) 0 ls s z m
    kept p (component_live i made gm args k ls) s z m = elim m [ inl e ↦ subst Kept (sym e) s.0 | inr w ↦ kept_in i.path 0 ls s.1 z w ]
    kept p (yield_live n made rs ls) s z m = kept_in (slot n ∷ p) 0 ls s z m
    kept p (deep_live q) s z m = absurd m

    kept_items : (p : Path) (is : Items) → RowsItems is → (z : Path × Inst) → Among z (insts (places_items p is)) → Kept z
    kept_items p no_items s z m = absurd m
    kept_items p (item_live x k ls is) s z m =
        let q = item x.key x.occurrence ∷ p in
        elim (in_either z (places_in q 0 ls ++ comment_places q k) (places_items p is) m) [ inl a ↦ kept_in q 0 ls s.0 z (in_arm z q (places_in q 0 ls) k a) | inr b ↦ kept_items p is s.1 z b ]

    kept_in : (p : Path) (i : ℕ) (ls : Lives) → RowsIn ls → (z : Path × Inst) → Among z (insts (places_in p i ls)) → Kept z
    kept_in p i no_lives s z m = absurd m
    kept_in p i (live_and l ls) s z m = elim (in_either z (places (at i ∷ p) l) (places_in p (suc i) ls) m) [ inl a ↦ kept (at i ∷ p) l s.0 z a | inr b ↦ kept_in p (suc i) ls s.1 z b ]

-- Where a machine stands it is so.

some_case : (us : Values Path) (P : Values Path → Type 0) (Q : Type 0) → ((us : Values Path) → P us → Q) → WhereValues us P ⊥ → Q
some_case no_values P Q f h = absurd h
some_case (value v us) P Q f h = f (value v us) h

else_case : (us : Values Path) (P Q : Type 0) → (P → Q) → WhereValues us (λ z. ⊥) P → Q
else_case no_values P Q f h = f h
else_case (value v us) P Q f h = absurd h

module _ (app : App) (σ τ : Store) (look : Id → Option Thing) where
  block_case : (o : Option Block) (P : Block → Type 0) (ls : Lives) → ((c : Block) → P c → RowsIn look ls) → WhereBlock o P (ls ≡ no_lives) → RowsIn look ls
  block_case None P ls f h = subst (RowsIn look) (sym h) tt
  block_case (Some c) P ls f h = f c h

  mutual
    there : (m b : ℕ) (s : Scope) (ms : MScope) (p : Path) (x : t.Stmt) (l : Live) → Stands app σ τ look m b s ms p x l → RowsThere look l
    there m b s ms p (t.text_stmt z) (still n) h = tt
    there m b s ms p (t.comment_stmt z) (still n) h = tt
    there m b s ms p (t.put e) (put_live n z) h = tt
    there m b s ms p (t.element tag ps c) (element_live n made xs zs ls) h = there_in m b s ms p 0 c ls h.3
    there m b s ms p (t.if_stmt e u c d) (branch_live z true k ls) h = there_in m b s ms (main ∷ p) 0 c ls h.3
    there m b s ms p (t.if_stmt e u c d) (branch_live z false k ls) h = there_in m b s ms (otherwise ∷ p) 0 d ls h.3
    there m b s ms p (t.each e key ns c d) (listed z is) h = some_case _ (ListStands app σ τ look m b s ms p key ns c is) _ (λ us g. there_items m b s ms (items ∷ p) ns c _ is g) h.1
    there m b s ms p (t.each e key ns c d) (unlisted z k ls) h = else_case _ (ElseStands app σ τ look m b s ms p d k ls) _ (λ g. there_in m b s ms (otherwise ∷ p) 0 d ls g.1) h.1
    there m b s ms p (t.let_stmt es ns c) (let_live made rs ls) h = there_in m _ _ _ (main ∷ p) 0 c ls h.3
    there (suc m) b s ms p (t.component_stmt c ps given bs) (component_live i made gm args (Some k) ls) h = (h.1.1, there_in m _ _ _ (into c ∷ p) 0 (class_at app (into c ∷ p)).template ls h.7)
    there zero b s ms p (t.component_stmt c ps given bs) (deep_live q) h = tt
    there m b s ms p (t.yield es n) (yield_live k made rs ls) h =
        block_case (block_named n (mslots (passed_in ms))) (BlockStands app σ τ look m b s ms p es n made rs ls) ls (λ c g. there_in m _ _ _ (slot n ∷ p) 0 c.body ls g.3) h.1
    there m b s ms p _ _ h = absurd h

    there_in : (m b : ℕ) (s : Scope) (ms : MScope) (p : Path) (i : ℕ) (c : t.Body) (ls : Lives) → StandIn app σ τ look m b s ms p i c ls → RowsIn look ls
    there_in m b s ms p i t.end no_lives h = tt
    there_in m b s ms p i (t.stmt x c) (live_and l ls) h = (there m b s ms (at i ∷ p) x l h.0, there_in m b s ms p (suc i) c ls h.1)
    there_in m b s ms p i _ _ h = absurd h

    there_items : (m b : ℕ) (s : Scope) (ms : MScope) (p : Path) (ns : List Text) (c : t.Body) (xs : List Entry) (is : Items) → ItemsStand app σ τ look m b s ms p ns c xs is → RowsItems look is
    there_items m b s ms p ns c [] no_items h = tt
    there_items m b s ms p ns c (x ∷ xs) (item_live z k ls is) h = (there_in m _ _ _ (item x.key x.occurrence ∷ p) 0 c ls h.4, there_items m b s ms p ns c xs is h.5)
    there_items m b s ms p ns c _ _ h = absurd h

  root_there : (m : ℕ) (l : Live) → RootStands app σ τ look m l → RowsThere look l
  root_there (suc m) (component_live i made gm args None ls) h = (h.0.1, there_in m _ _ _ [] 0 (class_at app []).template ls h.5)
  root_there zero (deep_live q) h = tt
  root_there _ _ h = absurd h

-- With other names an instance is kept alike.
instance_of : Inst → Option Thing → Inst
instance_of j (Some (instance_row i)) = i
instance_of j _ = j

abbrev is_instance : Option Thing → Bool
is_instance (Some (instance_row i)) = true
is_instance _ = false

other_thing : {A : Type 0} (o : Option Thing) (j : Inst) → is_instance o ≡ false → o ≡ Some (instance_row j) → A
other_thing o j e f = absurd (true≢false (sym (ap is_instance f) ∙ e))

same_instance : (f : Path → Path) (g : Source → Source) (o : Option Thing) (j : Inst) → there_with f g o ≡ Some (instance_row j) → o ≡ Some (instance_row j)
same_instance f g None j e = other_thing None j refl e
same_instance f g (Some (instance_row i)) j e = e
same_instance f g (Some (content c)) j e = other_thing (Some (content c)) j refl e
same_instance f g (Some block_row) j e = other_thing (Some block_row) j refl e
same_instance f g (Some (modifier_row x)) j e = other_thing (there_with f g (Some (modifier_row x))) j refl e
same_instance f g (Some (row x)) j e = other_thing (there_with f g (Some (row x))) j refl e

-- What is tied in a tree is an instance's.
mutual
  tied_back : (p : Path) (l : Live) (y : ℕ × Path) → Among y (ties own_tie no_tie p l) → (z : Path × Inst) × Among z (insts (places p l)) × (y ≡ (z.1.id, z.1.path))
  tied_back p (still n) y m = absurd m
  tied_back p (put_live n x) y m = absurd m
  tied_back p (element_live n made xs zs ls) y m =
      let w = tied_back_in p 0 ls y m in
      (w.0, left_of w.0 (attr_places p xs) (places_in p 0 ls ++ mod_places p 0 zs) (right_of w.0 (places_in p 0 ls) (mod_places p 0 zs) w.1), w.2)
  tied_back p (branch_live x true k ls) y m = let w = tied_back_in (main ∷ p) 0 ls y m in (w.0, right_of w.0 (places_in (main ∷ p) 0 ls) (comment_places (main ∷ p) k) w.1, w.2)
  tied_back p (branch_live x false k ls) y m = let w = tied_back_in (otherwise ∷ p) 0 ls y m in (w.0, right_of w.0 (places_in (otherwise ∷ p) 0 ls) (comment_places (otherwise ∷ p) k) w.1, w.2)
  tied_back p (listed x is) y m = tied_back_items (items ∷ p) is y m
  tied_back p (unlisted x k ls) y m = let w = tied_back_in (otherwise ∷ p) 0 ls y m in (w.0, right_of w.0 (places_in (otherwise ∷ p) 0 ls) (comment_places (otherwise ∷ p) k) w.1, w.2)
  tied_back p (let_live made rs ls) y m = tied_back_in (main ∷ p) 0 ls y m
  tied_back p (component_live i made gm args k ls) y m = elim m [ inl e ↦ ((i.path, i), inl refl, e) | inr w ↦ let v = tied_back_in i.path 0 ls y w in (v.0, inr v.1, v.2) ]
  tied_back p (yield_live n made rs ls) y m = tied_back_in (slot n ∷ p) 0 ls y m
  tied_back p (deep_live q) y m = absurd m

  tied_back_items : (p : Path) (is : Items) (y : ℕ × Path) → Among y (ties_items own_tie no_tie p is) → (z : Path × Inst) × Among z (insts (places_items p is)) × (y ≡ (z.1.id, z.1.path))
  tied_back_items p no_items y m = absurd m
  tied_back_items p (item_live x k ls is) y m =
      let q = item x.key x.occurrence ∷ p in
      elim (among_either y (ties_in own_tie no_tie q 0 ls) (ties_items own_tie no_tie p is) m) [
        | inl a ↦ let w = tied_back_in q 0 ls y a in (w.0, right_of w.0 (places_in q 0 ls ++ comment_places q k) (places_items p is) (right_of w.0 (places_in q 0 ls) (comment_places q k) w.1), w.2)
        | inr b ↦ let w = tied_back_items p is y b in (w.0, left_of w.0 (places_in q 0 ls ++ comment_places q k) (places_items p is) w.1, w.2)
      ]

  tied_back_in : (p : Path) (i : ℕ) (ls : Lives) (y : ℕ × Path) → Among y (ties_in own_tie no_tie p i ls) → (z : Path × Inst) × Among z (insts (places_in p i ls)) × (y ≡ (z.1.id, z.1.path))
  tied_back_in p i no_lives y m = absurd m
  tied_back_in p i (live_and l ls) y m = elim (among_either y (ties own_tie no_tie (at i ∷ p) l) (ties_in own_tie no_tie p (suc i) ls) m) [
    | inl a ↦ let w = tied_back (at i ∷ p) l y a in (w.0, right_of w.0 (places (at i ∷ p) l) (places_in p (suc i) ls) w.1, w.2)
    | inr b ↦ let w = tied_back_in p (suc i) ls y b in (w.0, left_of w.0 (places (at i ∷ p) l) (places_in p (suc i) ls) w.1, w.2)
  ]

among_number : (o : ℕ) (xs : List (ℕ × Path)) → Among o (numbers xs) → (p : Path) × Among (o, p) xs
among_number o [] m = absurd m
among_number o (x ∷ xs) (inl e) = (x.1, inl (ap (λ k. (k, x.1)) e))
among_number o (x ∷ xs) (inr m) = let w = among_number o xs m in (w.0, inr w.1)

-- An instance of a tree that follows a session
module _ (app : App) (s : session.State) (st : State) (l : Live) (f : FollowsBy app s st l) where
  abbrev no_source : Source → Bool
  no_source x = false

  abbrev st1 : State
  st1 = state_with f.named.owner f.named.source no_source st

  stands : StandsFor app s.store s.store st1 l
  stands = f.named.stands no_source

  abbrev is : List (Path × Inst)
  is = insts (places [] l)

  agree : map (λ (z : Path × Inst). z.0) is ≡ instances (draw app s.store)
  agree = (tree_agrees app s.store s.store st1 l stands).0.instances

  owner_named : (z : Path × Inst) → Among z is → f.named.owner (owner_key z.1.id) ≡ z.1.path
  owner_named z m = takes_at owner_key f.named.owner (owners_in l) f.named.owners (z.1.id, z.1.path) ((tied app own_tie no_tie [] l f.given.sits z m).1 (z.1.id, z.1.path) (inl refl))

  found : (z : Path × Inst) → Among z is → at_path z.1.path is ≡ Some z.1
  found z m =
      at_found z.1.path z.1 is (subst NoRepeat (sym agree) (instances_once app s.store))
      (subst (λ (w : Path × Inst). Among w is) (ap (λ q. (q, z.1)) (rows_of app s.store s.store st1 l stands z m).0) m)

  -- it is its owner by its number
  is_owner : (z : Path × Inst) (o : ℕ) (p : Path) → Among z is → z.1.id ≡ o → z.1.path ≡ p → OwnerIs app st l o p
  is_owner z o p m id path = record {
    inst = z.1;
    id = id;
    path = path;
    kept = subst (λ k. st.look (instance_id k) ≡ Some (instance_row z.1)) id
        (same_instance f.named.owner f.named.source (st.look (instance_id z.1.id)) z.1 (kept st1.look [] l (root_there app s.store s.store st1.look app.limit l stands.stands) z m));
    sets = λ h here field.
        let there : at_path h.instance is ≡ Some z.1 = ap (λ q. at_path q is) (here ∙ sym path) ∙ found z m in
        let its : member_of (class_at app h.instance) h.field ≡ field_member = ap (λ q. member_of (class_at app q) h.field) here ∙ field in
        (record { inst = z.1; at = there; field = its }, λ now. ap₂ (λ o k. set_at_by o k h now) there its);
  }

  by_path : (o : ℕ) (p : Path) → f.named.owner (owner_key o) ≡ p → Among p (instances s.rendering) → OwnerIs app st l o p
  by_path o p e m =
      let shown : draw app s.store ≡ s.rendering = sym (standing_shows app s.store st1 l stands) ∙ f.rendering in
      let y = mapped_from (λ (z : Path × Inst). z.0) p is (subst (Among p) {x = instances s.rendering} (sym (agree ∙ ap instances shown)) m) in
      let path : y.0.1.path ≡ p = sym (y.2 ∙ (rows_of app s.store s.store st1 l stands y.0 y.1).0) in
      is_owner y.0 o p y.1 (owner_once y.0.1.id o (f.named.once (owner_key y.0.1.id) (owner_key o) (owner_named y.0 y.1 ∙ (path ∙ sym e)))) path

  by_id : (o : ℕ) → Among o (numbers (owners_in l)) → OwnerIs app st l o (f.named.owner (owner_key o))
  by_id o m =
      let y = among_number o (owners_in l) m in
      let w = tied_back [] l (o, y.0) y.1 in
      let id : w.0.1.id ≡ o = sym (ap (λ (v : ℕ × Path). v.0) w.2) in
      is_owner w.0 o (f.named.owner (owner_key o)) w.1 id (sym (owner_named w.0 w.1) ∙ ap (λ k. f.named.owner (owner_key k)) id)

  puts : (xs : List Put) → AreOwn app f.named.owner l xs → (now : State) → ((o : ℕ) → now.look (instance_id o) ≡ st.look (instance_id o))
      → let sets = map (held_of f.named.owner) xs in AreThere app l sets × (set_all_by app l sets now ≡ put_all xs now)
  puts [] w now same = (tt, refl)
  puts (x ∷ xs) w now same =
      let h = held_of f.named.owner x in
      let o = by_id x.owner w.0 in
      let y = o.sets h refl w.1 in
      let next = touch (cell_ref o.inst x.field) (number (cell_ref o.inst x.field)) x.value now in
      let put : put_at (now.look (instance_id x.owner)) x now ≡ next = ap (λ k. put_at k x now) (same x.owner ∙ o.kept) in
      let r = puts xs w.2 next same in
      ((y.0, r.0), ap (set_all_by app l (map (held_of f.named.owner) xs)) (y.1 now) ∙ (r.1 ∙ ap (put_all xs) (sym put)))

pub owner_by : OwnerBy
owner_by app s st l f o p e m = by_path app s st l f o p e m

pub number_by : NumberBy
number_by app s st l f o m = by_id app s st l f o m

pub puts_by : PutsBy
puts_by app s st l f xs w = puts app s st l f xs w (begin st) (λ o. refl)
