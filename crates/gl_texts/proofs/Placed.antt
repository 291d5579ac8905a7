-- Each node, instance and modifier that has a row is among the places, and each row of a tree that stands is kept.
use Rattle.std.proofs.Common.{◌≡◌, ℕ, zero, suc, List, [], ◌∷◌, ◌++◌, true, false, Option, Some, None, refl, sym, ap, subst, inl, inr}
use Rattle.std.specs.Prelude.{is_some}
use Rattle.gl_base.specs.Texts.{Text}
use Rattle.gl_value.specs.Value.{Values, no_values, value}
use Rattle.gl_ast.specs.Template as t
use Rattle.gl_meaning.specs.App.{App}
use Rattle.gl_meaning.specs.Path.{at, main, otherwise, items, item, into, slot, Path}
use Rattle.gl_meaning.specs.Scope.{Scope}
use Rattle.gl_meaning.specs.Eval.{Store}
use Rattle.gl_meaning.specs.Known.{Among}
use Rattle.gl_meaning.specs.Parts.{WrittenModifier, WrittenValue}
use Rattle.gl_meaning.specs.Render.{Entry, Block, block_named}
use Rattle.gl_meaning.proofs.Pieces.{among_left, among_right}
use Rattle.gl_plain.specs.Ids.{Id, ref, node, instance_id, modifier_id}
use Rattle.gl_plain.specs.State.{Inst, MScope, mscope, mnothing, mpassed, passed_in, mslots, mwriter, named_as, with_names, Thing}
use Rattle.gl_plain.specs.Live
use Rattle.gl_plain.specs.Live.{Live, Lives, Items, AttrSpot, ModSpot, ItemSpot, item_names}
use Rattle.gl_plain.specs.Stands.{WhereValues, WhereBlock, CommentStands, AttrsStand, ModsStand, Stands, StandIn, ItemsStand, BlockStands, ListStands, ElseStands, attrs_by, mods_by, tail_of}
use Rattle.gl_plain.specs.Machine.{RootStands}
use Rattle.gl_machine.specs.Rows.{Role, a_node, a_position, an_instance, a_modifier, a_value, an_index, Row, row_of, comment_rows, attr_rows, mod_spot_rows, mod_rows, tag_rows, rows, rows_items, rows_in}
use Rattle.gl_turns.specs.Places.{Place, node_place, position_place, item_place, instance_place, modifier_place, comment_places, attr_places, mod_places, places, places_items, places_in}

-- Rows and places

-- a row of a node, an instance or a modifier is one of the places; others don't matter
abbrev pub PlacedAt : Role → Path → Id → List Place → Type 0
PlacedAt a_node p q ys = (n : ℕ) × (q ≡ node n) × Among (node_place p n) ys
PlacedAt an_instance p q ys = (i : Inst) × (q ≡ instance_id i.id) × Among (instance_place p i) ys
PlacedAt a_modifier p q ys = (m : ℕ) × (q ≡ modifier_id m) × Among (modifier_place p m) ys
PlacedAt _ p q ys = Unit {0}

abbrev pub AllPlaced : List Row → List Place → Type 0
AllPlaced [] ys = Unit {0}
AllPlaced (x ∷ xs) ys = PlacedAt x.role x.path x.id ys × AllPlaced xs ys

more_one : (r : Role) (p : Path) (q : Id) (ys zs : List Place) → ((a : Place) → Among a ys → Among a zs) → PlacedAt r p q ys → PlacedAt r p q zs
more_one a_node p q ys zs f h = (h.0, h.1, f (node_place p h.0) h.2)
more_one an_instance p q ys zs f h = (h.0, h.1, f (instance_place p h.0) h.2)
more_one a_modifier p q ys zs f h = (h.0, h.1, f (modifier_place p h.0) h.2)
more_one a_position p q ys zs f h = tt
more_one a_value p q ys zs f h = tt
more_one an_index p q ys zs f h = tt

more_placed : (xs : List Row) (ys zs : List Place) → ((a : Place) → Among a ys → Among a zs) → AllPlaced xs ys → AllPlaced xs zs
more_placed [] ys zs f h = tt
more_placed (x ∷ xs) ys zs f h = (more_one x.role x.path x.id ys zs f h.0, more_placed xs ys zs f h.1)

placed_join : (xs xs' : List Row) (ys : List Place) → AllPlaced xs ys → AllPlaced xs' ys → AllPlaced (xs ++ xs') ys
placed_join [] xs' ys h k = k
placed_join (x ∷ xs) xs' ys h k = (h.0, placed_join xs xs' ys h.1 k)

placed_both : (xs xs' : List Row) (ys ys' : List Place) → AllPlaced xs ys → AllPlaced xs' ys' → AllPlaced (xs ++ xs') (ys ++ ys')
placed_both xs xs' ys ys' h k = placed_join xs xs' (ys ++ ys') (more_placed xs ys (ys ++ ys') (λ a m. among_left a ys ys' m) h) (more_placed xs' ys' (ys ++ ys') (λ a m. among_right a ys ys' m) k)

behind : (y : Place) (xs : List Row) (ys : List Place) → AllPlaced xs ys → AllPlaced xs (y ∷ ys)
behind y xs ys h = more_placed xs ys (y ∷ ys) (λ a m. inr m) h

comment_placed : (p : Path) (k : Option ℕ) → AllPlaced (comment_rows p k) (comment_places p k)
comment_placed p None = tt
comment_placed p (Some n) = ((n, refl, inl refl), tt)

arm_placed : (q : Path) (k : Option ℕ) (ls : Lives) → AllPlaced (rows_in q 0 ls) (places_in q 0 ls) → AllPlaced (rows_in q 0 ls ++ comment_rows q k) (places_in q 0 ls ++ comment_places q k)
arm_placed q k ls h = placed_both (rows_in q 0 ls) (comment_rows q k) (places_in q 0 ls) (comment_places q k) h (comment_placed q k)

attrs_placed : (p : Path) (xs : List AttrSpot) (ys : List Place) → AllPlaced (attr_rows p xs) ys
attrs_placed p [] ys = tt
attrs_placed p (a ∷ xs) ys = (tt, attrs_placed p xs ys)

spots_placed : (p : Path) (i : ℕ) (zs : List ModSpot) (ys : List Place) → AllPlaced (mod_spot_rows p i zs) ys
spots_placed p i [] ys = tt
spots_placed p i (z ∷ zs) ys = (tt, spots_placed p (suc i) zs ys)

mods_placed : (p : Path) (i : ℕ) (zs : List ModSpot) → AllPlaced (mod_rows p i zs) (mod_places p i zs)
mods_placed p i [] = tt
mods_placed p i (z ∷ zs) = ((z.id, refl, inr (inl refl)), more_placed (mod_rows p (suc i) zs) (mod_places p (suc i) zs) (mod_places p i (z ∷ zs)) (λ a m. inr (inr m)) (mods_placed p (suc i) zs))

element_placed : (p : Path) (n : ℕ) (xs : List AttrSpot) (zs : List ModSpot) (rs : List Row) (ys : List Place) → AllPlaced rs ys → AllPlaced (tag_rows p n xs zs ++ rs) (node_place p n ∷ (attr_places p xs ++ (ys ++ mod_places p 0 zs)))
element_placed p n xs zs rs ys h =
    let us = attr_places p xs in
    let ms = mod_places p 0 zs in
    let all = node_place p n ∷ (us ++ (ys ++ ms)) in
    let last : List Row = row_of a_node p (node n) ∷ [] in
    placed_join (tag_rows p n xs zs) rs all
    (placed_join (attr_rows p xs) (mod_spot_rows p 0 zs ++ (mod_rows p 0 zs ++ last)) all (attrs_placed p xs all)
    (placed_join (mod_spot_rows p 0 zs) (mod_rows p 0 zs ++ last) all (spots_placed p 0 zs all)
    (placed_join (mod_rows p 0 zs) last all (more_placed (mod_rows p 0 zs) ms all (λ a m. inr (among_right a us (ys ++ ms) (among_right a ys ms m))) (mods_placed p 0 zs)) ((n, refl, inl refl), tt))))
    (more_placed rs ys all (λ a m. inr (among_right a us (ys ++ ms) (among_left a ys ms m))) h)

mutual
  pub rows_placed : (p : Path) (l : Live) → AllPlaced (rows p l) (places p l)
  rows_placed p (Live.still n) = ((n, refl, inl refl), tt)
  rows_placed p (Live.put_live n z) = (tt, ((n, refl, inr (inl refl)), tt))
  rows_placed p (Live.element_live n made xs zs ls) = element_placed p n xs zs (rows_in p 0 ls) (places_in p 0 ls) (in_placed p 0 ls)
  rows_placed p (Live.branch_live z true k ls) = (tt, behind (position_place p z.ref) (rows_in (main ∷ p) 0 ls ++ comment_rows (main ∷ p) k) (places_in (main ∷ p) 0 ls ++ comment_places (main ∷ p) k) (arm_placed (main ∷ p) k ls (in_placed (main ∷ p) 0 ls)))
  rows_placed p (Live.branch_live z false k ls) =
      (tt, behind (position_place p z.ref) (rows_in (otherwise ∷ p) 0 ls ++ comment_rows (otherwise ∷ p) k) (places_in (otherwise ∷ p) 0 ls ++ comment_places (otherwise ∷ p) k) (arm_placed (otherwise ∷ p) k ls (in_placed (otherwise ∷ p) 0 ls)))
  rows_placed p (Live.listed z is) = (tt, behind (position_place p z.ref) (rows_items (items ∷ p) is) (places_items (items ∷ p) is) (items_placed (items ∷ p) is))
  rows_placed p (Live.unlisted z k ls) =
      (tt, behind (position_place p z.ref) (rows_in (otherwise ∷ p) 0 ls ++ comment_rows (otherwise ∷ p) k) (places_in (otherwise ∷ p) 0 ls ++ comment_places (otherwise ∷ p) k) (arm_placed (otherwise ∷ p) k ls (in_placed (otherwise ∷ p) 0 ls)))
  rows_placed p (Live.let_live made rs ls) = in_placed (main ∷ p) 0 ls
  rows_placed p (Live.component_live i made gm args k ls) = ((i, refl, inl refl), behind (instance_place i.path i) (rows_in i.path 0 ls) (places_in i.path 0 ls) (in_placed i.path 0 ls))
  rows_placed p (Live.yield_live n made rs ls) = in_placed (slot n ∷ p) 0 ls
  rows_placed p (Live.deep_live q) = tt

  items_placed : (p : Path) (is : Items) → AllPlaced (rows_items p is) (places_items p is)
  items_placed p Live.no_items = tt
  items_placed p (Live.item_live z k ls is) =
      let q = item z.key z.occurrence ∷ p in
      let xs = rows_in q 0 ls ++ comment_rows q k in
      let ys = places_in q 0 ls ++ comment_places q k in
      (tt, (tt, behind (item_place q z) (xs ++ rows_items p is) (ys ++ places_items p is) (placed_both xs (rows_items p is) ys (places_items p is) (arm_placed q k ls (in_placed q 0 ls)) (items_placed p is))))

  in_placed : (p : Path) (i : ℕ) (ls : Lives) → AllPlaced (rows_in p i ls) (places_in p i ls)
  in_placed p i Live.no_lives = tt
  in_placed p i (Live.live_and l ls) = placed_both (rows (at i ∷ p) l) (rows_in p (suc i) ls) (places (at i ∷ p) l) (places_in p (suc i) ls) (rows_placed (at i ∷ p) l) (in_placed p (suc i) ls)

pub is_placed : (x : Row) (xs : List Row) (ys : List Place) → AllPlaced xs ys → Among x xs → PlacedAt x.role x.path x.id ys
is_placed x [] ys h m = absurd m
is_placed x (y ∷ xs) ys h (inl e) = subst (λ (z : Row). PlacedAt z.role z.path z.id ys) (sym e) h.0
is_placed x (y ∷ xs) ys h (inr m) = is_placed x xs ys h.1 m

-- What stands is kept

some_kept : (o : Option Thing) (x : Thing) → o ≡ Some x → is_some o ≡ true
some_kept o x e = ap is_some e

module _ (app : App) (σ τ : Store) (look : Id → Option Thing) where
  abbrev AllKept : List Row → Type 0
  AllKept [] = Unit {0}
  AllKept (x ∷ xs) = (is_some (look x.id) ≡ true) × AllKept xs

  kept_join : (xs ys : List Row) → AllKept xs → AllKept ys → AllKept (xs ++ ys)
  kept_join [] ys h k = k
  kept_join (x ∷ xs) ys h k = (h.0, kept_join xs ys h.1 k)

  kept_among : (x : Row) (xs : List Row) → AllKept xs → Among x xs → is_some (look x.id) ≡ true
  kept_among x [] h m = absurd m
  kept_among x (y ∷ xs) h (inl e) = subst (λ (z : Row). is_some (look z.id) ≡ true) (sym e) h.0
  kept_among x (y ∷ xs) h (inr m) = kept_among x xs h.1 m

  comment_kept : (q : Path) (k : Option ℕ) (ls : Lives) → CommentStands app σ τ look k ls → AllKept (comment_rows q k)
  comment_kept q None ls h = tt
  comment_kept q (Some n) ls h = (some_kept (look (node n)) _ h.1, tt)

  arm_kept : (q : Path) (k : Option ℕ) (ls : Lives) → CommentStands app σ τ look k ls → AllKept (rows_in q 0 ls) → AllKept (rows_in q 0 ls ++ comment_rows q k)
  arm_kept q k ls c h = kept_join (rows_in q 0 ls) (comment_rows q k) h (comment_kept q k ls c)

  attrs_kept : (p : Path) (made : List Id) (s : Scope) (ms : MScope) (ws : Scope → List (WrittenValue Scope)) (ns : List Text) (xs : List AttrSpot) → AttrsStand app σ τ look made s ms ws ns xs → AllKept (attr_rows p xs)
  attrs_kept p made s ms ws [] [] h = tt
  attrs_kept p made s ms ws (n ∷ ns) (a ∷ xs) h = (some_kept (look (ref a.spot.ref)) _ h.1.is.0, attrs_kept p made s ms ws ns xs h.2)
  attrs_kept p made s ms ws _ _ h = absurd h

  spots_kept : (p : Path) (made : List Id) (n : ℕ) (s : Scope) (ms : MScope) (ws : Scope → List (WrittenModifier Scope)) (i : ℕ) (ds : List (WrittenModifier Scope)) (zs : List ModSpot) → ModsStand app σ τ look made n s ms ws i ds zs
      → AllKept (mod_spot_rows p i zs)
  spots_kept p made n s ms ws i [] [] h = tt
  spots_kept p made n s ms ws i (d ∷ ds) (z ∷ zs) h = (some_kept (look (ref z.spot.ref)) _ h.3.is.0, spots_kept p made n s ms (λ s'. tail_of (ws s')) (suc i) ds zs h.4)
  spots_kept p made n s ms ws i _ _ h = absurd h

  mods_kept : (p : Path) (made : List Id) (n : ℕ) (s : Scope) (ms : MScope) (ws : Scope → List (WrittenModifier Scope)) (i : ℕ) (ds : List (WrittenModifier Scope)) (zs : List ModSpot) → ModsStand app σ τ look made n s ms ws i ds zs
      → AllKept (mod_rows p i zs)
  mods_kept p made n s ms ws i [] [] h = tt
  mods_kept p made n s ms ws i (d ∷ ds) (z ∷ zs) h = (some_kept (look (modifier_id z.id)) _ h.0, mods_kept p made n s ms (λ s'. tail_of (ws s')) (suc i) ds zs h.4)
  mods_kept p made n s ms ws i _ _ h = absurd h

  list_kept : (us : Values Path) (P : Values Path → Type 0) (Q : Type 0) → ((us : Values Path) → P us → Q) → WhereValues us P ⊥ → Q
  list_kept no_values P Q f h = absurd h
  list_kept (value v us) P Q f h = f (value v us) h

  else_kept : (us : Values Path) (P Q : Type 0) → (P → Q) → WhereValues us (λ z. ⊥) P → Q
  else_kept no_values P Q f h = f h
  else_kept (value v us) P Q f h = absurd h

  block_kept : (o : Option Block) (P : Block → Type 0) (q : Path) (ls : Lives) → ((c : Block) → P c → AllKept (rows_in q 0 ls)) → WhereBlock o P (ls ≡ Live.no_lives) → AllKept (rows_in q 0 ls)
  block_kept None P q ls f h = subst (λ ks. AllKept (rows_in q 0 ks)) (sym h) tt
  block_kept (Some c) P q ls f h = f c h

  mutual
    stmt_kept : (m b : ℕ) (s : Scope) (ms : MScope) (p : Path) (x : t.Stmt) (l : Live) → Stands app σ τ look m b s ms p x l → (q : Path) → AllKept (rows q l)
    stmt_kept m b s ms p (t.text_stmt z) (Live.still n) h q = (some_kept (look (node n)) _ h, tt)
    stmt_kept m b s ms p (t.comment_stmt z) (Live.still n) h q = (some_kept (look (node n)) _ h, tt)
    stmt_kept m b s ms p (t.put e) (Live.put_live n z) h q = (some_kept (look (ref z.ref)) _ h.1.is.0, (some_kept (look (node n)) _ h.0, tt))
    stmt_kept m b s ms p (t.element tag ps c) (Live.element_live n made xs zs ls) h q =
        let last : List Row = row_of a_node q (node n) ∷ [] in
        kept_join (tag_rows q n xs zs) (rows_in q 0 ls)
        (kept_join (attr_rows q xs) (mod_spot_rows q 0 zs ++ (mod_rows q 0 zs ++ last)) (attrs_kept q made s ms (attrs_by ps) _ xs h.1)
        (kept_join (mod_spot_rows q 0 zs) (mod_rows q 0 zs ++ last) (spots_kept q made n s ms (mods_by ps) 0 (mods_by ps s) zs h.2)
        (kept_join (mod_rows q 0 zs) last (mods_kept q made n s ms (mods_by ps) 0 (mods_by ps s) zs h.2) (some_kept (look (node n)) _ h.0, tt))))
        (body_kept m b s ms p 0 c ls h.3 q 0)
    stmt_kept m b s ms p (t.if_stmt e u c d) (Live.branch_live z true k ls) h q = (some_kept (look (ref z.ref)) _ h.0.is.0, arm_kept (main ∷ q) k ls h.2 (body_kept m b s ms (main ∷ p) 0 c ls h.3 (main ∷ q) 0))
    stmt_kept m b s ms p (t.if_stmt e u c d) (Live.branch_live z false k ls) h q = (some_kept (look (ref z.ref)) _ h.0.is.0, arm_kept (otherwise ∷ q) k ls h.2 (body_kept m b s ms (otherwise ∷ p) 0 d ls h.3 (otherwise ∷ q) 0))
    stmt_kept m b s ms p (t.each e key ns c d) (Live.listed z is) h q = (
      some_kept (look (ref z.ref)) _ h.0.is.0,
      list_kept _ (ListStands app σ τ look m b s ms p key ns c is) (AllKept (rows_items (items ∷ q) is)) (λ us g. items_kept m b s ms (items ∷ p) ns c _ is g (items ∷ q)) h.1,
    )
    stmt_kept m b s ms p (t.each e key ns c d) (Live.unlisted z k ls) h q = (
      some_kept (look (ref z.ref)) _ h.0.is.0,
      else_kept _ (ElseStands app σ τ look m b s ms p d k ls) (AllKept (rows_in (otherwise ∷ q) 0 ls ++ comment_rows (otherwise ∷ q) k)) (λ g. arm_kept (otherwise ∷ q) k ls g.0 (body_kept m b s ms (otherwise ∷ p) 0 d ls g.1 (otherwise ∷ q) 0)) h.1,
    )
    stmt_kept m b s ms p (t.let_stmt es ns c) (Live.let_live made rs ls) h q = body_kept m _ _ (with_names (named_as ns rs) ms) (main ∷ p) 0 c ls h.3 (main ∷ q) 0
    stmt_kept (suc m) b s ms p (t.component_stmt c ps given bs) (Live.component_live i made gm args (Some k) ls) h q = (some_kept (look (instance_id i.id)) _ h.1.1, body_kept m _ _ (mscope i args [] (mpassed k ps bs ms)) (into c ∷ p) 0 _ ls h.7 i.path 0)
    stmt_kept zero b s ms p (t.component_stmt c ps given bs) (Live.deep_live r) h q = tt
    stmt_kept m b s ms p (t.yield es n) (Live.yield_live k made rs ls) h q =
        block_kept (block_named n (mslots (passed_in ms))) (BlockStands app σ τ look m b s ms p es n made rs ls) (slot k ∷ q) ls
        (λ c g. body_kept m _ _ (with_names (named_as c.params rs) (mwriter (passed_in ms))) (slot n ∷ p) 0 c.body ls g.3 (slot k ∷ q) 0) h.1
    stmt_kept m b s ms p _ _ h q = absurd h

    body_kept : (m b : ℕ) (s : Scope) (ms : MScope) (p : Path) (i : ℕ) (c : t.Body) (ls : Lives) → StandIn app σ τ look m b s ms p i c ls → (q : Path) (j : ℕ) → AllKept (rows_in q j ls)
    body_kept m b s ms p i t.end Live.no_lives h q j = tt
    body_kept m b s ms p i (t.stmt x c) (Live.live_and l ls) h q j = kept_join (rows (at j ∷ q) l) (rows_in q (suc j) ls) (stmt_kept m b s ms (at i ∷ p) x l h.0 (at j ∷ q)) (body_kept m b s ms p (suc i) c ls h.1 q (suc j))
    body_kept m b s ms p i _ _ h q j = absurd h

    items_kept : (m b : ℕ) (s : Scope) (ms : MScope) (p : Path) (ns : List Text) (c : t.Body) (xs : List Entry) (is : Items) → ItemsStand app σ τ look m b s ms p ns c xs is → (q : Path) → AllKept (rows_items q is)
    items_kept m b s ms p ns c [] Live.no_items h q = tt
    items_kept m b s ms p ns c (x ∷ xs) (Live.item_live z o ls is) h q =
        let j = item z.key z.occurrence ∷ q in (
          some_kept (look (ref z.value)) _ h.0.2,
          (some_kept (look (ref z.index)) _ h.0.3, kept_join (rows_in j 0 ls ++ comment_rows j o) (rows_items q is) (arm_kept j o ls h.3 (body_kept m _ _ (with_names (item_names ns z) ms) (item x.key x.occurrence ∷ p) 0 c ls h.4 j 0)) (items_kept m b s ms p ns c xs is h.5 q)),
        )
    items_kept m b s ms p ns c _ _ h q = absurd h

  pub root_kept : (m : ℕ) (l : Live) → RootStands app σ τ look m l → (x : Row) → Among x (rows [] l) → is_some (look x.id) ≡ true
  root_kept (suc m) (Live.component_live i made gm args None ls) h x a =
      kept_among x (rows [] (Live.component_live i made gm args None ls)) (some_kept (look (instance_id i.id)) _ h.0.1, body_kept m _ _ (mscope i args [] mnothing) [] 0 _ ls h.5 i.path 0) a
  root_kept zero (Live.deep_live q) h x a = absurd a
  root_kept _ _ h x a = absurd h
