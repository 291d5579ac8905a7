-- The nodes and the ids of what stands are those of the rendering, in order.
use Rattle.std.proofs.Common.{◌≡◌, ◌<◌, ◌≤◌, ℕ, zero, suc, List, [], ◌∷◌, ◌++◌, map, true, false, Option, Some, None, refl, sym, ap, ap₂, ◌∙◌, subst, arith, inl, inr}
use Rattle.std.proofs.lemmas.List.{append-nil, append_assoc, map-append}
use Rattle.gl_base.specs.Texts.{Text}
use Rattle.gl_value.specs.Value.{Values, no_values, value}
use Rattle.gl_ast.specs.Template as t
use Rattle.gl_meaning.specs.App.{App}
use Rattle.gl_meaning.specs.Path.{at, main, otherwise, items, item, into, slot, empty, attribute_at, modifier_at, Path, V}
use Rattle.gl_meaning.specs.Scope.{Pair, Scope}
use Rattle.gl_meaning.specs.Eval.{Store, class_at}
use Rattle.gl_meaning.specs.Render.{Piece, element_node, component, branch, item_region, position, Forest, no_pieces, piece, single, join, forest_of, Entry, Block, block_named, draw}
use Rattle.gl_meaning.specs.Known.{Among}
use Rattle.gl_plain.specs.Ids.{Id, ref, node, hit, occurs}
use Rattle.gl_plain.specs.State.{Inst, MScope, mscope, mnothing, mpassed, passed_in, mslots, mwriter, named_as, with_names, text_content, comment_content, element_content, content, Thing, State}
use Rattle.gl_plain.specs.Live
use Rattle.gl_plain.specs.Live.{Live, Lives, Items, AttrSpot, ModSpot, ItemSpot, item_names, times}
use Rattle.gl_plain.specs.Renew.{where_block}
use Rattle.gl_plain.specs.Drawn.{leaf_piece, tag_of, attrs_of, drawn_comment, drawn_attrs, drawn_modifiers, drawn_places, drawn_scope, drawn, drawn_items, drawn_in, drawn_app}
use Rattle.gl_plain.specs.Stands.{WhereValues, WhereBlock, CommentStands, Stands, StandIn, ItemsStand, BlockStands, ListStands, ElseStands}
use Rattle.gl_plain.specs.Machine.{RootStands, StandsFor}
use Rattle.gl_plain.proofs.Moves.{hit_self}
use Rattle.gl_plain.proofs.Roots.{standing_shows}
use Rattle.gl_machine.specs.Shape.{Nest, end, tree, joined, leaf, map_nest, place_comment, placed_nest, placed_items, placed_in, piece_nest, forest_nest}
use Rattle.gl_machine.specs.Rows.{Role, a_node, a_position, an_instance, a_modifier, a_value, an_index, Row, row_of, attr_rows, mod_spot_rows, mod_rows, tag_rows, instance_rows, rows, rows_items, rows_in, row_ids, modifier_places, piece_places, places}
use Rattle.gl_machine.specs.UpdateLaws.{kept_content, drawn_content, place_of, NestIsDrawn, RowsAreDrawn, IdsStandOnce}
use Rattle.gl_machine.proofs.Nests.{map_joined}
use Rattle.gl_machine.proofs.RowsOf.{arm_rows, among_ids, page_ids}
use Rattle.gl_machine.proofs.Sits.{item_step, page_sits}

-- Nests and places of forests

joined_end : {A : Type 0} (f : Nest A) → joined f end ≡ f
joined_end end = refl
joined_end (tree n k r) = ap (tree n k) (joined_end r)

joined_assoc : {A : Type 0} (f g h : Nest A) → joined (joined f g) h ≡ joined f (joined g h)
joined_assoc end g h = refl
joined_assoc (tree n k r) g h = ap (tree n k) (joined_assoc r g h)

nest_join : (f g : Forest) → forest_nest (join f g) ≡ joined (forest_nest f) (forest_nest g)
nest_join no_pieces g = refl
nest_join (piece q f) g = ap (joined (piece_nest q)) (nest_join f g) ∙ sym (joined_assoc (piece_nest q) (forest_nest f) (forest_nest g))

places_join : (f g : Forest) → places (join f g) ≡ places f ++ places g
places_join no_pieces g = refl
places_join (piece q f) g = ap (λ xs. piece_places q ++ xs) (places_join f g) ∙ sym (append_assoc (piece_places q) (places f) (places g))

abbrev over_nest : Path → Option Thing → Nest (Path × Option Thing) → Nest (Path × Option Thing)
over_nest p o k = tree (p, o) k end

module _ (look : Id → Option Thing) where
  -- the nest and the rows are those of a forest
  pub record Is (a : Nest (Path × ℕ)) (xs : List Row) (f : Forest) : Type 0 where
    pub nodes : map_nest (kept_content look) a ≡ map_nest drawn_content (forest_nest f)
    pub all : map place_of xs ≡ places f

  is_join : (a b : Nest (Path × ℕ)) (xs ys : List Row) (f g : Forest) → Is a xs f → Is b ys g → Is (joined a b) (xs ++ ys) (join f g)
  is_join a b xs ys f g h k = record {
    nodes = map_joined (kept_content look) a b ∙ (ap₂ joined h.nodes k.nodes ∙ (sym (map_joined drawn_content (forest_nest f) (forest_nest g)) ∙ ap (map_nest drawn_content) (sym (nest_join f g))));
    all = map-append place_of xs ys ∙ (ap₂ (λ c d. c ++ d) h.all k.all ∙ sym (places_join f g));
  }

  is_branch : (q : Path) (a : Nest (Path × ℕ)) (xs : List Row) (f : Forest) → Is a xs f → Is a xs (single (branch q f))
  is_branch q a xs f h = record { nodes = h.nodes ∙ ap (map_nest drawn_content) (sym (joined_end (forest_nest f))); all = h.all ∙ sym (append-nil (places f)) }

  is_position : (p : Path) (q : Id) (ps : List Pair) (a : Nest (Path × ℕ)) (xs : List Row) (f : Forest) → Is a xs f → Is a (row_of a_position p q ∷ xs) (piece (position p ps) f)
  is_position p q ps a xs f h = record { nodes = h.nodes; all = ap (λ ys. (a_position, p) ∷ ys) h.all }

  is_text : (p : Path) (n : ℕ) (s : Text) → look (node n) ≡ Some (content (text_content s)) → Is (leaf (p, n)) (row_of a_node p (node n) ∷ []) (single (leaf_piece p (look (node n))))
  is_text p n s h = record {
    nodes = subst (λ o. leaf {A = Path × Option Thing} (p, o) ≡ map_nest drawn_content (forest_nest (single (leaf_piece p o)))) (sym h) refl;
    all = subst (λ o. ◌≡◌ {A = List (Role × Path)} ((a_node, p) ∷ []) (places (single (leaf_piece p o)))) (sym h) refl;
  }

  is_comment : (p : Path) (n : ℕ) (s : Text) → look (node n) ≡ Some (content (comment_content s)) → Is (leaf (p, n)) (row_of a_node p (node n) ∷ []) (single (leaf_piece p (look (node n))))
  is_comment p n s h = record {
    nodes = subst (λ o. leaf {A = Path × Option Thing} (p, o) ≡ map_nest drawn_content (forest_nest (single (leaf_piece p o)))) (sym h) refl;
    all = subst (λ o. ◌≡◌ {A = List (Role × Path)} ((a_node, p) ∷ []) (places (single (leaf_piece p o)))) (sym h) refl;
  }

  -- Tags

  tag_nest : (p : Path) (xs : List AttrSpot) (ys : List Piece) (f : Forest) → forest_nest (join (forest_of (drawn_attrs look p xs ++ ys)) f) ≡ forest_nest (join (forest_of ys) f)
  tag_nest p [] ys f = refl
  tag_nest p (a ∷ xs) ys f = tag_nest p xs ys f

  mods_nest : (p : Path) (i : ℕ) (zs : List ModSpot) (f : Forest) → forest_nest (join (forest_of (drawn_places look p i zs)) f) ≡ forest_nest f
  mods_nest p i [] f = refl
  mods_nest p i (z ∷ zs) f = mods_nest p (suc i) zs f

  tag_places : (p : Path) (xs : List AttrSpot) (ys : List Piece) (f : Forest) → places (join (forest_of (drawn_attrs look p xs ++ ys)) f) ≡ map place_of (attr_rows p xs) ++ places (join (forest_of ys) f)
  tag_places p [] ys f = refl
  tag_places p (a ∷ xs) ys f = ap (λ zs. (a_position, attribute_at a.name ∷ p) ∷ zs) (tag_places p xs ys f)

  mod_places : (p : Path) (i : ℕ) (zs : List ModSpot) (f : Forest) → places (join (forest_of (drawn_places look p i zs)) f) ≡ map place_of (mod_spot_rows p i zs) ++ places f
  mod_places p i [] f = refl
  mod_places p i (z ∷ zs) f = ap (λ ys. (a_position, modifier_at i ∷ p) ∷ ys) (mod_places p (suc i) zs f)

  modifiers_are : (p : Path) (i : ℕ) (zs : List ModSpot) → modifier_places (drawn_modifiers look p i zs) ≡ map place_of (mod_rows p i zs)
  modifiers_are p i [] = refl
  modifiers_are p i (z ∷ zs) = ap (λ ys. (a_modifier, modifier_at i ∷ p) ∷ ys) (modifiers_are p (suc i) zs)

  is_element : (p : Path) (n : ℕ) (tag : Text) (attrs : Rattle.gl_meaning.specs.Parts.Attrs) (xs : List AttrSpot) (zs : List ModSpot) (a : Nest (Path × ℕ)) (ys : List Row) (f : Forest)
      → look (node n) ≡ Some (content (element_content tag attrs)) → Is a ys f
      → Is (tree (p, n) a end) (tag_rows p n xs zs ++ ys)
      (join (forest_of (drawn_attrs look p xs ++ drawn_places look p 0 zs)) (single (element_node p (tag_of (look (node n))) (attrs_of (look (node n))) (drawn_modifiers look p 0 zs) f)))
  is_element p n tag attrs xs zs a ys f e h =
      let q = single (element_node p (tag_of (look (node n))) (attrs_of (look (node n))) (drawn_modifiers look p 0 zs) f) in
      let A = map place_of (attr_rows p xs) in
      let B = map place_of (mod_spot_rows p 0 zs) in
      let C = map place_of (mod_rows p 0 zs) in
      let N : List (Role × Path) = (a_node, p) ∷ [] in
      record {
        nodes =
            subst (λ o. over_nest p o (map_nest (kept_content look) a) ≡ over_nest p (Some (content (element_content (tag_of o) (attrs_of o)))) (map_nest drawn_content (forest_nest f))) (sym e)
            (ap (over_nest p (Some (content (element_content tag attrs)))) h.nodes)
            ∙ ap (map_nest drawn_content) (sym (tag_nest p xs (drawn_places look p 0 zs) q ∙ mods_nest p 0 zs q));
        all =
            map-append place_of (tag_rows p n xs zs) ys
            ∙ (ap₂ (λ c d. c ++ d)
            (map-append place_of (attr_rows p xs) (mod_spot_rows p 0 zs ++ (mod_rows p 0 zs ++ row_of a_node p (node n) ∷ []))
            ∙ ap (λ c. A ++ c) (map-append place_of (mod_spot_rows p 0 zs) (mod_rows p 0 zs ++ row_of a_node p (node n) ∷ []) ∙ ap (λ c. B ++ c) (map-append place_of (mod_rows p 0 zs) (row_of a_node p (node n) ∷ []))))
            h.all
            ∙ (append_assoc A (B ++ (C ++ N)) (places f)
            ∙ (ap (λ c. A ++ c) (append_assoc B (C ++ N) (places f) ∙ ap (λ c. B ++ c) (append_assoc C N (places f)))
            ∙ sym (tag_places p xs (drawn_places look p 0 zs) q
            ∙ ap (λ c. A ++ c) (mod_places p 0 zs q ∙ ap (λ c. B ++ c) (append-nil (modifier_places (drawn_modifiers look p 0 zs) ++ ((a_node, p) ∷ places f)) ∙ ap (λ c. c ++ ((a_node, p) ∷ places f)) (modifiers_are p 0 zs)))))));
      }

  is_instance : (i : Inst) (ls : Lives) (s : Scope) (f : Forest) → Is (placed_in i.path 0 ls) (rows_in i.path 0 ls) f → Is (placed_in i.path 0 ls) (instance_rows i ++ rows_in i.path 0 ls) (single (component i.path s f))
  is_instance i ls s f h = record {
    nodes = h.nodes ∙ ap (map_nest drawn_content) (sym (joined_end (forest_nest f)));
    all = ap (λ ys. (an_instance, i.path) ∷ ys) (h.all ∙ sym (append-nil (places f)));
  }

  is_item : (p : Path) (z : ItemSpot) (k : Option ℕ) (ls : Lives) (i : ℕ) (v : V) (f : Forest) (is : Items) (g : Forest) → Is (joined (placed_in (item_step z ∷ p) 0 ls) (place_comment (item_step z ∷ p) k)) (arm_rows (item_step z ∷ p) k ls) f
      → Is (placed_items p is) (rows_items p is) g
      → Is (placed_items p (Live.item_live z k ls is)) (rows_items p (Live.item_live z k ls is)) (piece (item_region (item_step z ∷ p) v i f) g)
  is_item p z k ls i v f is g h r = record {
    nodes = map_joined (kept_content look) (joined (placed_in (item_step z ∷ p) 0 ls) (place_comment (item_step z ∷ p) k)) (placed_items p is) ∙ (ap₂ joined h.nodes r.nodes ∙ sym (map_joined drawn_content (forest_nest f) (forest_nest g)));
    all = ap (λ ys. (a_value, item_step z ∷ p) ∷ ((an_index, item_step z ∷ p) ∷ ys)) (map-append place_of (arm_rows (item_step z ∷ p) k ls) (rows_items p is) ∙ ap₂ (λ c d. c ++ d) h.all r.all);
  }

  module _ (app : App) (σ τ : Store) where
    is_arm : (q : Path) (k : Option ℕ) (ls : Lives) (f : Forest) → CommentStands app σ τ look k ls → Is (placed_in q 0 ls) (rows_in q 0 ls) f
        → Is (joined (placed_in q 0 ls) (place_comment q k)) (arm_rows q k ls) (join f (drawn_comment look q k))
    is_arm q None ls f c h = is_join (placed_in q 0 ls) end (rows_in q 0 ls) [] f no_pieces h (record { nodes = refl; all = refl })
    is_arm q (Some n) ls f c h = is_join (placed_in q 0 ls) (leaf (empty ∷ q, n)) (rows_in q 0 ls) (row_of a_node (empty ∷ q) (node n) ∷ []) f (single (leaf_piece (empty ∷ q) (look (node n)))) h (is_comment (empty ∷ q) n [] c.1)

    list_is : (us : Values Path) (P : Values Path → Type 0) (Q : Type 0) → ((us : Values Path) → P us → Q) → WhereValues us P ⊥ → Q
    list_is no_values P Q f h = absurd h
    list_is (value v us) P Q f h = f (value v us) h

    else_is : (us : Values Path) (P Q : Type 0) → (P → Q) → WhereValues us (λ z. ⊥) P → Q
    else_is no_values P Q f h = f h
    else_is (value v us) P Q f h = absurd h

    block_is : (o : Option Block) (P : Block → Type 0) (D : Block → Forest) (q : Path) (ls : Lives) → ((c : Block) → P c → Is (placed_in q 0 ls) (rows_in q 0 ls) (D c)) → WhereBlock o P (ls ≡ Live.no_lives)
        → Is (placed_in q 0 ls) (rows_in q 0 ls) (where_block o D no_pieces)
    block_is None P D q ls f h = subst (λ ks. Is (placed_in q 0 ks) (rows_in q 0 ks) no_pieces) (sym h) (record { nodes = refl; all = refl })
    block_is (Some c) P D q ls f h = f c h

    mutual
      pub stmt_is : (m b : ℕ) (s : Scope) (ms : MScope) (p : Path) (x : t.Stmt) (l : Live) → Stands app σ τ look m b s ms p x l → Is (placed_nest p l) (rows p l) (drawn app look ms p x l)
      stmt_is m b s ms p (t.text_stmt z) (Live.still n) h = is_text p n z h
      stmt_is m b s ms p (t.comment_stmt z) (Live.still n) h = is_comment p n z h
      stmt_is m b s ms p (t.put e) (Live.put_live n z) h = is_position p (ref z.ref) _ (leaf (p, n)) (row_of a_node p (node n) ∷ []) (single (leaf_piece p (look (node n)))) (is_text p n _ h.0)
      stmt_is m b s ms p (t.element tag ps c) (Live.element_live n made xs zs ls) h = is_element p n tag _ xs zs (placed_in p 0 ls) (rows_in p 0 ls) (drawn_in app look ms p 0 c ls) h.0 (body_is m b s ms p 0 c ls h.3)
      stmt_is m b s ms p (t.if_stmt e u c d) (Live.branch_live z true k ls) h =
          is_position p (ref z.ref) _ _ _ _ (is_branch (main ∷ p) _ _ _ (is_arm (main ∷ p) k ls (drawn_in app look ms (main ∷ p) 0 c ls) h.2 (body_is m b s ms (main ∷ p) 0 c ls h.3)))
      stmt_is m b s ms p (t.if_stmt e u c d) (Live.branch_live z false k ls) h =
          is_position p (ref z.ref) _ _ _ _ (is_branch (otherwise ∷ p) _ _ _ (is_arm (otherwise ∷ p) k ls (drawn_in app look ms (otherwise ∷ p) 0 d ls) h.2 (body_is m b s ms (otherwise ∷ p) 0 d ls h.3)))
      stmt_is m b s ms p (t.each e key ns c d) (Live.listed z is) h =
          is_position p (ref z.ref) _ _ _ _ (is_branch (items ∷ p) _ _ _
          (list_is _ (ListStands app σ τ look m b s ms p key ns c is) (Is (placed_items (items ∷ p) is) (rows_items (items ∷ p) is) (drawn_items app look ns ms c (items ∷ p) 0 is)) (λ us g. items_is m b s ms (items ∷ p) ns c 0 _ is g) h.1))
      stmt_is m b s ms p (t.each e key ns c d) (Live.unlisted z k ls) h =
          is_position p (ref z.ref) _ _ _ _ (is_branch (otherwise ∷ p) _ _ _
          (else_is _ (ElseStands app σ τ look m b s ms p d k ls) (Is (joined (placed_in (otherwise ∷ p) 0 ls) (place_comment (otherwise ∷ p) k)) (arm_rows (otherwise ∷ p) k ls) (join (drawn_in app look ms (otherwise ∷ p) 0 d ls) (drawn_comment look (otherwise ∷ p) k)))
          (λ g. is_arm (otherwise ∷ p) k ls (drawn_in app look ms (otherwise ∷ p) 0 d ls) g.0 (body_is m b s ms (otherwise ∷ p) 0 d ls g.1)) h.1))
      stmt_is m b s ms p (t.let_stmt es ns c) (Live.let_live made rs ls) h = body_is m _ _ (with_names (named_as ns rs) ms) (main ∷ p) 0 c ls h.3
      stmt_is (suc m) b s ms p (t.component_stmt c ps given bs) (Live.component_live i made gm args (Some k) ls) h =
          is_instance i ls (drawn_scope look i args (mpassed k ps bs ms)) (drawn_in app look (mscope i args [] (mpassed k ps bs ms)) i.path 0 (class_at app i.path).template ls)
          (subst (λ q. Is (placed_in q 0 ls) (rows_in q 0 ls) (drawn_in app look (mscope i args [] (mpassed k ps bs ms)) q 0 (class_at app q).template ls)) (sym h.2)
          (body_is m _ _ (mscope i args [] (mpassed k ps bs ms)) (into c ∷ p) 0 (class_at app (into c ∷ p)).template ls h.7))
      stmt_is zero b s ms p (t.component_stmt c ps given bs) (Live.deep_live q) h = record { nodes = refl; all = refl }
      stmt_is m b s ms p (t.yield es n) (Live.yield_live k made rs ls) h =
          block_is (block_named n (mslots (passed_in ms))) (BlockStands app σ τ look m b s ms p es n made rs ls) (λ c. drawn_in app look (with_names (named_as c.params rs) (mwriter (passed_in ms))) (slot k ∷ p) 0 c.body ls) (slot k ∷ p) ls
          (λ c g. subst (λ j. Is (placed_in (slot j ∷ p) 0 ls) (rows_in (slot j ∷ p) 0 ls) (drawn_in app look (with_names (named_as c.params rs) (mwriter (passed_in ms))) (slot j ∷ p) 0 c.body ls)) (sym h.0)
          (body_is m _ _ (with_names (named_as c.params rs) (mwriter (passed_in ms))) (slot n ∷ p) 0 c.body ls g.3)) h.1
      stmt_is m b s ms p _ _ h = absurd h

      pub body_is : (m b : ℕ) (s : Scope) (ms : MScope) (p : Path) (i : ℕ) (c : t.Body) (ls : Lives) → StandIn app σ τ look m b s ms p i c ls → Is (placed_in p i ls) (rows_in p i ls) (drawn_in app look ms p i c ls)
      body_is m b s ms p i t.end Live.no_lives h = record { nodes = refl; all = refl }
      body_is m b s ms p i (t.stmt x c) (Live.live_and l ls) h =
          is_join (placed_nest (at i ∷ p) l) (placed_in p (suc i) ls) (rows (at i ∷ p) l) (rows_in p (suc i) ls) (drawn app look ms (at i ∷ p) x l) (drawn_in app look ms p (suc i) c ls)
          (stmt_is m b s ms (at i ∷ p) x l h.0) (body_is m b s ms p (suc i) c ls h.1)
      body_is m b s ms p i _ _ h = absurd h

      items_is : (m b : ℕ) (s : Scope) (ms : MScope) (p : Path) (ns : List Text) (c : t.Body) (i : ℕ) (xs : List Entry) (is : Items) → ItemsStand app σ τ look m b s ms p ns c xs is
          → Is (placed_items p is) (rows_items p is) (drawn_items app look ns ms c p i is)
      items_is m b s ms p ns c i [] Live.no_items h = record { nodes = refl; all = refl }
      items_is m b s ms p ns c i (x ∷ xs) (Live.item_live z o ls is) h =
          is_item p z o ls i _ _ is (drawn_items app look ns ms c p (suc i) is)
          (is_arm (item_step z ∷ p) o ls (drawn_in app look (with_names (item_names ns z) ms) (item_step z ∷ p) 0 c ls) h.3
          (subst (λ q. Is (placed_in q 0 ls) (rows_in q 0 ls) (drawn_in app look (with_names (item_names ns z) ms) q 0 c ls)) (sym (ap₂ (λ a n. item a n ∷ p) h.0.0 h.0.1))
          (body_is m _ _ (with_names (item_names ns z) ms) (item x.key x.occurrence ∷ p) 0 c ls h.4)))
          (items_is m b s ms p ns c (suc i) xs is h.5)
      items_is m b s ms p ns c i _ _ h = absurd h

root_is : (app : App) (τ : Store) (m : ℕ) (look : Id → Option Thing) (l : Live) → RootStands app τ τ look m l → Is look (placed_nest [] l) (rows [] l) (drawn_app app look l)
root_is app τ (suc m) look (Live.component_live i made gm args None ls) h =
    is_instance look i ls (drawn_scope look i args mnothing) (drawn_in app look (mscope i args [] mnothing) i.path 0 (class_at app i.path).template ls)
    (subst (λ q. Is look (placed_in q 0 ls) (rows_in q 0 ls) (drawn_in app look (mscope i args [] mnothing) q 0 (class_at app q).template ls)) (sym h.1)
    (body_is look app τ τ m _ _ (mscope i args [] mnothing) [] 0 (class_at app []).template ls h.5))
root_is app τ zero look (Live.deep_live q) h = record { nodes = refl; all = refl }
root_is app τ _ look _ h = absurd h

page_is : (app : App) (τ : Store) (st : State) (l : Live) → StandsFor app τ τ st l → Is st.look (placed_nest [] l) (rows [] l) (draw app τ)
page_is app τ st l h = subst (Is st.look (placed_nest [] l) (rows [] l)) (standing_shows app τ st l h) (root_is app τ app.limit st.look l h.stands)

pub nest_is_drawn : NestIsDrawn
nest_is_drawn app τ st l h = (page_is app τ st l h).nodes

pub rows_are_drawn : RowsAreDrawn
rows_are_drawn app τ st l h = (page_is app τ st l h).all

-- Ids

same_row : (q : Id) (xs : List Row) (x y : Row) → occurs q (row_ids xs) ≤ 1 → Among x xs → Among y xs → x.id ≡ q → y.id ≡ q → x ≡ y
same_row q [] x y h m n e f = absurd m
same_row q (z ∷ zs) x y h (inl a) (inl b) e f = a ∙ sym b
same_row q (z ∷ zs) x y h (inr m) (inr n) e f = same_row q zs x y (omega (arith, h)) m n e f
same_row q (z ∷ zs) x y h (inl a) (inr n) e f =
    let k = subst (λ i. 0 < occurs i (row_ids zs)) f (among_ids y zs n) in
    let j = subst (λ i. 0 < hit q i) (sym e ∙ ap (λ v. v.id) a) (hit_self q) in absurd (omega (arith, h, k, j))
same_row q (z ∷ zs) x y h (inr m) (inl b) e f =
    let k = subst (λ i. 0 < occurs i (row_ids zs)) e (among_ids x zs m) in
    let j = subst (λ i. 0 < hit q i) (sym f ∙ ap (λ v. v.id) b) (hit_self q) in absurd (omega (arith, h, k, j))

pub ids_stand_once : IdsStandOnce
ids_stand_once app σ τ st l h x y m n e =
    let a = page_ids y.id l (page_sits app σ τ st l h) in let b = h.owned.once y.id in
    same_row y.id (rows [] l) x y (omega (arith, a, b)) m n e refl
