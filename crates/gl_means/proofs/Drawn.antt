-- Each position of a tree that stands is drawn, with what its references mean.
use Rattle.std.proofs.Common.{◌≡◌, ℕ, zero, suc, max, true, false, List, [], ◌∷◌, ◌++◌, map, Option, Some, None, refl, sym, subst, inl, inr, Bool}
use Rattle.gl_base.specs.Texts.{Text}
use Rattle.gl_ast.specs.Template as t
use Rattle.gl_meaning.specs.App.{App}
use Rattle.gl_meaning.specs.Path.{main, otherwise, items, item, slot, Path}
use Rattle.gl_meaning.specs.Path as path
use Rattle.gl_meaning.specs.Scope.{Source, Pair, sources_of, Scope, scope, passed}
use Rattle.gl_meaning.specs.Eval.{Store, class_at, eval_all, eval_given}
use Rattle.gl_meaning.specs.Parts.{WrittenValue, WrittenModifier}
use Rattle.gl_meaning.specs.Render.{Forest, Piece, no_pieces, piece, join, forest_of, item_region, position, Entry, values_listed, Block, block_named}
use Rattle.gl_plain.specs.Ids.{Id, ref}
use Rattle.gl_plain.specs.State.{MScope, mscope, mnothing, mpassed, passed_in, mslots, mwriter, named_as, with_names, held_value, any_of, all_form, row, Thing, pair_of}
use Rattle.gl_plain.specs.Binding.{Spot, first_value}
use Rattle.gl_plain.specs.Live.{AttrSpot, ModSpot, item_names, Live, Lives, Items}
use Rattle.gl_plain.specs.Live
use Rattle.gl_plain.specs.Drawn.{pairs_at, drawn_comment, drawn_attrs, drawn_places, drawn, drawn_items, drawn_in, drawn_app}
use Rattle.gl_plain.specs.Renew.{spot_ids, where_block}
use Rattle.gl_plain.specs.Stands.{top, SpottedIn, one_expr, attrs_by, mods_by, tail_of, AttrsStand, ModsStand, Stands, StandIn, ItemsStand, BlockStands, ListStands, ElseStands}
use Rattle.gl_plain.specs.Machine.{no_place, RootStands}
use Rattle.gl_turns.specs.Places.{Place, node_place, position_place, modifier_place, comment_places, attr_places, mod_places, places, places_items, places_in}
use Rattle.gl_means.proofs.Along.{Has, has_none, has_join, has_branch, has_position, has_arm, has_element, has_item, has_block, where_list, where_else}

-- a row of a position
pub record IsPosition (o : Option Thing) : Type 0 where
  pub last : (Source → Bool) → Bool
  pub is : o ≡ Some (row (record { form = all_form (spot_ids o); last = last }))

module _ (app : App) (σ τ : Store) (look : Id → Option Thing) where
  -- the piece has what the position's references mean
  pub record IsDrawn (z : Path × ℕ) (x : Piece) : Type 0 where
    pub is : x ≡ position z.0 (map (pair_of look) (spot_ids (look (ref z.1))))
    pub row : IsPosition (look (ref z.1))

  abbrev pub Drawn : List Place → Forest → Type 0
  Drawn xs f = Has IsDrawn xs f

  spot_drawn : (ms : MScope) (more : List Id) (p : Path) (k : Spot) (E : Store → (ℕ → Pair) → List Pair) (ps : List Pair) (xs : List Place) (f : Forest)
      → SpottedIn app look ms more k E ps → Drawn xs f → Drawn (position_place p k.ref ∷ xs) (piece (position p (pairs_at look k)) f)
  spot_drawn ms more p k E ps xs f s h = has_position IsDrawn p k.ref (position p (pairs_at look k)) xs f (record { is = refl; row = record { last = any_of (sources_of ps); is = s.is.0 } }) h

  attrs_drawn : (p : Path) (made : List Id) (s : Scope) (ms : MScope) (ws : Scope → List (WrittenValue Scope)) (ns : List Text) (xs : List AttrSpot) → AttrsStand app σ τ look made s ms ws ns xs
      → Drawn (attr_places p xs) (forest_of (drawn_attrs look p xs))
  attrs_drawn p made s ms ws [] [] h = has_none IsDrawn _
  attrs_drawn p made s ms ws (n ∷ ns) (a ∷ xs) h =
      spot_drawn ms made (path.attribute_at a.name ∷ p) a.spot _ _ (attr_places p xs) (forest_of (drawn_attrs look p xs)) h.1 (attrs_drawn p made s ms ws ns xs h.2)
  attrs_drawn p made s ms ws _ _ h = absurd h

  mods_drawn : (p : Path) (made : List Id) (n : ℕ) (s : Scope) (ms : MScope) (ws : Scope → List (WrittenModifier Scope)) (i : ℕ) (ds : List (WrittenModifier Scope)) (zs : List ModSpot) → ModsStand app σ τ look made n s ms ws i ds zs
      → Drawn (mod_places p i zs) (forest_of (drawn_places look p i zs))
  mods_drawn p made n s ms ws i [] [] h = has_none IsDrawn _
  mods_drawn p made n s ms ws i (d ∷ ds) (y ∷ zs) h =
      spot_drawn ms made (path.modifier_at i ∷ p) y.spot _ _ (modifier_place (path.modifier_at i ∷ p) y.id ∷ mod_places p (suc i) zs) (forest_of (drawn_places look p (suc i) zs)) h.3
      (record { each = (mods_drawn p made n s ms (λ s'. tail_of (ws s')) (suc i) ds zs h.4).each })
  mods_drawn p made n s ms ws i _ _ h = absurd h

  mutual
    is_drawn : (m b : ℕ) (s : Scope) (ms : MScope) (p' p : Path) (x : t.Stmt) (l : Live) → Stands app σ τ look m b s ms p' x l → Drawn (places p l) (drawn app look ms p x l)
    is_drawn m b s ms p' p (t.text_stmt y) (Live.still n) h = record { each = λ z w. absurd w }
    is_drawn m b s ms p' p (t.comment_stmt y) (Live.still n) h = record { each = λ z w. absurd w }
    is_drawn m b s ms p' p (t.put e) (Live.put_live n k) h = spot_drawn ms [] p k _ _ (node_place p n ∷ []) _ h.1 (record { each = λ z w. absurd w })
    is_drawn m b s ms p' p (t.element tag ps d) (Live.element_live n made xs zs ls) h =
        has_element IsDrawn p n (attr_places p xs) (places_in p 0 ls) (mod_places p 0 zs) (drawn_attrs look p xs) (drawn_places look p 0 zs) _ (drawn_in app look ms p 0 d ls) (λ x i. inl (inr i))
        (attrs_drawn p made s ms (attrs_by ps) _ xs h.1) (in_drawn m b s ms p' p 0 0 d ls h.3) (mods_drawn p made n s ms (mods_by ps) 0 (mods_by ps s) zs h.2)
    is_drawn m b s ms p' p (t.if_stmt e unless c d) (Live.branch_live k true y ls) h =
        spot_drawn ms [] p k _ _ _ _ h.0 (has_branch IsDrawn _ (main ∷ p) _ (has_arm IsDrawn (places_in (main ∷ p) 0 ls) (main ∷ p) y _ (drawn_comment look (main ∷ p) y) (in_drawn m b s ms (main ∷ p') (main ∷ p) 0 0 c ls h.3)))
    is_drawn m b s ms p' p (t.if_stmt e unless c d) (Live.branch_live k false y ls) h =
        spot_drawn ms [] p k _ _ _ _ h.0 (has_branch IsDrawn _ (otherwise ∷ p) _ (has_arm IsDrawn (places_in (otherwise ∷ p) 0 ls) (otherwise ∷ p) y _ (drawn_comment look (otherwise ∷ p) y) (in_drawn m b s ms (otherwise ∷ p') (otherwise ∷ p) 0 0 d ls h.3)))
    is_drawn m b s ms p' p (t.each e key ns c d) (Live.listed k is) h =
        let us = values_listed (first_value (eval_all app σ s (one_expr e))) in
        let g = where_list (ListStands app σ τ look m b s ms p' key ns c is) us h.1 in
        spot_drawn ms [] p k _ _ _ _ h.0 (has_branch IsDrawn _ (items ∷ p) _ (items_drawn m b s ms (items ∷ p') (items ∷ p) ns c _ 0 is g))
    is_drawn m b s ms p' p (t.each e key ns c d) (Live.unlisted k y ls) h =
        let us = values_listed (first_value (eval_all app σ s (one_expr e))) in
        let g = where_else (ElseStands app σ τ look m b s ms p' d y ls) us h.1 in
        spot_drawn ms [] p k _ _ _ _ h.0 (has_branch IsDrawn _ (otherwise ∷ p) _ (has_arm IsDrawn (places_in (otherwise ∷ p) 0 ls) (otherwise ∷ p) y _ (drawn_comment look (otherwise ∷ p) y) (in_drawn m b s ms (otherwise ∷ p') (otherwise ∷ p) 0 0 d ls g.1)))
    is_drawn m b s ms p' p (t.let_stmt es ns c) (Live.let_live made rs ls) h = in_drawn m _ _ _ (main ∷ p') (main ∷ p) 0 0 c ls h.3
    is_drawn (suc m) b s ms p' p (t.component_stmt c ps given bs) (Live.component_live i made gm args (Some k) ls) h =
        let q = path.into c ∷ p' in
        let g = in_drawn m _ _ (mscope i args [] (mpassed k ps bs ms)) q i.path 0 0 (class_at app i.path).template ls
        (subst (λ j. StandIn app σ τ look m (max b (top made)) (scope q (eval_given app σ s given) [] (passed ps bs s)) (mscope i args [] (mpassed k ps bs ms)) q 0 (class_at app j).template ls) (sym h.2) h.7) in
        record { each = λ z w. let y = g.each z w in (y.0, inl (inr y.1), y.2) }
    is_drawn zero b s ms p' p (t.component_stmt c ps given bs) (Live.deep_live q) h = has_none IsDrawn _
    is_drawn m b s ms p' p (t.yield es n) (Live.yield_live k made rs ls) h =
        let F : Block → Forest = λ c. drawn_in app look (with_names (named_as c.params rs) (mwriter (passed_in ms))) (slot k ∷ p) 0 c.body ls in
        has_block IsDrawn (slot k ∷ p) (block_named n (mslots (passed_in ms))) (BlockStands app σ τ look m b s ms p' es n made rs ls) F (λ o. where_block o F no_pieces) ls (λ c. refl)
        (λ c f g. in_drawn m _ _ _ (slot n ∷ p') (slot k ∷ p) 0 0 c.body ls g.3) h.1
    is_drawn m b s ms p' p _ _ h = absurd h

    in_drawn : (m b : ℕ) (s : Scope) (ms : MScope) (p' p : Path) (i' i : ℕ) (c : t.Body) (ls : Lives) → StandIn app σ τ look m b s ms p' i' c ls → Drawn (places_in p i ls) (drawn_in app look ms p i c ls)
    in_drawn m b s ms p' p i' i t.end Live.no_lives h = has_none IsDrawn _
    in_drawn m b s ms p' p i' i (t.stmt x d) (Live.live_and l ls) h =
        has_join IsDrawn (places (path.at i ∷ p) l) (places_in p (suc i) ls) _ _ (is_drawn m b s ms (path.at i' ∷ p') (path.at i ∷ p) x l h.0) (in_drawn m b s ms p' p (suc i') (suc i) d ls h.1)
    in_drawn m b s ms p' p i' i _ _ h = absurd h

    items_drawn : (m b : ℕ) (s : Scope) (ms : MScope) (p' p : Path) (ns : List Text) (c : t.Body) (xs : List Entry) (i : ℕ) (is : Items) → ItemsStand app σ τ look m b s ms p' ns c xs is → Drawn (places_items p is) (drawn_items app look ns ms c p i is)
    items_drawn m b s ms p' p ns c [] i Live.no_items h = has_none IsDrawn _
    items_drawn m b s ms p' p ns c (x ∷ xs) i (Live.item_live y k ls is) h =
        let q = item y.key y.occurrence ∷ p in
        let f = drawn_in app look (with_names (item_names ns y) ms) q 0 c ls in
        let body = has_arm IsDrawn (places_in q 0 ls) q k f (drawn_comment look q k) (in_drawn m _ _ _ (item x.key x.occurrence ∷ p') q 0 0 c ls h.4) in
        let region = item_region q (held_value (look (ref y.value))) i (join f (drawn_comment look q k)) in
        record { each = (has_item IsDrawn (places_in q 0 ls ++ comment_places q k) (places_items p is) region (join f (drawn_comment look q k)) _ (λ z w. inl (inr w)) body (items_drawn m b s ms p' p ns c xs (suc i) is h.5)).each }
    items_drawn m b s ms p' p ns c _ i _ h = absurd h

  pub app_drawn : (m : ℕ) (l : Live) → RootStands app σ τ look m l → Drawn (places [] l) (drawn_app app look l)
  app_drawn (suc m) (Live.component_live i made gm args None ls) h =
      let g = in_drawn m _ no_place (mscope i args [] mnothing) [] i.path 0 0 (class_at app i.path).template ls (subst (λ j. StandIn app σ τ look m (max 0 (top made)) no_place (mscope i args [] mnothing) [] 0 (class_at app j).template ls) (sym h.1) h.5) in
      record { each = λ z w. let y = g.each z w in (y.0, inl (inr y.1), y.2) }
  app_drawn zero (Live.deep_live q) h = has_none IsDrawn _
  app_drawn _ _ h = absurd h
