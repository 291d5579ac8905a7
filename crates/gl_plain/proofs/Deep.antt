-- Where a component would stand too deep, in what is shown.
use Rattle.std.proofs.Common.{◌≡◌, ℕ, zero, suc, Bool, true, false, List, [], ◌∷◌, ◌++◌, Option, Some, None, refl, sym, ◌∙◌, ap, ap₂, subst}
use Rattle.std.specs.Prelude.{not, ◌&&◌, ◌||◌}
use Rattle.gl_base.specs.Texts.{Text}
use Rattle.gl_value.specs.Value.{Values, no_values, value}
use Rattle.gl_ast.specs.Template as t
use Rattle.gl_meaning.specs.App.{App}
use Rattle.gl_meaning.specs.Path.{at, main, otherwise, items, item, into, slot, empty, Path}
use Rattle.gl_meaning.specs.Scope.{Scope}
use Rattle.gl_meaning.specs.Eval.{Store, class_at}
use Rattle.gl_meaning.specs.Render as r
use Rattle.gl_meaning.specs.Render.{fits, Forest, join, forest_of, Piece, piece_fits, Entry, entries, values_listed, Block, block_named}
use Rattle.gl_plain.specs.Ids.{Id, node}
use Rattle.gl_plain.specs.State.{MScope, mscope, mpassed, passed_in, mslots, mwriter, named_as, with_names, content, text_content, comment_content, element_content, row, instance_row, block_row, modifier_row, Thing}
use Rattle.gl_plain.specs.Live
use Rattle.gl_plain.specs.Live.{Live, Lives, Items, item_names, is_deep, are_deep, items_deep, AttrSpot, ModSpot}
use Rattle.gl_plain.specs.Renew.{where_block}
use Rattle.gl_plain.specs.Drawn.{drawn, drawn_in, drawn_items, drawn_comment, drawn_attrs, drawn_places, leaf_piece}
use Rattle.gl_plain.specs.Stands.{WhereValues, WhereBlock, Stands, StandIn, ItemsStand, BlockStands, ListStands, ElseStands}

join_fits : (f g : Forest) → fits (join f g) ≡ (fits f && fits g)
join_fits r.no_pieces g = refl
join_fits (r.piece q f) g = ap (λ b. piece_fits q && b) (join_fits f g) ∙ assoc (piece_fits q) (fits f) (fits g) where
  assoc : (a b c : Bool) → (a && (b && c)) ≡ ((a && b) && c)
  assoc true b c = refl
  assoc false b c = refl

pub and_true : (a : Bool) → (a && true) ≡ a
and_true true = refl
and_true false = refl

not_or : (a b : Bool) → (not a && not b) ≡ not (a || b)
not_or true b = refl
not_or false b = refl

module _ (look : Id → Option Thing) where
  leaf_fits : (p : Path) (o : Option Thing) → piece_fits (leaf_piece p o) ≡ true
  leaf_fits p None = refl
  leaf_fits p (Some (content (text_content z))) = refl
  leaf_fits p (Some (content (comment_content z))) = refl
  leaf_fits p (Some (content (element_content z xs))) = refl
  leaf_fits p (Some (row z)) = refl
  leaf_fits p (Some (instance_row z)) = refl
  leaf_fits p (Some block_row) = refl
  leaf_fits p (Some (modifier_row z)) = refl

  comment_fits : (p : Path) (o : Option ℕ) (f : Forest) (b : Bool) → fits f ≡ b → fits (join f (drawn_comment look p o)) ≡ b
  comment_fits p None f b e = join_fits f r.no_pieces ∙ (and_true (fits f) ∙ e)
  comment_fits p (Some n) f b e =
      join_fits f (r.single (leaf_piece (empty ∷ p) (look (node n))))
      ∙ (ap (λ c. fits f && (c && true)) (leaf_fits (empty ∷ p) (look (node n))) ∙ (and_true (fits f) ∙ e))

  attrs_fit : (p : Path) (xs : List AttrSpot) (qs : List Piece) → fits (forest_of (drawn_attrs look p xs ++ qs)) ≡ fits (forest_of qs)
  attrs_fit p [] qs = refl
  attrs_fit p (x ∷ xs) qs = attrs_fit p xs qs

  places_fit : (p : Path) (i : ℕ) (zs : List ModSpot) → fits (forest_of (drawn_places look p i zs)) ≡ true
  places_fit p i [] = refl
  places_fit p i (z ∷ zs) = places_fit p (suc i) zs

  -- of a yielded block, and of the items of a list
  block_fits : (o : Option Block) (P : Block → Type 0) (D : Block → Forest) (ls : Lives) → WhereBlock o P (ls ≡ Live.no_lives) → ((c : Block) → P c → fits (D c) ≡ not (are_deep ls))
      → fits (where_block o D r.no_pieces) ≡ not (are_deep ls)
  block_fits None P D ls h g = sym (ap (λ z. not (are_deep z)) h)
  block_fits (Some c) P D ls h g = g c h

  values_fit : (us : Values Path) (P : Values Path → Type 0) (f : Forest) (b : Bool) → WhereValues us P ⊥ → ((us : Values Path) → P us → fits f ≡ b) → fits f ≡ b
  values_fit no_values P f b h g = absurd h
  values_fit (value v us) P f b h g = g (value v us) h

  none_fit : (us : Values Path) (Q : Type 0) (f : Forest) (b : Bool) → WhereValues us (λ z. ⊥) Q → (Q → fits f ≡ b) → fits f ≡ b
  none_fit no_values Q f b h g = g h
  none_fit (value v us) Q f b h g = absurd h

  module _ (app : App) (τ : Store) where
    mutual
      -- The part is drawn at the path i.
      pub fits_is : (m b : ℕ) (w : Scope) (ms : MScope) (p i : Path) (x : t.Stmt) (l : Live) → Stands app τ τ look m b w ms p x l → fits (drawn app look ms i x l) ≡ not (is_deep l)
      fits_is m b w ms p i (t.text_stmt z) (Live.still n) h = ap (λ b. b && true) (leaf_fits i (look (node n)))
      fits_is m b w ms p i (t.comment_stmt z) (Live.still n) h = ap (λ b. b && true) (leaf_fits i (look (node n)))
      fits_is m b w ms p i (t.put z) (Live.put_live n k) h = ap (λ b. b && true) (leaf_fits i (look (node n)))
      fits_is m b w ms p i (t.element tag ps c) (Live.element_live n made xs zs ls) h =
          join_fits (forest_of (drawn_attrs look i xs ++ drawn_places look i 0 zs)) _
          ∙ (ap (λ b. b && (fits (drawn_in app look ms i 0 c ls) && true)) (attrs_fit i xs (drawn_places look i 0 zs) ∙ places_fit i 0 zs) ∙ (and_true (fits (drawn_in app look ms i 0 c ls)) ∙ all_fit m b w ms p i 0 c ls h.3))
      fits_is m b w ms p i (t.if_stmt z unless c d) (Live.branch_live k true y ls) h =
          and_true _ ∙ comment_fits (main ∷ i) y (drawn_in app look ms (main ∷ i) 0 c ls) (not (are_deep ls)) (all_fit m b w ms (main ∷ p) (main ∷ i) 0 c ls h.3)
      fits_is m b w ms p i (t.if_stmt z unless c d) (Live.branch_live k false y ls) h =
          and_true _ ∙ comment_fits (otherwise ∷ i) y (drawn_in app look ms (otherwise ∷ i) 0 d ls) (not (are_deep ls)) (all_fit m b w ms (otherwise ∷ p) (otherwise ∷ i) 0 d ls h.3)
      fits_is m b w ms p i (t.each z key ns c d) (Live.listed k is) h =
          and_true _
          ∙ values_fit _ (ListStands app τ τ look m b w ms p key ns c is) (drawn_items app look ns ms c (items ∷ i) 0 is) (not (items_deep is)) h.1
          (λ us g. items_fit m b w ms (items ∷ p) (items ∷ i) ns c 0 (entries key 0 [] us) is g)
      fits_is m b w ms p i (t.each z key ns c d) (Live.unlisted k y ls) h =
          and_true _
          ∙ none_fit _ (ElseStands app τ τ look m b w ms p d y ls) (join (drawn_in app look ms (otherwise ∷ i) 0 d ls) (drawn_comment look (otherwise ∷ i) y)) (not (are_deep ls)) h.1
          (λ g. comment_fits (otherwise ∷ i) y (drawn_in app look ms (otherwise ∷ i) 0 d ls) (not (are_deep ls)) (all_fit m b w ms (otherwise ∷ p) (otherwise ∷ i) 0 d ls g.1))
      fits_is m b w ms p i (t.let_stmt es ns c) (Live.let_live made rs ls) h = all_fit m _ _ (with_names (named_as ns rs) ms) (main ∷ p) (main ∷ i) 0 c ls h.3
      fits_is (suc m) b w ms p i (t.component_stmt c ps given bs) (Live.component_live j made gm args (Some k) ls) h =
          let v = mpassed k ps bs ms in
          and_true _
          ∙ subst (λ q. fits (drawn_in app look (mscope j args [] v) q 0 (class_at app q).template ls) ≡ not (are_deep ls)) (sym h.2)
          (all_fit m _ _ (mscope j args [] v) (into c ∷ p) (into c ∷ p) 0 (class_at app (into c ∷ p)).template ls h.7)
      fits_is zero b w ms p i (t.component_stmt c ps given bs) (Live.deep_live q) h = refl
      fits_is m b w ms p i (t.yield es n) (Live.yield_live k made rs ls) h =
          block_fits (block_named n (mslots (passed_in ms))) (BlockStands app τ τ look m b w ms p es n made rs ls)
          (λ c. drawn_in app look (with_names (named_as c.params rs) (mwriter (passed_in ms))) (slot k ∷ i) 0 c.body ls) ls h.1
          (λ c g. all_fit m _ _ (with_names (named_as c.params rs) (mwriter (passed_in ms))) (slot n ∷ p) (slot k ∷ i) 0 c.body ls g.3)
      fits_is m b w ms p i _ _ h = absurd h

      items_fit : (m b : ℕ) (w : Scope) (ms : MScope) (p i : Path) (ns : List Text) (c : t.Body) (j : ℕ) (xs : List Entry) (is : Items) → ItemsStand app τ τ look m b w ms p ns c xs is
          → fits (drawn_items app look ns ms c i j is) ≡ not (items_deep is)
      items_fit m b w ms p i ns c j [] Live.no_items h = refl
      items_fit m b w ms p i ns c j (x ∷ xs) (Live.item_live z k ls is) h =
          ap₂ (λ a b. a && b)
          (comment_fits (item z.key z.occurrence ∷ i) k (drawn_in app look (with_names (item_names ns z) ms) (item z.key z.occurrence ∷ i) 0 c ls) (not (are_deep ls))
          (all_fit m _ _ (with_names (item_names ns z) ms) (item x.key x.occurrence ∷ p) (item z.key z.occurrence ∷ i) 0 c ls h.4))
          (items_fit m b w ms p i ns c (suc j) xs is h.5)
          ∙ not_or (are_deep ls) (items_deep is)
      items_fit m b w ms p i ns c j _ _ h = absurd h

      pub all_fit : (m b : ℕ) (w : Scope) (ms : MScope) (p i : Path) (j : ℕ) (c : t.Body) (ls : Lives) → StandIn app τ τ look m b w ms p j c ls → fits (drawn_in app look ms i j c ls) ≡ not (are_deep ls)
      all_fit m b w ms p i j t.end Live.no_lives h = refl
      all_fit m b w ms p i j (t.stmt x c) (Live.live_and l ls) h =
          join_fits (drawn app look ms (at j ∷ i) x l) (drawn_in app look ms i (suc j) c ls)
          ∙ (ap₂ (λ a b. a && b) (fits_is m b w ms (at j ∷ p) (at j ∷ i) x l h.0) (all_fit m b w ms p i (suc j) c ls h.1) ∙ not_or (is_deep l) (are_deep ls))
      all_fit m b w ms p i j _ _ h = absurd h
