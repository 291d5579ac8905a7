-- The instances of the rendering are those of the tree. So a settled store has cells of the tree's instances alone.
use Rattle.std.proofs.Common.{◌≡◌, ℕ, zero, suc, List, [], ◌∷◌, ◌++◌, map, true, false, Option, Some, None, sym, ap, ap₂, ◌∙◌, subst, inl, inr}
use Rattle.std.specs.Prelude.{flat_map}
use Rattle.gl_base.specs.Texts.{Text}
use Rattle.gl_ast.specs.Template as t
use Rattle.gl_ast.specs.Template.{Plain}
use Rattle.gl_meaning.specs.App.{App}
use Rattle.gl_meaning.specs.Path.{at, main, otherwise, items, item, into, slot, attribute_at, modifier_at, Path, empty}
use Rattle.gl_meaning.specs.Scope.{Pair, Scope}
use Rattle.gl_meaning.specs.Eval.{Held, Store, class_at, cell_value}
use Rattle.gl_meaning.specs.Known.{Among}
use Rattle.gl_meaning.specs.Laws.{In, InPiece}
use Rattle.gl_meaning.specs.Changes.{instance_path, instances, cells_of}
use Rattle.gl_meaning.specs.Render.{Piece, element_node, text_node, comment_node, branch, position, too_deep, Forest, no_pieces, piece, single, join, forest_of, Entry, Block, block_named, draw}
use Rattle.gl_meaning.proofs.Pieces.{among_either, found_in}
use Rattle.gl_meaning.proofs.Under.{in_join}
use Rattle.gl_plain.specs.Ids.{Id, node}
use Rattle.gl_plain.specs.State.{MScope, mscope, mnothing, mpassed, named_as, with_names, element_content, text_content, comment_content, content, row, instance_row, block_row, modifier_row, Thing}
use Rattle.gl_plain.specs.Live
use Rattle.gl_plain.specs.Live.{AttrSpot, ModSpot, ItemSpot, item_names, Live, Lives, Items}
use Rattle.gl_plain.specs.Drawn.{leaf_piece, pairs_at, drawn_comment, drawn_attrs, drawn_places, drawn, drawn_items, drawn_in, drawn_app}
use Rattle.gl_plain.specs.Renew.{where_block}
use Rattle.gl_plain.specs.Stands.{WhereBlock, Stands, StandIn, ItemsStand, ListStands, ElseStands, BlockStands}
use Rattle.gl_plain.specs.Machine.{RootStands}
use Rattle.gl_plain.proofs.Roots.{standing_shows}
use Rattle.gl_naming.specs.Named.{SettledOwn}
use Rattle.gl_naming.specs.Renamed.{state_with}
use Rattle.gl_naming.specs.Ties.{values}
use Rattle.gl_naming.proofs.Swaps.{value_left, value_right}
use Rattle.gl_naming.proofs.Choices.{where_list, where_else}
use Rattle.gl_naming.proofs.Ties.{ties, ties_items, ties_in, own_tie, no_tie}
use Rattle.gl_naming.proofs.Sits.{step_of}

-- each instance in the forest is at the path of one of these
abbrev Only : Forest → List (ℕ × Path) → Type 0
Only f xs = (y : Piece) (q : Path) → In y f → instance_path y ≡ Some q → Among q (values xs)

abbrev OnlyPiece : Piece → List (ℕ × Path) → Type 0
OnlyPiece z xs = (y : Piece) (q : Path) → InPiece y z → instance_path y ≡ Some q → Among q (values xs)

only_join : (f g : Forest) (xs ys : List (ℕ × Path)) → Only f xs → Only g ys → Only (join f g) (xs ++ ys)
only_join f g xs ys a b y q m e = elim (in_join y f g m) [ inl k ↦ value_left q xs ys (a y q k e) | inr k ↦ value_right q xs ys (b y q k e) ]

only_piece : (z : Piece) (f : Forest) (xs : List (ℕ × Path)) → OnlyPiece z [] → Only f xs → Only (piece z f) xs
only_piece z f xs a b y q (inl m) e = absurd (a y q m e)
only_piece z f xs a b y q (inr m) e = b y q m e

only_single : (z : Piece) (xs : List (ℕ × Path)) → OnlyPiece z xs → Only (single z) xs
only_single z xs a y q (inl m) e = a y q m e
only_single z xs a y q (inr m) e = absurd m

-- a piece that is none and has none in it
no_instance : (y z : Piece) (q : Path) → y ≡ z → instance_path z ≡ None → instance_path y ≡ Some q → ⊥
no_instance y z q e n s = let d : None ≡ Some q = sym n ∙ (ap instance_path (sym e) ∙ s) in cc

abbrev path_in : Option Path → Path
path_in None = []
path_in (Some v) = v

instance_is : (y z : Piece) (q j : Path) → y ≡ z → instance_path z ≡ Some j → instance_path y ≡ Some q → q ≡ j
instance_is y z q j e n s = ap path_in (sym s ∙ (ap instance_path e ∙ n))

position_only : (p : Path) (ps : List Pair) → OnlyPiece (position p ps) []
position_only p ps y q m e = no_instance y (position p ps) q m (λ i. None) e

leaf_only : (p : Path) (o : Option Thing) → OnlyPiece (leaf_piece p o) []
leaf_only p (Some (content (text_content z))) y q m e = no_instance y (text_node p z) q m (λ i. None) e
leaf_only p (Some (content (comment_content z))) y q m e = no_instance y (comment_node p z) q m (λ i. None) e
leaf_only p (Some (content (element_content z xs))) y q m e = no_instance y (text_node p []) q m (λ i. None) e
leaf_only p (Some (row x)) y q m e = no_instance y (text_node p []) q m (λ i. None) e
leaf_only p (Some (instance_row i)) y q m e = no_instance y (text_node p []) q m (λ i. None) e
leaf_only p (Some block_row) y q m e = no_instance y (text_node p []) q m (λ i. None) e
leaf_only p (Some (modifier_row x)) y q m e = no_instance y (text_node p []) q m (λ i. None) e
leaf_only p None y q m e = no_instance y (text_node p []) q m (λ i. None) e

module _ (app : App) (look : Id → Option Thing) where
  comment_only : (p : Path) (o : Option ℕ) → Only (drawn_comment look p o) []
  comment_only p None = λ y q m e. m
  comment_only p (Some n) = only_single (leaf_piece (empty ∷ p) (look (node n))) [] (leaf_only (empty ∷ p) (look (node n)))

  pieces_only : (zs : List Piece) → ((z : Piece) → Among z zs → OnlyPiece z []) → Only (forest_of zs) []
  pieces_only [] h = λ y q m e. m
  pieces_only (z ∷ zs) h = only_piece z (forest_of zs) [] (h z (inl (λ i. z))) (pieces_only zs (λ w a. h w (inr a)))

  attrs_only : (p : Path) (xs : List AttrSpot) (z : Piece) → Among z (drawn_attrs look p xs) → OnlyPiece z []
  attrs_only p [] z m = absurd m
  attrs_only p (a ∷ xs) z (inl e) = subst (λ w. OnlyPiece w []) (sym e) (position_only (attribute_at a.name ∷ p) (pairs_at look a.spot))
  attrs_only p (a ∷ xs) z (inr m) = attrs_only p xs z m

  places_only : (p : Path) (i : ℕ) (zs : List ModSpot) (z : Piece) → Among z (drawn_places look p i zs) → OnlyPiece z []
  places_only p i [] z m = absurd m
  places_only p i (s ∷ zs) z (inl e) = subst (λ w. OnlyPiece w []) (sym e) (position_only (modifier_at i ∷ p) (pairs_at look s.spot))
  places_only p i (s ∷ zs) z (inr m) = places_only p (suc i) zs z m

  branch_only : (p : Path) (f : Forest) (xs : List (ℕ × Path)) (k : Option ℕ) → Only f xs → OnlyPiece (branch p (join f (drawn_comment look p k))) xs
  branch_only p f xs k h y q (inl e) s = absurd (no_instance y (branch p (join f (drawn_comment look p k))) q e (λ i. None) s)
  branch_only p f xs k h y q (inr m) s = elim (in_join y f (drawn_comment look p k) m) [ inl a ↦ h y q a s | inr a ↦ absurd (comment_only p k y q a s) ]

  module _ (σ τ : Store) where
    block_only : (o : Option Block) (F : Block → Forest) (xs : List (ℕ × Path)) (P : Block → Type 0) (Q : Type 0) → ((c : Block) → P c → Only (F c) xs) → WhereBlock o P Q → Only (where_block o F no_pieces) xs
    block_only None F xs P Q k h = λ y q m e. absurd m
    block_only (Some c) F xs P Q k h = k c h

    mutual
      only : (m b : ℕ) (s : Scope) (ms : MScope) (p : Path) (x : t.Stmt) (l : Live) → Stands app σ τ look m b s ms p x l → Only (drawn app look ms p x l) (ties own_tie no_tie p l)
      only m b s ms p (t.text_stmt z) (Live.still n) h = only_single (leaf_piece p (look (node n))) [] (leaf_only p (look (node n)))
      only m b s ms p (t.comment_stmt z) (Live.still n) h = only_single (leaf_piece p (look (node n))) [] (leaf_only p (look (node n)))
      only m b s ms p (t.put e) (Live.put_live n z) h =
          only_piece (position p (pairs_at look z)) (single (leaf_piece p (look (node n)))) [] (position_only p (pairs_at look z))
          (only_single (leaf_piece p (look (node n))) [] (leaf_only p (look (node n))))
      only m b s ms p (t.element tag ps c) (Live.element_live n made xs zs ls) h =
          let own = ties_in own_tie no_tie p 0 ls in
          let parts = drawn_attrs look p xs ++ drawn_places look p 0 zs in
          only_join (forest_of parts) (single (element_node p _ _ _ (drawn_in app look ms p 0 c ls))) [] own
          (pieces_only parts (λ z a. elim (among_either z (drawn_attrs look p xs) (drawn_places look p 0 zs) a) [ inl k ↦ attrs_only p xs z k | inr k ↦ places_only p 0 zs z k ]))
          (λ y q i e. elim i [
            | inl k ↦ elim k [ inl d ↦ absurd (no_instance y _ q d (λ j. None) e) | inr d ↦ only_in m b s ms p 0 c ls h.3 y q d e ]
            | inr k ↦ absurd k
          ])
      only m b s ms p (t.if_stmt e u c d) (Live.branch_live z true k ls) h =
          let own = ties_in own_tie no_tie (main ∷ p) 0 ls in
          let f = drawn_in app look ms (main ∷ p) 0 c ls in
          only_piece (position p (pairs_at look z)) (single (branch (main ∷ p) (join f (drawn_comment look (main ∷ p) k)))) own (position_only p (pairs_at look z))
          (only_single (branch (main ∷ p) (join f (drawn_comment look (main ∷ p) k))) own (branch_only (main ∷ p) f own k (only_in m b s ms (main ∷ p) 0 c ls h.3)))
      only m b s ms p (t.if_stmt e u c d) (Live.branch_live z false k ls) h =
          let own = ties_in own_tie no_tie (otherwise ∷ p) 0 ls in
          let f = drawn_in app look ms (otherwise ∷ p) 0 d ls in
          only_piece (position p (pairs_at look z)) (single (branch (otherwise ∷ p) (join f (drawn_comment look (otherwise ∷ p) k)))) own (position_only p (pairs_at look z))
          (only_single (branch (otherwise ∷ p) (join f (drawn_comment look (otherwise ∷ p) k))) own (branch_only (otherwise ∷ p) f own k (only_in m b s ms (otherwise ∷ p) 0 d ls h.3)))
      only m b s ms p (t.each e key ns c d) (Live.listed z is) h =
          let own = ties_items own_tie no_tie (items ∷ p) is in
          let f = drawn_items app look ns ms c (items ∷ p) 0 is in
          let g = where_list (Only f own) _ (ListStands app σ τ look m b s ms p key ns c is) (λ us i. only_items m b s ms (items ∷ p) ns c _ is 0 i) h.1 in
          only_piece (position p (pairs_at look z)) (single (branch (items ∷ p) f)) own (position_only p (pairs_at look z))
          (only_single (branch (items ∷ p) f) own (λ y q i e'. elim i [ inl d' ↦ absurd (no_instance y (branch (items ∷ p) f) q d' (λ j. None) e') | inr d' ↦ g y q d' e' ]))
      only m b s ms p (t.each e key ns c d) (Live.unlisted z k ls) h =
          let own = ties_in own_tie no_tie (otherwise ∷ p) 0 ls in
          let f = drawn_in app look ms (otherwise ∷ p) 0 d ls in
          let g = where_else (Only f own) _ (ElseStands app σ τ look m b s ms p d k ls) (λ i. only_in m b s ms (otherwise ∷ p) 0 d ls i.1) h.1 in
          only_piece (position p (pairs_at look z)) (single (branch (otherwise ∷ p) (join f (drawn_comment look (otherwise ∷ p) k)))) own (position_only p (pairs_at look z))
          (only_single (branch (otherwise ∷ p) (join f (drawn_comment look (otherwise ∷ p) k))) own (branch_only (otherwise ∷ p) f own k g))
      only m b s ms p (t.let_stmt es ns c) (Live.let_live made rs ls) h = only_in m _ _ (with_names (named_as ns rs) ms) (main ∷ p) 0 c ls h.3
      only (suc m) b s ms p (t.component_stmt c ps given bs) (Live.component_live i made gm args (Some k) ls) h =
          let q0 = into c ∷ p in
          let inside = mscope i args [] (mpassed k ps bs ms) in
          let g = only_in m _ _ inside q0 0 (class_at app q0).template ls h.7 in
          let here = subst (λ j. Only (drawn_in app look inside j 0 (class_at app j).template ls) (ties_in own_tie no_tie j 0 ls)) (sym h.2) g in
          λ y q n e. elim n [
            | inl u ↦ elim u [
              | inl d ↦ inl (instance_is y _ q i.path d (λ j. Some i.path) e)
              | inr d ↦ inr (here y q d e)
            ]
            | inr u ↦ absurd u
          ]
      only zero b s ms p (t.component_stmt c ps given bs) (Live.deep_live q) h = only_single (too_deep q) [] (λ y j m' e. no_instance y (too_deep q) j m' (λ i. None) e)
      only m b s (mscope i a l mnothing) p (t.yield es n) (Live.yield_live k made rs ls) h = λ y q n' e. absurd n'
      only m b s (mscope i a l (mpassed kb ps bs ms)) p (t.yield es n) (Live.yield_live k made rs ls) h =
          let own = ties_in own_tie no_tie (slot k ∷ p) 0 ls in
          block_only (block_named n bs) (λ c. drawn_in app look (with_names (named_as c.params rs) ms) (slot k ∷ p) 0 c.body ls) own (BlockStands app σ τ look m b s (mscope i a l (mpassed kb ps bs ms)) p es n made rs ls) (ls ≡ Live.no_lives)
          (λ c j. subst (λ d. Only (drawn_in app look (with_names (named_as c.params rs) ms) (slot d ∷ p) 0 c.body ls) (ties_in own_tie no_tie (slot d ∷ p) 0 ls)) (sym h.0) (only_in m _ _ (with_names (named_as c.params rs) ms) (slot n ∷ p) 0 c.body ls j.3)) h.1
      only m b s ms p _ _ h = absurd h

      only_in : (m b : ℕ) (s : Scope) (ms : MScope) (p : Path) (i : ℕ) (c : t.Body) (ls : Lives) → StandIn app σ τ look m b s ms p i c ls → Only (drawn_in app look ms p i c ls) (ties_in own_tie no_tie p i ls)
      only_in m b s ms p i t.end Live.no_lives h = λ y q n e. n
      only_in m b s ms p i (t.stmt x c) (Live.live_and l ls) h =
          only_join (drawn app look ms (at i ∷ p) x l) (drawn_in app look ms p (suc i) c ls) (ties own_tie no_tie (at i ∷ p) l) (ties_in own_tie no_tie p (suc i) ls) (only m b s ms (at i ∷ p) x l h.0) (only_in m b s ms p (suc i) c ls h.1)
      only_in m b s ms p i _ _ h = absurd h

      only_items : (m b : ℕ) (s : Scope) (ms : MScope) (p : Path) (ns : List Text) (c : t.Body) (xs : List Entry) (is : Items) (i : ℕ) → ItemsStand app σ τ look m b s ms p ns c xs is
          → Only (drawn_items app look ns ms c p i is) (ties_items own_tie no_tie p is)
      only_items m b s ms p ns c [] Live.no_items i h = λ y q n e. n
      only_items m b s ms p ns c (x ∷ xs) (Live.item_live z k ls is) i h =
          let q0 = item x.key x.occurrence ∷ p in
          let q = step_of z ∷ p in
          let same : q ≡ q0 = ap₂ (λ a n. item a n ∷ p) h.0.0 h.0.1 in
          let inside = with_names (item_names ns z) ms in
          let own = ties_in own_tie no_tie q 0 ls in
          let rest = ties_items own_tie no_tie p is in
          let f = drawn_in app look inside q 0 c ls in
          let g = subst (λ j. Only (drawn_in app look inside j 0 c ls) (ties_in own_tie no_tie j 0 ls)) (sym same) (only_in m _ _ inside q0 0 c ls h.4) in
          λ y j n e. elim n [
            | inl u ↦ elim u [
              | inl d ↦ absurd (no_instance y _ j d (λ v. None) e)
              | inr d ↦ elim (in_join y f (drawn_comment look q k) d) [ inl a ↦ value_left j own rest (g y j a e) | inr a ↦ absurd (comment_only q k y j a e) ]
            ]
            | inr u ↦ value_right j own rest (only_items m b s ms p ns c xs is (suc i) h.5 y j u e)
          ]
      only_items m b s ms p ns c _ _ i h = absurd h

    root_only : (m : ℕ) (l : Live) → RootStands app σ τ look m l → Only (drawn_app app look l) (ties own_tie no_tie [] l)
    root_only (suc m) (Live.component_live i made gm args None ls) h =
        let inside = mscope i args [] mnothing in
        let here = subst (λ j. Only (drawn_in app look inside j 0 (class_at app j).template ls) (ties_in own_tie no_tie j 0 ls)) (sym h.1) (only_in m _ _ inside [] 0 (class_at app []).template ls h.5) in
        λ y q n e. elim n [
          | inl u ↦ elim u [
            | inl d ↦ inl (instance_is y _ q i.path d (λ j. Some i.path) e)
            | inr d ↦ inr (here y q d e)
          ]
          | inr u ↦ absurd u
        ]
    root_only zero (Live.deep_live q) h = only_single (too_deep q) [] (λ y j m' e. no_instance y (too_deep q) j m' (λ i. None) e)
    root_only _ _ h = absurd h

-- Cells of instances

held_in : (app : App) (σ : Store) (q : Path) (fs : List (Text × Plain)) (h : Held) → Among h (map (λ f. record { instance = q; field = f.0; value = cell_value app σ q f.0 }) fs) → h.instance ≡ q
held_in app σ q [] h m = absurd m
held_in app σ q (f ∷ fs) h (inl e) = ap (λ (x : Held). x.instance) e
held_in app σ q (f ∷ fs) h (inr m) = held_in app σ q fs h m

settled_in : (app : App) (σ : Store) (ps : List Path) (h : Held) → Among h (flat_map (cells_of app σ) ps) → Among h.instance ps
settled_in app σ [] h m = absurd m
settled_in app σ (q ∷ ps) h m = elim (among_either h (cells_of app σ q) (flat_map (cells_of app σ) ps) m) [
  | inl a ↦ inl (held_in app σ q (class_at app q).fields h a)
  | inr a ↦ inr (settled_in app σ ps h a)
]

pub settled_own : SettledOwn
settled_own app σ st l n = λ h m.
    let f = draw app σ in
    let s = n.stands st.touched in
    let a = found_in instance_path h.instance f (settled_in app σ (instances f) h m) in
    root_only app (state_with n.owner n.source st.touched st).look σ σ app.limit l s.stands a.0 h.instance
    (subst (In a.0) (sym (standing_shows app σ (state_with n.owner n.source st.touched st) l s)) a.1) a.2
