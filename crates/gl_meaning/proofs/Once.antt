-- In one rendering each path of a node stands once; so does each of a position, and each of a region.
use Rattle.gl_meaning.specs.Laws.{NoRepeat, InPiece, In, Within}
use Rattle.gl_meaning.specs.Known.{Among}
use Rattle.std.proofs.Common.{◌≡◌, ◌≤◌, ℕ, zero, suc, List, [], ◌∷◌, ◌++◌, map, cond, Bool, true, false, true≢false, Option, Some, None, refl, sym, ap, ap₂, ◌∙◌, subst, ◌⊎◌, inl, inr, arith}
use Rattle.std.specs.Prelude.{if◌then◌else◌, filter_map, filter, option_map, not}
use Rattle.std.specs.List.{cons_option}
use Rattle.std.specs.Str.{bytes_eq}
use Rattle.gl_base.specs.Texts.{Text}
use Rattle.gl_value.specs.Value
use Rattle.gl_ast.specs.Template
use Rattle.gl_meaning.specs.App.{App}
use Rattle.gl_meaning.specs.Path
use Rattle.gl_meaning.specs.Scope
use Rattle.gl_meaning.specs.Eval
use Rattle.gl_meaning.specs.Parts
use Rattle.gl_meaning.specs.Render
use Rattle.gl_meaning.specs.Changes
use Rattle.gl_meaning.proofs.Equal.{text_itself, same_itself, no_owners-Decides}
use Rattle.gl_meaning.proofs.Pieces.{among_either, filter_map_append, some_same, none_some, inner, pieces_inner, pieces_join, found_in, found_in_piece}
use Rattle.gl_meaning.proofs.Under.{within_itself, within_outer, steps_apart, not_below, Under, From, in_comment, parts_of, UnderComponents, UnderYields, under_stmt, under_body, under_yields, under_components, under_by, in_parts, IsPartStep}

-- Lists

pub no_repeat_append : {A : Type 0} (xs ys : List A) → NoRepeat xs → NoRepeat ys → ((i : A) → Among i xs → Among i ys → ⊥) → NoRepeat (xs ++ ys)
no_repeat_append [] ys a b h = b
no_repeat_append (x ∷ xs) ys a b h = ((λ m. elim (among_either x xs ys m) [ inl k ↦ a.0 k | inr k ↦ h x (inl refl) k ]), no_repeat_append xs ys a.1 b (λ i m n. h i (inr m) n))

among-filter : {A : Type 0} (test : A → Bool) (i : A) (xs : List A) → Among i (filter test xs) → Among i xs
among-filter test i [] m = m
among-filter test i (x ∷ xs) m = chosen (test x) (among-filter test i xs) m where
  chosen : (b : Bool) → (Among i (filter test xs) → Among i xs) → Among i (cond b (x ∷ filter test xs) (filter test xs)) → Among i (x ∷ xs)
  chosen true h (inl q) = inl q
  chosen true h (inr k) = inr (h k)
  chosen false h k = inr (h k)

no-repeat-filter : {A : Type 0} (test : A → Bool) (xs : List A) → NoRepeat xs → NoRepeat (filter test xs)
no-repeat-filter test [] h = tt
no-repeat-filter test (x ∷ xs) h = chosen (test x) (no-repeat-filter test xs h.1) where
  chosen : (b : Bool) → NoRepeat (filter test xs) → NoRepeat (cond b (x ∷ filter test xs) (filter test xs))
  chosen true k = ((λ m. h.0 (among-filter test x xs m)), k)
  chosen false k = k

-- Sorts of pieces, each with paths of its own

pub data Sort : Type 0 where
  node_sort : Sort
  position_sort : Sort
  region_sort : Sort

abbrev position_path : Render.Piece → Option Path.Path
position_path (Render.position i vs) = Some i
position_path _ = None

-- the path of a piece of this sort
abbrev pub pick : Sort → Render.Piece → Option Path.Path
pick node_sort q = Changes.node_path q
pick position_sort q = position_path q
pick region_sort q = Changes.region_path q

abbrev pub paths : Sort → Render.Forest → List Path.Path
paths k f = filter_map (pick k) (Changes.pieces f)

abbrev pub Once : Sort → Render.Forest → Type 0
Once k f = NoRepeat (paths k f)

node-picked : (q : Render.Piece) (i : Path.Path) → Changes.node_path q ≡ Some i → i ≡ Changes.piece_path q
node-picked (Render.element_node j n b m f) i q = sym (some_same j i q)
node-picked (Render.text_node j z) i q = sym (some_same j i q)
node-picked (Render.comment_node j z) i q = sym (some_same j i q)
node-picked (Render.component j w f) i q = absurd (none_some i q)
node-picked (Render.branch j f) i q = absurd (none_some i q)
node-picked (Render.item_region j v n f) i q = absurd (none_some i q)
node-picked (Render.position j vs) i q = absurd (none_some i q)
node-picked (Render.too_deep j) i q = absurd (none_some i q)

position-picked : (q : Render.Piece) (i : Path.Path) → position_path q ≡ Some i → i ≡ Changes.piece_path q
position-picked (Render.element_node j n b m f) i q = absurd (none_some i q)
position-picked (Render.text_node j z) i q = absurd (none_some i q)
position-picked (Render.comment_node j z) i q = absurd (none_some i q)
position-picked (Render.component j w f) i q = absurd (none_some i q)
position-picked (Render.branch j f) i q = absurd (none_some i q)
position-picked (Render.item_region j v n f) i q = absurd (none_some i q)
position-picked (Render.position j vs) i q = sym (some_same j i q)
position-picked (Render.too_deep j) i q = absurd (none_some i q)

region-picked : (q : Render.Piece) (i : Path.Path) → Changes.region_path q ≡ Some i → i ≡ Changes.piece_path q
region-picked (Render.element_node j n b m f) i q = absurd (none_some i q)
region-picked (Render.text_node j z) i q = absurd (none_some i q)
region-picked (Render.comment_node j z) i q = absurd (none_some i q)
region-picked (Render.component j w f) i q = sym (some_same j i q)
region-picked (Render.branch j f) i q = sym (some_same j i q)
region-picked (Render.item_region j v n f) i q = sym (some_same j i q)
region-picked (Render.position j vs) i q = absurd (none_some i q)
region-picked (Render.too_deep j) i q = absurd (none_some i q)

picked : (k : Sort) (q : Render.Piece) (i : Path.Path) → pick k q ≡ Some i → i ≡ Changes.piece_path q
picked node_sort q i o = node-picked q i o
picked position_sort q i o = position-picked q i o
picked region_sort q i o = region-picked q i o

-- each path of a sort is that of a piece
abbrev FromPiece : Path.Path → Render.Forest → Type 0
FromPiece i f = (x : Render.Piece) × In x f × (i ≡ Changes.piece_path x)

path-forest : (k : Sort) (i : Path.Path) (f : Render.Forest) → Among i (paths k f) → FromPiece i f
path-forest k i f m = let x = found_in (pick k) i f m in (x.0, x.1, picked k x.0 i x.2)

path-piece : (k : Sort) (i : Path.Path) (q : Render.Piece) → Among i (filter_map (pick k) (Changes.pieces_in q)) → (x : Render.Piece) × InPiece x q × (i ≡ Changes.piece_path x)
path-piece k i q m = let x = found_in_piece (pick k) i q m in (x.0, x.1, picked k x.0 i x.2)

-- nothing of the one has the path of anything of the other
abbrev Apart : Render.Forest → Render.Forest → Type 0
Apart f g = (x y : Render.Piece) → In x f → In y g → Changes.piece_path x ≡ Changes.piece_path y → ⊥

abbrev ApartFrom : Path.Path → Render.Forest → Type 0
ApartFrom i f = (x : Render.Piece) → In x f → Changes.piece_path x ≡ i → ⊥

abbrev AllFrom : Path.Path → Render.Forest → Type 0
AllFrom i f = (x : Render.Piece) → In x f → From 0 i (Changes.piece_path x)

-- each stands below i, by some step
abbrev AllBelow : Path.Path → Render.Forest → Type 0
AllBelow i f = (x : Render.Piece) → In x f → (l : Path.PathStep) × Within (l ∷ i) (Changes.piece_path x)

apart-below : (i : Path.Path) (f : Render.Forest) → AllBelow i f → ApartFrom i f
apart-below i f h x m q = let b = h x m in not_below b.0 i (subst (λ z. Within (b.0 ∷ i) z) q b.1)

below-from : (i : Path.Path) (f : Render.Forest) → AllFrom i f → AllBelow i f
below-from i f h x m = let b = h x m in (Path.at b.0, b.2)

below-by : (l : Path.PathStep) (i : Path.Path) (f : Render.Forest) → Under (l ∷ i) f → AllBelow i f
below-by l i f h x m = (l, h x m)

empty-at : (n : ℕ) → Path.empty ≡ Path.at n → ⊥
empty-at n q = cc

below-comment : (i : Path.Path) (f : Render.Forest) → AllFrom i f → AllBelow i (Render.or_comment i f)
below-comment i f u x m = elim (in_comment x i f m) [ inl o ↦ below-from i f u x o | inr q ↦ (Path.empty, under_by (Path.empty ∷ i) q (within_itself (Path.empty ∷ i))) ]

under-itself : (l : Path.PathStep) (i : Path.Path) (f : Render.Forest) → AllFrom (l ∷ i) f → Under (l ∷ i) (Render.region_at (l ∷ i) f)
under-itself l i f u x (inl (inl q)) = under_by (l ∷ i) q (within_itself (l ∷ i))
under-itself l i f u x (inl (inr m)) = let b = below-comment (l ∷ i) f u x m in within_outer b.0 (l ∷ i) _ b.1
under-itself l i f u x (inr m) = absurd m

module _ (k : Sort) where
  paths-join : (f g : Render.Forest) → paths k (Render.join f g) ≡ paths k f ++ paths k g
  paths-join f g = ap (filter_map (pick k)) (pieces_join f g) ∙ filter_map_append (pick k) (Changes.pieces f) (Changes.pieces g)

  once-join : (f g : Render.Forest) → Once k f → Once k g → Apart f g → Once k (Render.join f g)
  once-join f g a b h =
      subst NoRepeat (sym (paths-join f g)) (no_repeat_append (paths k f) (paths k g) a b (λ i m n. let x = path-forest k i f m in let y = path-forest k i g n in h x.0 y.0 x.1 y.1 (sym x.2 ∙ y.2)))

  -- a piece over what is in it
  once-over : (q : Render.Piece) → Once k (inner q) → ApartFrom (Changes.piece_path q) (inner q) → NoRepeat (filter_map (pick k) (Changes.pieces_in q))
  once-over q a h = subst (λ z. NoRepeat (filter_map (pick k) z)) (sym (pieces_inner q)) (chosen (pick k q) refl) where
    chosen : (o : Option Path.Path) → pick k q ≡ o → NoRepeat (cons_option o (paths k (inner q)))
    chosen None n = a
    chosen (Some i) n = ((λ m. let x = path-forest k i (inner q) m in h x.0 x.1 (sym x.2 ∙ picked k q i n)), a)

  once-piece : (q : Render.Piece) (f : Render.Forest) → NoRepeat (filter_map (pick k) (Changes.pieces_in q)) → Once k f → ((x y : Render.Piece) → InPiece x q → In y f → Changes.piece_path x ≡ Changes.piece_path y → ⊥) → Once k (Render.piece q f)
  once-piece q f a b h =
      subst NoRepeat (sym (filter_map_append (pick k) (Changes.pieces_in q) (Changes.pieces f))) (no_repeat_append _ (paths k f) a b (λ i m n. let x = path-piece k i q m in let y = path-forest k i f n in h x.0 y.0 x.1 y.1 (sym x.2 ∙ y.2)))

  once-single : (q : Render.Piece) → Once k (inner q) → ApartFrom (Changes.piece_path q) (inner q) → Once k (Render.single q)
  once-single q a h = once-piece q Render.no_pieces (once-over q a h) tt (λ x y m n o. n)

  -- a position, and what stands below its path
  once-position : (i : Path.Path) (vs : List Scope.Pair) (f : Render.Forest) → Once k f → AllBelow i f → Once k (Render.piece (Render.position i vs) f)
  once-position i vs f a h = once-piece (Render.position i vs) f (once-over (Render.position i vs) tt (λ x m q. m)) a (λ x y m n q. apart-below i f h y n (sym q ∙ ap Changes.piece_path m))

  once-comment : (i : Path.Path) (f : Render.Forest) → AllFrom i f → Once k f → Once k (Render.or_comment i f)
  once-comment i f u h = once-join f (if Render.has_node f then Render.no_pieces else Render.single (Render.comment_node (Path.empty ∷ i) [])) h (chosen (Render.has_node f)) (λ x y m n q. apart (Render.has_node f) x y m n q) where
    chosen : (b : Bool) → Once k (if b then Render.no_pieces else Render.single (Render.comment_node (Path.empty ∷ i) []))
    chosen true = tt
    chosen false = once-single (Render.comment_node (Path.empty ∷ i) []) tt (λ x m q. m)

    apart : (b : Bool) (x y : Render.Piece) → In x f → In y (if b then Render.no_pieces else Render.single (Render.comment_node (Path.empty ∷ i) [])) → Changes.piece_path x ≡ Changes.piece_path y → ⊥
    apart true x y m n q = n
    apart false x y m (inl n) q = let o = u x m in empty-at o.0 (steps_apart Path.empty (Path.at o.0) i (Changes.piece_path x) (subst (λ z. Within (Path.empty ∷ i) z) (sym (q ∙ ap Changes.piece_path n)) (within_itself (Path.empty ∷ i))) o.2)
    apart false x y m (inr n) q = n

  once-region : (i : Path.Path) (f : Render.Forest) → AllFrom i f → Once k f → Once k (Render.region_at i f)
  once-region i f u h = once-single (Render.branch i (Render.or_comment i f)) (once-comment i f u h) (apart-below i (Render.or_comment i f) (below-comment i f u))

  once-put : (i : Path.Path) (v : Scope.Pair) → Once k (Render.put_of i v)
  once-put i v = by-sort k where
    by-sort : (k : Sort) → Once k (Render.put_of i v)
    by-sort node_sort = ((λ m. m), tt)
    by-sort position_sort = ((λ m. m), tt)
    by-sort region_sort = tt

  once-if : (i : Path.Path) (b : Bool) (f g : Render.Forest) → AllFrom (Path.main ∷ i) f → AllFrom (Path.otherwise ∷ i) g → Once k f → Once k g → Once k (if b then Render.region_at (Path.main ∷ i) f else Render.region_at (Path.otherwise ∷ i) g)
  once-if i true f g u w a b = once-region (Path.main ∷ i) f u a
  once-if i false f g u w a b = once-region (Path.otherwise ∷ i) g w b

below-if : (i : Path.Path) (b : Bool) (f g : Render.Forest) → AllFrom (Path.main ∷ i) f → AllFrom (Path.otherwise ∷ i) g → AllBelow i (if b then Render.region_at (Path.main ∷ i) f else Render.region_at (Path.otherwise ∷ i) g)
below-if i true f g u w = below-by Path.main i (Render.region_at (Path.main ∷ i) f) (under-itself Path.main i f u)
below-if i false f g u w = below-by Path.otherwise i (Render.region_at (Path.otherwise ∷ i) g) (under-itself Path.otherwise i g w)

-- The parts of an element

step-name : Path.PathStep → Text
step-name (Path.attribute_at n) = n
step-name _ = []

step-number : Path.PathStep → ℕ
step-number (Path.modifier_at n) = n
step-number _ = 0

last-step : Path.Path → Path.PathStep
last-step [] = Path.main
last-step (l ∷ i) = l

IsAttribute : List Text → Path.Path → Render.Piece → Type 0
IsAttribute ns i x = (n : Text) × Among n ns × (Changes.piece_path x ≡ Path.attribute_at n ∷ i)

IsModifier : ℕ → Path.Path → Render.Piece → Type 0
IsModifier n i x = (m : ℕ) × (n ≤ m) × (Changes.piece_path x ≡ Path.modifier_at m ∷ i)

is-attribute : (pairs : Text → List Scope.Pair) (i : Path.Path) (ns : List Text) (x : Render.Piece) → In x (Render.forest_of (map (λ n. Render.position (Path.attribute_at n ∷ i) (pairs n)) ns)) → IsAttribute ns i x
unfolding IsAttribute
is-attribute pairs i [] x m = absurd m
is-attribute pairs i (n ∷ ns) x (inl q) = (n, inl refl, ap Changes.piece_path q)
is-attribute pairs i (n ∷ ns) x (inr m) = let a = is-attribute pairs i ns x m in (a.0, inr a.1, a.2)

is-modifier : (app : App) (σ : Eval.Store) (i : Path.Path) (n : ℕ) (ws : List (Parts.WrittenModifier Scope.Scope)) (x : Render.Piece) → In x (Render.forest_of (Render.modifier_positions (Parts.modifiers_of app σ i n ws))) → IsModifier n i x
unfolding IsModifier
is-modifier app σ i n [] x m = absurd m
is-modifier app σ i n (w ∷ ws) x (inl q) = (n, omega arith, ap Changes.piece_path q)
is-modifier app σ i n (w ∷ ws) x (inr m) = let h = is-modifier app σ i (suc n) ws x m in let g : suc n ≤ h.0 = h.1 in (h.0, omega arith, h.2)

distinct-names : (ws : List (Parts.WrittenValue Scope.Scope)) → NoRepeat (Parts.distinct_names ws)
distinct-names [] = tt
distinct-names (w ∷ ws) = (absent w.name (Parts.distinct_names ws), no-repeat-filter (λ n. not (bytes_eq w.name n)) (Parts.distinct_names ws) (distinct-names ws)) where
  absent : (x : Text) (ns : List Text) → Among x (filter (λ n. not (bytes_eq x n)) ns) → ⊥
  absent x [] m = m
  absent x (n ∷ ns) m = chosen (bytes_eq x n) refl (absent x ns) m where
    chosen : (b : Bool) → bytes_eq x n ≡ b → (Among x (filter (λ n. not (bytes_eq x n)) ns) → ⊥) → Among x (cond (not b) (n ∷ filter (λ n. not (bytes_eq x n)) ns) (filter (λ n. not (bytes_eq x n)) ns)) → ⊥
    chosen true o h l = h l
    chosen false o h (inl l) = true≢false (sym (text_itself x) ∙ (ap (bytes_eq x) l ∙ o))
    chosen false o h (inr l) = h l

module _ (k : Sort) (app : App) (σ : Eval.Store) where
  once-attributes : (pairs : Text → List Scope.Pair) (i : Path.Path) (ns : List Text) → NoRepeat ns → Once k (Render.forest_of (map (λ n. Render.position (Path.attribute_at n ∷ i) (pairs n)) ns))
  unfolding IsAttribute step-name last-step
  once-attributes pairs i [] d = tt
  once-attributes pairs i (n ∷ ns) d =
      once-piece k (Render.position (Path.attribute_at n ∷ i) (pairs n)) _ (once-over k (Render.position (Path.attribute_at n ∷ i) (pairs n)) tt (λ x m q. m)) (once-attributes pairs i ns d.1)
      (λ x y m l q. let a = is-attribute pairs i ns y l in d.0 (subst (λ z. Among z ns) (sym (ap (λ j. step-name (last-step j)) (sym (ap Changes.piece_path m) ∙ (q ∙ a.2)))) a.1))

  once-modifiers : (i : Path.Path) (n : ℕ) (ws : List (Parts.WrittenModifier Scope.Scope)) → Once k (Render.forest_of (Render.modifier_positions (Parts.modifiers_of app σ i n ws)))
  unfolding IsModifier step-number last-step
  once-modifiers i n [] = tt
  once-modifiers i n (w ∷ ws) =
      once-piece k (Render.position (Path.modifier_at n ∷ i) _) (Render.forest_of (Render.modifier_positions (Parts.modifiers_of app σ i (suc n) ws))) (once-over k (Render.position (Path.modifier_at n ∷ i) _) tt (λ x m q. m)) (once-modifiers i (suc n) ws)
      (λ x y m l q. let a = is-modifier app σ i (suc n) ws y l in let g : suc n ≤ a.0 = a.1 in let o : n ≡ a.0 = ap (λ j. step-number (last-step j)) (sym (ap Changes.piece_path m) ∙ (q ∙ a.2)) in omega arith)

  forest-append : (qs rs : List Render.Piece) → Render.forest_of (qs ++ rs) ≡ Render.join (Render.forest_of qs) (Render.forest_of rs)
  forest-append [] rs = refl
  forest-append (q ∷ qs) rs = ap (Render.piece q) (forest-append qs rs)

  attribute-modifier : (i : Path.Path) (n : Text) (m : ℕ) → Path.attribute_at n ∷ i ≡ Path.modifier_at m ∷ i → ⊥
  unfolding last-step
  attribute-modifier i n m q = let h : Path.attribute_at n ≡ Path.modifier_at m = ap last-step q in cc

  once-parts : (i : Path.Path) (ws : List (Parts.Written Scope.Scope)) → Once k (Render.forest_of (parts_of app σ i ws))
  unfolding IsAttribute IsModifier
  once-parts i ws =
      let us = Parts.attributes_in ws in let pairs = Parts.taken_pairs app σ us in
      let ns = filter (λ n. Parts.some_live (Parts.taken_values n us)) (Parts.distinct_names us) in
      let ms = Render.modifier_positions (Parts.modifiers_of app σ i 0 (Parts.modifiers_in ws)) in
      subst (Once k) (sym (forest-append (Render.attr_positions i us pairs) ms))
      (once-join k (Render.forest_of (Render.attr_positions i us pairs)) (Render.forest_of ms) (once-attributes pairs i ns (no-repeat-filter _ (Parts.distinct_names us) (distinct-names us))) (once-modifiers i 0 (Parts.modifiers_in ws))
      (λ x y m l q. let a = is-attribute pairs i ns x m in let b = is-modifier app σ i 0 (Parts.modifiers_in ws) y l in attribute-modifier i a.0 b.0 (sym a.2 ∙ (q ∙ b.2))))

  part-apart : (i : Path.Path) (l : Path.PathStep) → IsPartStep l → (j : Path.Path) → Within (l ∷ i) j → (j ≡ i) ⊎ ((n : ℕ) × Within (Path.at n ∷ i) j) → ⊥
  part-apart i l h j w (inl q) = not_below l i (subst (λ z. Within (l ∷ i) z) q w)
  part-apart i (Path.attribute_at m) h j w (inr b) = let q = steps_apart (Path.attribute_at m) (Path.at b.0) i j w b.1 in cc
  part-apart i (Path.modifier_at m) h j w (inr b) = let q = steps_apart (Path.modifier_at m) (Path.at b.0) i j w b.1 in cc
  part-apart i (Path.at m) h j w (inr b) = h
  part-apart i Path.main h j w (inr b) = h
  part-apart i Path.otherwise h j w (inr b) = h
  part-apart i Path.items h j w (inr b) = h
  part-apart i (Path.item z m) h j w (inr b) = h
  part-apart i (Path.into m) h j w (inr b) = h
  part-apart i (Path.slot m) h j w (inr b) = h
  part-apart i Path.empty h j w (inr b) = h

  once-element : (i : Path.Path) (tag : Text) (ws : List (Parts.Written Scope.Scope)) (f : Render.Forest) → AllFrom i f → Once k f → Once k (Render.element_of app σ i tag ws f)
  once-element i tag ws f u h =
      let vs = Parts.attributes_in ws in let pairs = Parts.taken_pairs app σ vs in let ms = Parts.modifiers_of app σ i 0 (Parts.modifiers_in ws) in
      let el = Render.element_node i tag (Parts.attrs_from vs pairs) ms f in
      once-join k (Render.forest_of (parts_of app σ i ws)) (Render.single el) (once-parts i ws) (once-single k el h (apart-below i f (below-from i f u)))
      (λ x y m n q. let a = in_parts app σ x i ws m in part-apart i a.0 a.2 (Changes.piece_path y) (subst (λ z. Within (a.0 ∷ i) z) (sym (ap Changes.piece_path a.3) ∙ q) (within_itself (a.0 ∷ i))) (where-is y n))
    where
      where-is : (y : Render.Piece) → In y (Render.single (Render.element_node i tag (Parts.attrs_from (Parts.attributes_in ws) (Parts.taken_pairs app σ (Parts.attributes_in ws))) (Parts.modifiers_of app σ i 0 (Parts.modifiers_in ws)) f))
          → (Changes.piece_path y ≡ i) ⊎ ((n : ℕ) × Within (Path.at n ∷ i) (Changes.piece_path y))
      where-is y (inl (inl q)) = inl (ap Changes.piece_path q)
      where-is y (inl (inr m)) = let b = u y m in inr (b.0, b.2)
      where-is y (inr m) = absurd m

-- Items

-- the keys of a list, with their occurrences, are distinct
abbrev pub step_of : Render.Entry → Path.PathStep
step_of x = Path.item x.key x.occurrence

abbrev pub Later : Template.Plain → ℕ → List Render.Entry → Type 0
Later k n [] = Unit {0}
Later k n (x ∷ xs) = (x.key ≡ k → n ≤ x.occurrence) × Later k n xs

pub occurrences-more : (k : Template.Plain) (l : Template.Plain) (ls : List Template.Plain) → Render.occurrences k ls ≤ Render.occurrences k (l ∷ ls)
occurrences-more k l ls = chosen (Value.same Path.no_owners k l) where
  chosen : (b : Bool) → Render.occurrences k ls ≤ (if b then suc (Render.occurrences k ls) else Render.occurrences k ls)
  chosen true = omega arith
  chosen false = omega arith

pub later : (key : Text) (k : Template.Plain) (n i : ℕ) (before : List Template.Plain) (vs : Value.Values Path.Path) → n ≤ Render.occurrences k before → Later k n (Render.entries key i before vs)
later key k n i before Value.no_values h = tt
later key k n i before (Value.value x vs) h = (
  (λ q. subst (λ z. n ≤ Render.occurrences z before) (sym q) h),
  later key k n (suc i) (Value.key_of key i x ∷ before) vs (let g : Render.occurrences k before ≤ Render.occurrences k (Value.key_of key i x ∷ before) = occurrences-more k (Value.key_of key i x) before in omega arith),
)

abbrev pub Distinct : List Render.Entry → Type 0
Distinct [] = Unit {0}
Distinct (x ∷ xs) = Later x.key (suc x.occurrence) xs × Distinct xs

pub distinct : (key : Text) (i : ℕ) (before : List Template.Plain) (vs : Value.Values Path.Path) → Distinct (Render.entries key i before vs)
distinct key i before Value.no_values = tt
distinct key i before (Value.value x vs) =
    let k = Value.key_of key i x in (
      later key k (suc (Render.occurrences k before)) (suc i) (k ∷ before) vs
          (let q : Value.same Path.no_owners k k ≡ true = same_itself ⊥ Path.no_owners no_owners-Decides k in subst (λ b. suc (Render.occurrences k before) ≤ (if b then suc (Render.occurrences k before) else Render.occurrences k before)) (sym q) (omega arith)),
      distinct key (suc i) (k ∷ before) vs,
    )

item-key : Path.PathStep → Template.Plain
item-key (Path.item k n) = k
item-key _ = Value.undefined

item-number : Path.PathStep → ℕ
item-number (Path.item k n) = n
item-number _ = 0

abbrev region_of : (Path.Path → Render.Entry → Render.Forest) → Path.Path → Render.Entry → Render.Piece
region_of one i x = Render.item_region (step_of x ∷ i) x.value x.index (Render.or_comment (step_of x ∷ i) (one (step_of x ∷ i) x))

module _ (k : Sort) (one : Path.Path → Render.Entry → Render.Forest) (u : (i : Path.Path) (x : Render.Entry) → AllFrom i (one i x)) (h : (i : Path.Path) (x : Render.Entry) → Once k (one i x)) where
  in-region : (i : Path.Path) (z : Render.Entry) (x : Render.Piece) → InPiece x (region_of one i z) → Within (step_of z ∷ i) (Changes.piece_path x)
  in-region i z x (inl q) = under_by (step_of z ∷ i) q (within_itself (step_of z ∷ i))
  in-region i z x (inr m) = let b = below-comment (step_of z ∷ i) (one (step_of z ∷ i) z) (u (step_of z ∷ i) z) x m in within_outer b.0 (step_of z ∷ i) _ b.1

  apart-later : (i : Path.Path) (z : Render.Entry) (zs : List Render.Entry) → Later z.key (suc z.occurrence) zs → (x y : Render.Piece) → InPiece x (region_of one i z) → In y (Render.render_entries one i zs) → Changes.piece_path x ≡ Changes.piece_path y → ⊥
  unfolding item-key item-number
  apart-later i z [] l x y m n q = n
  apart-later i z (w ∷ zs) l x y m (inl n) q =
      let same : step_of w ≡ step_of z = steps_apart (step_of w) (step_of z) i (Changes.piece_path y) (in-region i w y n) (subst (λ b. Within (step_of z ∷ i) b) q (in-region i z x m)) in
      let g : suc z.occurrence ≤ w.occurrence = l.0 (ap item-key same) in
      let e : w.occurrence ≡ z.occurrence = ap item-number same in
      omega arith
  apart-later i z (w ∷ zs) l x y m (inr n) q = apart-later i z zs l.1 x y m n q

  once-entries : (i : Path.Path) (zs : List Render.Entry) → Distinct zs → Once k (Render.render_entries one i zs)
  once-entries i [] d = tt
  once-entries i (z ∷ zs) d =
      let j = step_of z ∷ i in let f = one j z in
      once-piece k (region_of one i z) (Render.render_entries one i zs) (once-over k (region_of one i z) (once-comment k j f (u j z) (h j z)) (apart-below j (Render.or_comment j f) (below-comment j f (u j z)))) (once-entries i zs d.1) (apart-later i z zs d.0)

  below-entries : (i : Path.Path) (zs : List Render.Entry) → AllBelow i (Render.render_entries one i zs)
  below-entries i [] x m = absurd m
  below-entries i (z ∷ zs) x (inl m) = (step_of z, in-region i z x m)
  below-entries i (z ∷ zs) x (inr m) = below-entries i zs x m

once-items : (k : Sort) (i : Path.Path) (vs : Value.Values Path.Path) (f : Value.Values Path.Path → Render.Forest) (o : Render.Forest) → AllFrom (Path.otherwise ∷ i) o → ((vs : Value.Values Path.Path) → AllBelow (Path.items ∷ i) (f vs)) → ((vs : Value.Values Path.Path) → Once k (f vs)) → Once k o → Once k (Render.items_or_else i vs f o)
once-items k i Value.no_values f o u w a b = once-region k (Path.otherwise ∷ i) o u b
once-items k i (Value.value x vs) f o u w a b = once-single k (Render.branch (Path.items ∷ i) (f (Value.value x vs))) (a (Value.value x vs)) (apart-below (Path.items ∷ i) (f (Value.value x vs)) (w (Value.value x vs)))

below-items : (i : Path.Path) (vs : Value.Values Path.Path) (f : Value.Values Path.Path → Render.Forest) (o : Render.Forest) → AllFrom (Path.otherwise ∷ i) o → ((vs : Value.Values Path.Path) → AllBelow (Path.items ∷ i) (f vs)) → AllBelow i (Render.items_or_else i vs f o)
below-items i Value.no_values f o u w x m = (Path.otherwise, under-itself Path.otherwise i o u x m)
below-items i (Value.value y vs) f o u w x (inl (inl q)) = (Path.items, under_by (Path.items ∷ i) q (within_itself (Path.items ∷ i)))
below-items i (Value.value y vs) f o u w x (inl (inr m)) = let b = w (Value.value y vs) x m in (Path.items, within_outer b.0 (Path.items ∷ i) _ b.1)
below-items i (Value.value y vs) f o u w x (inr m) = absurd m

-- Templates

at-number : Path.PathStep → ℕ
at-number (Path.at n) = n
at-number _ = 0

module _ (k : Sort) (app : App) (σ : Eval.Store) where
  abbrev OnceComponents : Render.Components → Type 0
  OnceComponents d = (i : Path.Path) (gs : Scope.NamedPairs) (w : Scope.Passed) → Once k (d i gs w)

  abbrev OnceYields : Render.Yields → Type 0
  OnceYields y = (n : Text) (vs : List Scope.Pair) (i : Path.Path) → Once k (y n vs i)

  module _ (d : Render.Components) (y : Render.Yields) (ud : UnderComponents d) (uy : UnderYields y) (hd : OnceComponents d) (hy : OnceYields y) where
    apart-rest : (q : Template.Stmt) (b : Template.Body) (w : Scope.Scope) (i : Path.Path) (n : ℕ) → Apart (Render.render_stmt app σ d y w (Path.at n ∷ i) q) (Render.render_body app σ d y w i (suc n) b)
    unfolding at-number
    apart-rest q b w i n x z m l o =
        let f = under_body app σ d y ud uy b w i (suc n) z l in
        let g : suc n ≤ f.0 = f.1 in
        let e : n ≡ f.0 = ap at-number (steps_apart (Path.at n) (Path.at f.0) i (Changes.piece_path z) (subst (λ j. Within (Path.at n ∷ i) j) o (under_stmt app σ d y ud uy q w (Path.at n ∷ i) x m)) f.2) in
        omega arith

    abbrev body_at : Scope.Scope → Path.Path → Template.Body → Render.Forest
    body_at w i b = Render.render_body app σ d y w i 0 b

    body-from : (b : Template.Body) (w : Scope.Scope) (i : Path.Path) → AllFrom i (body_at w i b)
    body-from b w i x m = under_body app σ d y ud uy b w i 0 x m

    mutual
      once-stmt : (q : Template.Stmt) (w : Scope.Scope) (i : Path.Path) → Once k (Render.render_stmt app σ d y w i q)
      once-stmt (Template.text_stmt z) w i = once-single k (Render.text_node i z) tt (λ x m q. m)
      once-stmt (Template.comment_stmt z) w i = once-single k (Render.comment_node i z) tt (λ x m q. m)
      once-stmt (Template.put z) w i = once-put k i (Eval.eval app σ w z)
      once-stmt (Template.element tag ps b) w i = once-element k app σ i tag (Parts.written_parts w ps) (body_at w i b) (body-from b w i) (once-body b w i 0)
      once-stmt (Template.component_stmt n ps gs bs) w i = hd (Path.into n ∷ i) (Eval.eval_given app σ w gs) (Scope.passed ps bs w)
      once-stmt (Template.if_stmt z u b o) w i =
          let f = body_at w (Path.main ∷ i) b in let g = body_at w (Path.otherwise ∷ i) o in let v = Eval.eval app σ w z in let t = Eval.takes_first u v.value in
          let uf = body-from b w (Path.main ∷ i) in let ug = body-from o w (Path.otherwise ∷ i) in
          once-position k i (v ∷ []) (if t then Render.region_at (Path.main ∷ i) f else Render.region_at (Path.otherwise ∷ i) g) (once-if k i t f g uf ug (once-body b w (Path.main ∷ i) 0) (once-body o w (Path.otherwise ∷ i) 0)) (below-if i t f g uf ug)
      once-stmt (Template.each z key ns b o) w i =
          let v = Eval.eval app σ w z in let vs = Render.values_listed v.value in let g = body_at w (Path.otherwise ∷ i) o in let ug = body-from o w (Path.otherwise ∷ i) in
          let inside : Path.Path → Render.Entry → Scope.Scope = λ q x. Scope.with_locals (Scope.bind ns (Render.entry_pairs q x)) w in
          let one : Path.Path → Render.Entry → Render.Forest = λ q x. body_at (inside q x) q b in
          let u : (q : Path.Path) (x : Render.Entry) → AllFrom q (one q x) = λ q x. body-from b (inside q x) q in
          let h : (q : Path.Path) (x : Render.Entry) → Once k (one q x) = λ q x. once-body b (inside q x) q 0 in
          let f : Value.Values Path.Path → Render.Forest = λ ws. Render.render_entries one (Path.items ∷ i) (Render.entries key 0 [] ws) in
          let uf : (ws : Value.Values Path.Path) → AllBelow (Path.items ∷ i) (f ws) = λ ws. below-entries k one u h (Path.items ∷ i) (Render.entries key 0 [] ws) in
          once-position k i (v ∷ []) (Render.items_or_else i vs f g)
          (once-items k i vs f g ug uf (λ ws. once-entries k one u h (Path.items ∷ i) (Render.entries key 0 [] ws) (distinct key 0 [] ws)) (once-body o w (Path.otherwise ∷ i) 0))
          (below-items i vs f g ug uf)
      once-stmt (Template.let_stmt es ns b) w i = once-body b (Scope.with_locals (Scope.bind ns (Eval.eval_all app σ w es)) w) (Path.main ∷ i) 0
      once-stmt (Template.yield es n) w i = hy n (Eval.eval_all app σ w es) i

      once-body : (b : Template.Body) (w : Scope.Scope) (i : Path.Path) (n : ℕ) → Once k (Render.render_body app σ d y w i n b)
      once-body Template.end w i n = tt
      once-body (Template.stmt q b) w i n = once-join k (Render.render_stmt app σ d y w (Path.at n ∷ i) q) (Render.render_body app σ d y w i (suc n) b) (once-stmt q w (Path.at n ∷ i)) (once-body b w i (suc n)) (apart-rest q b w i n)

  once-block : (b : Option Render.Block) (f : Render.Block → Render.Forest) → ((b : Render.Block) → Once k (f b)) → Once k (Render.in_block b f)
  once-block None f h = tt
  once-block (Some b) f h = h b

  once-yields : (d : Render.Components) → UnderComponents d → OnceComponents d → (w : Scope.Passed) → OnceYields (Render.yields_of app σ d w)
  once-yields d u h Scope.nothing_passed n vs i = tt
  once-yields d u h (Scope.passed ps bs (Scope.scope j b l w)) n vs i =
      once-block (Render.block_named n bs) (λ z. Render.render_body app σ d (Render.yields_of app σ d w) (Scope.scope j b (l ++ Scope.bind z.params vs) w) (Path.slot n ∷ i) 0 z.body)
      (λ z. once-body d (Render.yields_of app σ d w) u (under_yields app σ d u w) h (once-yields d u h w) z.body (Scope.scope j b (l ++ Scope.bind z.params vs) w) (Path.slot n ∷ i) 0)

  once-components : (n : ℕ) → OnceComponents (Render.components_at n app σ)
  once-components zero i gs w = once-single k (Render.too_deep i) tt (λ x m q. m)
  once-components (suc n) i gs w =
      let d = Render.components_at n app σ in let z = Scope.scope i gs [] w in let ud = under_components app σ n in let uy = under_yields app σ d ud w in
      let f = Render.render_body app σ d (Render.yields_of app σ d w) z i 0 (Eval.class_at app i).template in
      once-single k (Render.component i z f)
      (once-body d (Render.yields_of app σ d w) ud uy (once-components n) (once-yields d ud (once-components n) w) (Eval.class_at app i).template z i 0)
      (apart-below i f (below-from i f (λ x m. under_body app σ d (Render.yields_of app σ d w) ud uy (Eval.class_at app i).template z i 0 x m)))

  pub draw_once : Once k (Render.draw app σ)
  draw_once = once-components app.limit [] [] Scope.nothing_passed

-- Paths of the lists

-- a pick that gives what another gives, or nothing
abbrev Finer : (Render.Piece → Option Path.Path) → (Render.Piece → Option Path.Path) → Type 0
Finer g h = (q : Render.Piece) → (g q ≡ None) ⊎ (g q ≡ h q)

module _ (g h : Render.Piece → Option Path.Path) (finer : Finer g h) where
  among-finer : (i : Path.Path) (qs : List Render.Piece) → Among i (filter_map g qs) → Among i (filter_map h qs)
  among-finer i [] m = m
  among-finer i (q ∷ qs) m = elim (finer q) [
    | inl n ↦ later (h q) (among-finer i qs (subst (λ o. Among i (cons_option o (filter_map g qs))) n m))
    | inr n ↦ both (h q) (among-finer i qs) (subst (λ o. Among i (cons_option o (filter_map g qs))) n m)
  ] where
    later : (o : Option Path.Path) → Among i (filter_map h qs) → Among i (cons_option o (filter_map h qs))
    later None k = k
    later (Some j) k = inr k

    both : (o : Option Path.Path) → (Among i (filter_map g qs) → Among i (filter_map h qs)) → Among i (cons_option o (filter_map g qs)) → Among i (cons_option o (filter_map h qs))
    both None k n = k n
    both (Some j) k (inl n) = inl n
    both (Some j) k (inr n) = inr (k n)

  no-repeat-finer : (qs : List Render.Piece) → NoRepeat (filter_map h qs) → NoRepeat (filter_map g qs)
  no-repeat-finer [] d = tt
  no-repeat-finer (q ∷ qs) d = elim (finer q) [
    | inl n ↦ subst (λ o. NoRepeat (cons_option o (filter_map g qs))) (sym n) (no-repeat-finer qs (rest (h q) d))
    | inr n ↦ subst (λ o. NoRepeat (cons_option o (filter_map g qs))) (sym n) (both (h q) (no-repeat-finer qs) d)
  ] where
    rest : (o : Option Path.Path) → NoRepeat (cons_option o (filter_map h qs)) → NoRepeat (filter_map h qs)
    rest None k = k
    rest (Some j) k = k.1

    both : (o : Option Path.Path) → (NoRepeat (filter_map h qs) → NoRepeat (filter_map g qs)) → NoRepeat (cons_option o (filter_map h qs)) → NoRepeat (cons_option o (filter_map g qs))
    both None k n = k n
    both (Some j) k n = ((λ m. n.0 (among-finer j qs m)), k n.1)

instance-finer : Finer Changes.instance_path Changes.region_path
instance-finer (Render.component i w f) = inr refl
instance-finer (Render.element_node i n b m f) = inl refl
instance-finer (Render.text_node i z) = inl refl
instance-finer (Render.comment_node i z) = inl refl
instance-finer (Render.branch i f) = inl refl
instance-finer (Render.item_region i v n f) = inl refl
instance-finer (Render.position i vs) = inl refl
instance-finer (Render.too_deep i) = inl refl

abbrev item_path : Render.Piece → Option Path.Path
item_path (Render.item_region i v n f) = Some i
item_path _ = None

item-finer : Finer item_path Changes.region_path
item-finer (Render.item_region i v n f) = inr refl
item-finer (Render.component i w f) = inl refl
item-finer (Render.element_node i n b m f) = inl refl
item-finer (Render.text_node i z) = inl refl
item-finer (Render.comment_node i z) = inl refl
item-finer (Render.branch i f) = inl refl
item-finer (Render.position i vs) = inl refl
item-finer (Render.too_deep i) = inl refl

map-cons : {A : Type 0} (path : A → Path.Path) (o : Option A) (xs : List A) → map path (cons_option o xs) ≡ cons_option (option_map path o) (map path xs)
map-cons path None xs = refl
map-cons path (Some x) xs = refl

items-paths : (qs : List Render.Piece) → map (λ x. x.path) (filter_map Changes.item_in qs) ≡ filter_map item_path qs
items-paths [] = refl
items-paths (q ∷ qs) = map-cons (λ x. x.path) (Changes.item_in q) (filter_map Changes.item_in qs) ∙ ap₂ cons_option (of-one q) (items-paths qs) where
  of-one : (q : Render.Piece) → option_map (λ x. x.path) (Changes.item_in q) ≡ item_path q
  of-one (Render.item_region i v n f) = refl
  of-one (Render.component i w f) = refl
  of-one (Render.element_node i n b m f) = refl
  of-one (Render.text_node i z) = refl
  of-one (Render.comment_node i z) = refl
  of-one (Render.branch i f) = refl
  of-one (Render.position i vs) = refl
  of-one (Render.too_deep i) = refl

positions-paths : (qs : List Render.Piece) → map (λ x. x.path) (filter_map Changes.position_in qs) ≡ filter_map position_path qs
positions-paths [] = refl
positions-paths (q ∷ qs) = map-cons (λ x. x.path) (Changes.position_in q) (filter_map Changes.position_in qs) ∙ ap₂ cons_option (of-one q) (positions-paths qs) where
  of-one : (q : Render.Piece) → option_map (λ x. x.path) (Changes.position_in q) ≡ position_path q
  of-one (Render.item_region i v n f) = refl
  of-one (Render.component i w f) = refl
  of-one (Render.element_node i n b m f) = refl
  of-one (Render.text_node i z) = refl
  of-one (Render.comment_node i z) = refl
  of-one (Render.branch i f) = refl
  of-one (Render.position i vs) = refl
  of-one (Render.too_deep i) = refl

module _ (app : App) (σ : Eval.Store) where
  pub nodes_once : NoRepeat (Changes.nodes (Render.draw app σ))
  nodes_once = draw_once node_sort app σ

  pub regions_once : NoRepeat (Changes.regions (Render.draw app σ))
  regions_once = draw_once region_sort app σ

  pub positions_once : NoRepeat (map (λ x. x.path) (Changes.positions (Render.draw app σ)))
  positions_once = subst NoRepeat (sym (positions-paths (Changes.pieces (Render.draw app σ)))) (draw_once position_sort app σ)

  pub instances_once : NoRepeat (Changes.instances (Render.draw app σ))
  instances_once = no-repeat-finer Changes.instance_path Changes.region_path instance-finer (Changes.pieces (Render.draw app σ)) regions_once

  pub items_once : NoRepeat (map (λ x. x.path) (Changes.rendered_items (Render.draw app σ)))
  items_once = subst NoRepeat (sym (items-paths (Changes.pieces (Render.draw app σ)))) (no-repeat-finer item_path Changes.region_path item-finer (Changes.pieces (Render.draw app σ)) regions_once)
