-- In one rendering the path of a modifier stands once, and is that of the position which has its arguments.
use Rattle.std.proofs.Common.{◌≡◌, ◌≤◌, ℕ, suc, List, [], ◌∷◌, ◌++◌, map, Option, Some, None, refl, sym, ap, ◌∙◌, subst, inl, inr, arith}
use Rattle.std.specs.Prelude.{filter, filter_map, flat_map}
use Rattle.std.specs.List.{cons_option}
use Rattle.gl_base.specs.Texts.{Text}
use Rattle.gl_meaning.specs.App.{App}
use Rattle.gl_meaning.specs.Path
use Rattle.gl_meaning.specs.Scope
use Rattle.gl_meaning.specs.Eval
use Rattle.gl_meaning.specs.Parts
use Rattle.gl_meaning.specs.Render
use Rattle.gl_meaning.specs.Changes
use Rattle.gl_meaning.specs.Print.{modifier_paths}
use Rattle.gl_meaning.specs.Known.{Among}
use Rattle.gl_meaning.specs.Laws.{NoRepeat, InPiece, In}
use Rattle.gl_meaning.proofs.Pieces.{among_either, some_same, none_some, listed, found_in}
use Rattle.gl_meaning.proofs.Under.{in_join, in_left, in_right, in-forest-append}
use Rattle.gl_meaning.proofs.Drawn.{draw_has}
use Rattle.gl_meaning.proofs.Once.{no_repeat_append, nodes_once}

-- Of each piece: its modifiers are numbered from 0, and each has its position in the forest.

-- these have the paths of modifiers of an element from the number n on
abbrev Numbered : Path.Path → ℕ → List Parts.Modifier → Type 0
Numbered i n [] = Unit {0}
Numbered i n (m ∷ ms) = (m.path ≡ Path.modifier_at n ∷ i) × Numbered i (suc n) ms

abbrev position_of : Parts.Modifier → Render.Piece
position_of m = Render.position m.path (m.args ++ map (λ n. n.1) m.names)

abbrev Placed : Render.Forest → Render.Piece → Type 0
Placed f x = Numbered (Changes.piece_path x) 0 (Changes.modifiers_on x) × ((m : Parts.Modifier) → Among m (Changes.modifiers_on x) → In (position_of m) f)

abbrev AllPlaced : Render.Forest → Type 0
AllPlaced f = (x : Render.Piece) → In x f → Placed f x

-- a piece without modifiers
bare-piece : (f : Render.Forest) (x a : Render.Piece) → x ≡ a → Changes.modifiers_on a ≡ [] → Placed f x
bare-piece f x a q h = (
  subst (λ ms. Numbered (Changes.piece_path x) 0 ms) (sym (ap Changes.modifiers_on q ∙ h)) tt,
  (λ m k. absurd (subst (λ ms. Among m ms) (ap Changes.modifiers_on q ∙ h) k)),
)

-- what is placed in a part of a forest is placed in it
more-placed : (f g : Render.Forest) (x : Render.Piece) → ((y : Render.Piece) → In y f → In y g) → Placed f x → Placed g x
more-placed f g x h p = (p.0, λ m k. h (position_of m) (p.1 m k))

placed-join : (f g : Render.Forest) → AllPlaced f → AllPlaced g → AllPlaced (Render.join f g)
placed-join f g a b x m = elim (in_join x f g m) [
  | inl k ↦ more-placed f (Render.join f g) x (λ y n. in_left y f g n) (a x k)
  | inr k ↦ more-placed g (Render.join f g) x (λ y n. in_right y f g n) (b x k)
]

-- a leaf alone
placed-leaf : (q : Render.Piece) → Changes.modifiers_on q ≡ [] → ((x : Render.Piece) → InPiece x q → x ≡ q) → AllPlaced (Render.single q)
placed-leaf q h only x (inl m) = bare-piece (Render.single q) x q (only x m) h
placed-leaf q h only x (inr m) = absurd m

placed-position : (i : Path.Path) (vs : List Scope.Pair) (f : Render.Forest) → AllPlaced f → AllPlaced (Render.piece (Render.position i vs) f)
placed-position i vs f a x (inl q) = bare-piece (Render.piece (Render.position i vs) f) x (Render.position i vs) q refl
placed-position i vs f a x (inr m) = more-placed f (Render.piece (Render.position i vs) f) x (λ y n. inr n) (a x m)

placed-branch : (i : Path.Path) (f : Render.Forest) → AllPlaced f → AllPlaced (Render.single (Render.branch i f))
placed-branch i f a x (inl (inl q)) = bare-piece (Render.single (Render.branch i f)) x (Render.branch i f) q refl
placed-branch i f a x (inl (inr m)) = more-placed f (Render.single (Render.branch i f)) x (λ y n. inl (inr n)) (a x m)
placed-branch i f a x (inr m) = absurd m

placed-component : (i : Path.Path) (w : Scope.Scope) (f : Render.Forest) → AllPlaced f → AllPlaced (Render.single (Render.component i w f))
placed-component i w f a x (inl (inl q)) = bare-piece (Render.single (Render.component i w f)) x (Render.component i w f) q refl
placed-component i w f a x (inl (inr m)) = more-placed f (Render.single (Render.component i w f)) x (λ y n. inl (inr n)) (a x m)
placed-component i w f a x (inr m) = absurd m

placed-item : (i : Path.Path) (v : Path.V) (n : ℕ) (f g : Render.Forest) → AllPlaced f → AllPlaced g → AllPlaced (Render.piece (Render.item_region i v n f) g)
placed-item i v n f g a b x (inl (inl q)) = bare-piece (Render.piece (Render.item_region i v n f) g) x (Render.item_region i v n f) q refl
placed-item i v n f g a b x (inl (inr m)) = more-placed f (Render.piece (Render.item_region i v n f) g) x (λ y k. inl (inr k)) (a x m)
placed-item i v n f g a b x (inr m) = more-placed g (Render.piece (Render.item_region i v n f) g) x (λ y k. inr k) (b x m)

module _ (app : App) (σ : Eval.Store) where
  numbered : (i : Path.Path) (n : ℕ) (ws : List (Parts.WrittenModifier Scope.Scope)) → Numbered i n (Parts.modifiers_of app σ i n ws)
  numbered i n [] = tt
  numbered i n (w ∷ ws) = (refl, numbered i (suc n) ws)

  in-positions : (ms : List Parts.Modifier) (m : Parts.Modifier) → Among m ms → In (position_of m) (Render.forest_of (Render.modifier_positions ms))
  in-positions [] m k = absurd k
  in-positions (n ∷ ms) m (inl q) = inl (ap position_of q)
  in-positions (n ∷ ms) m (inr k) = inr (in-positions ms m k)

  in-more : (x : Render.Piece) (qs rs : List Render.Piece) → In x (Render.forest_of rs) → In x (Render.forest_of (qs ++ rs))
  in-more x [] rs m = m
  in-more x (q ∷ qs) rs m = inr (in-more x qs rs m)

  attribute-bare : (i : Path.Path) (pairs : Text → List Scope.Pair) (ns : List Text) (x : Render.Piece) → In x (Render.forest_of (map (λ n. Render.position (Path.attribute_at n ∷ i) (pairs n)) ns)) → Changes.modifiers_on x ≡ []
  attribute-bare i pairs [] x m = absurd m
  attribute-bare i pairs (n ∷ ns) x (inl q) = ap Changes.modifiers_on q
  attribute-bare i pairs (n ∷ ns) x (inr m) = attribute-bare i pairs ns x m

  modifier-bare : (ms : List Parts.Modifier) (x : Render.Piece) → In x (Render.forest_of (Render.modifier_positions ms)) → Changes.modifiers_on x ≡ []
  modifier-bare [] x m = absurd m
  modifier-bare (n ∷ ms) x (inl q) = ap Changes.modifiers_on q
  modifier-bare (n ∷ ms) x (inr m) = modifier-bare ms x m

  -- an element's own modifiers, with their positions before it
  module _ (i : Path.Path) (tag : Text) (ws : List (Parts.Written Scope.Scope)) (f : Render.Forest) (a : AllPlaced f) where
    abbrev us : List (Parts.WrittenValue Scope.Scope)
    us = Parts.attributes_in ws

    abbrev ms : List Parts.Modifier
    ms = Parts.modifiers_of app σ i 0 (Parts.modifiers_in ws)

    abbrev ns : List Render.Piece
    ns = Render.attr_positions i us (Parts.taken_pairs app σ us)

    abbrev parts : Render.Forest
    parts = Render.forest_of (ns ++ Render.modifier_positions ms)

    abbrev el : Render.Piece
    el = Render.element_node i tag (Parts.attrs_from us (Parts.taken_pairs app σ us)) ms f

    abbrev whole : Render.Forest
    whole = Render.join parts (Render.single el)

    bare-part : (x : Render.Piece) → In x parts → Changes.modifiers_on x ≡ []
    bare-part x m = elim (in-forest-append x ns (Render.modifier_positions ms) m) [
      | inl k ↦ attribute-bare i (Parts.taken_pairs app σ us) (filter (λ n. Parts.some_live (Parts.taken_values n us)) (Parts.distinct_names us)) x k
      | inr k ↦ modifier-bare ms x k
    ]

    own : (x : Render.Piece) → x ≡ el → Placed whole x
    own x q = subst (λ z. Placed whole z) (sym q) (numbered i 0 (Parts.modifiers_in ws), λ m k. in_left (position_of m) parts (Render.single el) (in-more (position_of m) ns (Render.modifier_positions ms) (in-positions ms m k)))

    in-single : (x : Render.Piece) → In x (Render.single el) → Placed whole x
    in-single x (inl (inl q)) = own x q
    in-single x (inl (inr m)) = more-placed f whole x (λ y n. in_right y parts (Render.single el) (inl (inr n))) (a x m)
    in-single x (inr m) = absurd m

    placed-element : AllPlaced (Render.element_of app σ i tag ws f)
    placed-element x m = elim (in_join x parts (Render.single el) m) [ inl k ↦ bare-piece whole x x refl (bare-part x k) | inr k ↦ in-single x k ]

  draw-placed : AllPlaced (Render.draw app σ)
  draw-placed =
      draw_has app σ AllPlaced (λ x m. absurd m) placed-join
      (λ i z. placed-leaf (Render.text_node i z) refl (λ x q. q)) (λ i z. placed-leaf (Render.comment_node i z) refl (λ x q. q)) (λ i. placed-leaf (Render.too_deep i) refl (λ x q. q))
      placed-position placed-branch placed-item placed-component (λ i tag ws f a. placed-element i tag ws f a)

-- The lists

among-flat : {A B : Type 0} (g : A → List B) (b : B) (xs : List A) → Among b (flat_map g xs) → (x : A) × Among x xs × Among b (g x)
among-flat g b [] m = absurd m
among-flat g b (x ∷ xs) m = elim (among_either b (g x) (flat_map g xs) m) [
  | inl k ↦ (x, inl refl, k)
  | inr k ↦ let r = among-flat g b xs k in (r.0, inr r.1, r.2)
]

among-map : {A B : Type 0} (g : A → B) (b : B) (xs : List A) → Among b (map g xs) → (x : A) × Among x xs × (b ≡ g x)
among-map g b [] m = absurd m
among-map g b (x ∷ xs) (inl q) = (x, inl refl, q)
among-map g b (x ∷ xs) (inr m) = let r = among-map g b xs m in (r.0, inr r.1, r.2)

all-among : (q : Render.Piece) (qs : List Render.Piece) → Among q qs → Among q (filter_map (λ x. Some x) qs)
all-among q [] m = m
all-among q (x ∷ qs) (inl o) = inl o
all-among q (x ∷ qs) (inr m) = inr (all-among q qs m)

-- a piece of the list stands in the forest
piece-in : (f : Render.Forest) (q : Render.Piece) → Among q (Changes.pieces f) → In q f
piece-in f q m = let x = found_in (λ z. Some z) q f (all-among q (Changes.pieces f) m) in subst (λ z. In z f) (some_same x.0 q x.2) x.1

pub modifier_is_position : (app : App) (σ : Eval.Store) (m : Parts.Modifier) → Among m (Changes.modifiers (Render.draw app σ)) → Among (record { path = m.path; pairs = m.args ++ map (λ n. n.1) m.names }) (Changes.positions (Render.draw app σ))
modifier_is_position app σ m k =
    let f = Render.draw app σ in let q = among-flat Changes.modifiers_on m (Changes.pieces f) k in
    listed Changes.position_in (record { path = m.path; pairs = m.args ++ map (λ n. n.1) m.names }) (position_of m) refl f ((draw-placed app σ q.0 (piece-in f q.0 q.1)).1 m q.2)

-- paths of numbered modifiers
step-number : Path.PathStep → ℕ
step-number (Path.modifier_at n) = n
step-number _ = 0

first-step : Path.Path → Path.PathStep
first-step [] = Path.main
first-step (l ∷ i) = l

rest-of-path : Path.Path → Path.Path
rest-of-path [] = []
rest-of-path (l ∷ i) = i

abbrev paths_of : List Parts.Modifier → List Path.Path
paths_of ms = map (λ m. m.path) ms

at-number : (i : Path.Path) (n : ℕ) (ms : List Parts.Modifier) → Numbered i n ms → (j : Path.Path) → Among j (paths_of ms) → (k : ℕ) × (n ≤ k) × (j ≡ Path.modifier_at k ∷ i)
at-number i n [] h j m = absurd m
at-number i n (x ∷ ms) h j (inl q) = (n, omega arith, q ∙ h.0)
at-number i n (x ∷ ms) h j (inr m) = let r = at-number i (suc n) ms h.1 j m in let g : suc n ≤ r.0 = r.1 in (r.0, omega arith, r.2)

numbered-once : (i : Path.Path) (n : ℕ) (ms : List Parts.Modifier) → Numbered i n ms → NoRepeat (paths_of ms)
unfolding step-number first-step
numbered-once i n [] h = tt
numbered-once i n (x ∷ ms) h = (
  (λ m. let r = at-number i (suc n) ms h.1 x.path m in let g : suc n ≤ r.0 = r.1 in let e : n ≡ r.0 = ap (λ j. step-number (first-step j)) (sym h.0 ∙ r.2) in omega arith),
  numbered-once i (suc n) ms h.1,
)

-- a piece with modifiers is a node
no-modifiers : (q : Render.Piece) → Changes.node_path q ≡ None → (j : Path.Path) → Among j (paths_of (Changes.modifiers_on q)) → ⊥
no-modifiers (Render.element_node i n b ms f) h j m = cc
no-modifiers (Render.text_node i z) h j m = m
no-modifiers (Render.comment_node i z) h j m = m
no-modifiers (Render.component i w f) h j m = m
no-modifiers (Render.branch i f) h j m = m
no-modifiers (Render.item_region i v n f) h j m = m
no-modifiers (Render.position i vs) h j m = m
no-modifiers (Render.too_deep i) h j m = m

node-is : (q : Render.Piece) (i : Path.Path) → Changes.node_path q ≡ Some i → Changes.piece_path q ≡ i
node-is (Render.element_node j n b l f) i h = some_same j i h
node-is (Render.text_node j z) i h = some_same j i h
node-is (Render.comment_node j z) i h = some_same j i h
node-is (Render.component j w f) i h = absurd (none_some i h)
node-is (Render.branch j f) i h = absurd (none_some i h)
node-is (Render.item_region j v n f) i h = absurd (none_some i h)
node-is (Render.position j vs) i h = absurd (none_some i h)
node-is (Render.too_deep j) i h = absurd (none_some i h)

abbrev AllNumbered : List Render.Piece → Type 0
AllNumbered [] = Unit {0}
AllNumbered (q ∷ qs) = Numbered (Changes.piece_path q) 0 (Changes.modifiers_on q) × AllNumbered qs

-- a modifier's path, of one of these pieces, is below the path of a node among them
below-node : (qs : List Render.Piece) → AllNumbered qs → (j : Path.Path) → Among j (flat_map (λ q. paths_of (Changes.modifiers_on q)) qs) → Among (rest-of-path j) (filter_map Changes.node_path qs)
unfolding rest-of-path
below-node [] h j m = m
below-node (q ∷ qs) h j m = elim (among_either j (paths_of (Changes.modifiers_on q)) (flat_map (λ q. paths_of (Changes.modifiers_on q)) qs) m) [
  | inl k ↦ here (Changes.node_path q) refl k
  | inr k ↦ later (Changes.node_path q) (below-node qs h.1 j k)
] where
  here : (o : Option Path.Path) → Changes.node_path q ≡ o → Among j (paths_of (Changes.modifiers_on q)) → Among (rest-of-path j) (cons_option o (filter_map Changes.node_path qs))
  here None e k = absurd (no-modifiers q e j k)
  here (Some i) e k = let r = at-number (Changes.piece_path q) 0 (Changes.modifiers_on q) h.0 j k in inl (ap rest-of-path r.2 ∙ node-is q i e)

  later : (o : Option Path.Path) → Among (rest-of-path j) (filter_map Changes.node_path qs) → Among (rest-of-path j) (cons_option o (filter_map Changes.node_path qs))
  later None k = k
  later (Some i) k = inr k

paths-once : (qs : List Render.Piece) → AllNumbered qs → NoRepeat (filter_map Changes.node_path qs) → NoRepeat (flat_map (λ q. paths_of (Changes.modifiers_on q)) qs)
unfolding rest-of-path
paths-once [] h d = tt
paths-once (q ∷ qs) h d = no_repeat_append (paths_of (Changes.modifiers_on q)) (flat_map (λ q. paths_of (Changes.modifiers_on q)) qs) (numbered-once (Changes.piece_path q) 0 (Changes.modifiers_on q) h.0) (paths-once qs h.1 (rest (Changes.node_path q) d)) (λ j k l. apart (Changes.node_path q) refl d j k (below-node qs h.1 j l)) where
  rest : (o : Option Path.Path) → NoRepeat (cons_option o (filter_map Changes.node_path qs)) → NoRepeat (filter_map Changes.node_path qs)
  rest None e = e
  rest (Some i) e = e.1

  apart : (o : Option Path.Path) → Changes.node_path q ≡ o → NoRepeat (cons_option o (filter_map Changes.node_path qs)) → (j : Path.Path) → Among j (paths_of (Changes.modifiers_on q)) → Among (rest-of-path j) (filter_map Changes.node_path qs) → ⊥
  apart None e n j k l = no-modifiers q e j k
  apart (Some i) e n j k l =
      let r = at-number (Changes.piece_path q) 0 (Changes.modifiers_on q) h.0 j k in
      n.0 (subst (λ z. Among z (filter_map Changes.node_path qs)) (ap rest-of-path r.2 ∙ node-is q i e) l)

map-flat : (qs : List Render.Piece) → paths_of (flat_map Changes.modifiers_on qs) ≡ flat_map (λ q. paths_of (Changes.modifiers_on q)) qs
map-flat [] = refl
map-flat (q ∷ qs) = map-append (Changes.modifiers_on q) (flat_map Changes.modifiers_on qs) ∙ ap (λ z. paths_of (Changes.modifiers_on q) ++ z) (map-flat qs) where
  map-append : (xs ys : List Parts.Modifier) → paths_of (xs ++ ys) ≡ paths_of xs ++ paths_of ys
  map-append [] ys = refl
  map-append (x ∷ xs) ys = ap (λ z. x.path ∷ z) (map-append xs ys)

all-numbered : (qs : List Render.Piece) → ((q : Render.Piece) → Among q qs → Numbered (Changes.piece_path q) 0 (Changes.modifiers_on q)) → AllNumbered qs
all-numbered [] h = tt
all-numbered (q ∷ qs) h = (h q (inl refl), all-numbered qs (λ x m. h x (inr m)))

pub modifiers_once : (app : App) (σ : Eval.Store) → NoRepeat (modifier_paths (Render.draw app σ))
modifiers_once app σ =
    let f = Render.draw app σ in
    subst NoRepeat (sym (map-flat (Changes.pieces f))) (paths-once (Changes.pieces f) (all-numbered (Changes.pieces f) (λ q m. (draw-placed app σ q (piece-in f q m)).0)) (nodes_once app σ))
