-- The places of a rendering, by what stands there, are its lists of nodes, positions, instances, modifiers and items; so each stands once.
use Rattle.std.proofs.Common.{◌≡◌, List, [], ◌∷◌, ◌++◌, map, Option, Some, None, refl, sym, ap, ap₂, ◌∙◌, subst, inl, inr}
use Rattle.std.specs.Prelude.{filter_map, flat_map}
use Rattle.std.specs.List.{cons_option}
use Rattle.std.proofs.lemmas.List.{append_assoc, map-append}
use Rattle.gl_meaning.specs.App.{App}
use Rattle.gl_meaning.specs.Path.{Path}
use Rattle.gl_meaning.specs.Eval.{Store}
use Rattle.gl_meaning.specs.Parts.{Modifier}
use Rattle.gl_meaning.specs.Render.{Piece, element_node, text_node, comment_node, component, branch, item_region, position, too_deep, Forest, no_pieces, piece, draw}
use Rattle.gl_meaning.specs.Changes.{pieces_in, pieces, node_path, instance_path, position_in, item_in, modifiers_on, instances}
use Rattle.gl_meaning.specs.Print.{modifier_paths}
use Rattle.gl_meaning.specs.Known.{Among}
use Rattle.gl_meaning.specs.Laws.{NoRepeat}
use Rattle.gl_meaning.proofs.Pieces.{some_same, none_some}
use Rattle.gl_meaning.proofs.Once.{nodes_once, positions_once, instances_once, items_once}
use Rattle.gl_meaning.proofs.Modifiers.{modifiers_once}
use Rattle.gl_machine.specs.Rows.{Role, a_node, a_position, an_instance, a_modifier, a_value, an_index, Row, rows, modifier_places, piece_places, places}
use Rattle.gl_machine.specs.UpdateLaws.{place_of, PlacesStandOnce}
use Rattle.gl_machine.proofs.NestShown.{rows_are_drawn}

-- what a piece itself has
abbrev own_places : Piece → List (Role × Path)
own_places (element_node p t a ms f) = modifier_places ms ++ (a_node, p) ∷ []
own_places (text_node p t) = (a_node, p) ∷ []
own_places (comment_node p t) = (a_node, p) ∷ []
own_places (component p s f) = (an_instance, p) ∷ []
own_places (branch p f) = []
own_places (item_region p v i f) = (a_value, p) ∷ (an_index, p) ∷ []
own_places (position p ps) = (a_position, p) ∷ []
own_places (too_deep p) = []

abbrev all_places : List Piece → List (Role × Path)
all_places qs = flat_map own_places qs

all_append : (qs rs : List Piece) → all_places (qs ++ rs) ≡ all_places qs ++ all_places rs
all_append [] rs = refl
all_append (q ∷ qs) rs = ap (λ xs. own_places q ++ xs) (all_append qs rs) ∙ sym (append_assoc (own_places q) (all_places qs) (all_places rs))

mutual
  in_piece : (q : Piece) → piece_places q ≡ all_places (pieces_in q)
  in_piece (element_node p t a ms f) = sym (append_assoc (modifier_places ms) ((a_node, p) ∷ []) (places f)) ∙ ap (λ xs. (modifier_places ms ++ (a_node, p) ∷ []) ++ xs) (in_forest f)
  in_piece (text_node p t) = refl
  in_piece (comment_node p t) = refl
  in_piece (component p s f) = ap (λ xs. (an_instance, p) ∷ xs) (in_forest f)
  in_piece (branch p f) = in_forest f
  in_piece (item_region p v i f) = ap (λ xs. (a_value, p) ∷ ((an_index, p) ∷ xs)) (in_forest f)
  in_piece (position p ps) = refl
  in_piece (too_deep p) = refl

  in_forest : (f : Forest) → places f ≡ all_places (pieces f)
  in_forest no_pieces = refl
  in_forest (piece q f) = ap₂ (λ xs ys. xs ++ ys) (in_piece q) (in_forest f) ∙ sym (all_append (pieces_in q) (pieces f))

-- The paths of one role
abbrev pick : Role → Role × Path → Option Path
pick a_node (a_node, p) = Some p
pick a_position (a_position, p) = Some p
pick an_instance (an_instance, p) = Some p
pick a_modifier (a_modifier, p) = Some p
pick a_value (a_value, p) = Some p
pick an_index (an_index, p) = Some p
pick _ _ = None

abbrev pub of_role : Role → List (Role × Path) → List Path
of_role r xs = filter_map (pick r) xs

abbrev paths_of : List Modifier → List Path
paths_of ms = map (λ m. m.path) ms

no_modifiers : (r : Role) (ms : List Modifier) → ((p : Path) → pick r (a_modifier, p) ≡ None) → (xs : List (Role × Path)) → of_role r (modifier_places ms ++ xs) ≡ of_role r xs
no_modifiers r [] f xs = refl
no_modifiers r (m ∷ ms) f xs = ap (λ o. cons_option o (of_role r (modifier_places ms ++ xs))) (f m.path) ∙ no_modifiers r ms f xs

some_modifiers : (ms : List Modifier) (xs : List (Role × Path)) → of_role a_modifier (modifier_places ms ++ xs) ≡ paths_of ms ++ of_role a_modifier xs
some_modifiers [] xs = refl
some_modifiers (m ∷ ms) xs = ap (λ ys. m.path ∷ ys) (some_modifiers ms xs)

-- the places of an element beside its modifiers
element_places : (r : Role) (p : Path) (ms : List Modifier) (rest : List (Role × Path)) → ((j : Path) → pick r (a_modifier, j) ≡ None) → of_role r ((modifier_places ms ++ (a_node, p) ∷ []) ++ rest) ≡ of_role r ((a_node, p) ∷ rest)
element_places r p ms rest f = ap (of_role r) (append_assoc (modifier_places ms) ((a_node, p) ∷ []) rest) ∙ no_modifiers r ms f ((a_node, p) ∷ rest)

are_nodes : (qs : List Piece) → of_role a_node (all_places qs) ≡ filter_map node_path qs
are_nodes [] = refl
are_nodes (element_node p t a ms f ∷ qs) = element_places a_node p ms (all_places qs) (λ j. refl) ∙ ap (λ xs. p ∷ xs) (are_nodes qs)
are_nodes (text_node p t ∷ qs) = ap (λ xs. p ∷ xs) (are_nodes qs)
are_nodes (comment_node p t ∷ qs) = ap (λ xs. p ∷ xs) (are_nodes qs)
are_nodes (component p s f ∷ qs) = are_nodes qs
are_nodes (branch p f ∷ qs) = are_nodes qs
are_nodes (item_region p v i f ∷ qs) = are_nodes qs
are_nodes (position p ps ∷ qs) = are_nodes qs
are_nodes (too_deep p ∷ qs) = are_nodes qs

are_positions : (qs : List Piece) → of_role a_position (all_places qs) ≡ map (λ x. x.path) (filter_map position_in qs)
are_positions [] = refl
are_positions (element_node p t a ms f ∷ qs) = element_places a_position p ms (all_places qs) (λ j. refl) ∙ are_positions qs
are_positions (text_node p t ∷ qs) = are_positions qs
are_positions (comment_node p t ∷ qs) = are_positions qs
are_positions (component p s f ∷ qs) = are_positions qs
are_positions (branch p f ∷ qs) = are_positions qs
are_positions (item_region p v i f ∷ qs) = are_positions qs
are_positions (position p ps ∷ qs) = ap (λ xs. p ∷ xs) (are_positions qs)
are_positions (too_deep p ∷ qs) = are_positions qs

are_instances : (qs : List Piece) → of_role an_instance (all_places qs) ≡ filter_map instance_path qs
are_instances [] = refl
are_instances (element_node p t a ms f ∷ qs) = element_places an_instance p ms (all_places qs) (λ j. refl) ∙ are_instances qs
are_instances (text_node p t ∷ qs) = are_instances qs
are_instances (comment_node p t ∷ qs) = are_instances qs
are_instances (component p s f ∷ qs) = ap (λ xs. p ∷ xs) (are_instances qs)
are_instances (branch p f ∷ qs) = are_instances qs
are_instances (item_region p v i f ∷ qs) = are_instances qs
are_instances (position p ps ∷ qs) = are_instances qs
are_instances (too_deep p ∷ qs) = are_instances qs

are_values : (qs : List Piece) → of_role a_value (all_places qs) ≡ map (λ x. x.path) (filter_map item_in qs)
are_values [] = refl
are_values (element_node p t a ms f ∷ qs) = element_places a_value p ms (all_places qs) (λ j. refl) ∙ are_values qs
are_values (text_node p t ∷ qs) = are_values qs
are_values (comment_node p t ∷ qs) = are_values qs
are_values (component p s f ∷ qs) = are_values qs
are_values (branch p f ∷ qs) = are_values qs
are_values (item_region p v i f ∷ qs) = ap (λ xs. p ∷ xs) (are_values qs)
are_values (position p ps ∷ qs) = are_values qs
are_values (too_deep p ∷ qs) = are_values qs

are_indexes : (qs : List Piece) → of_role an_index (all_places qs) ≡ map (λ x. x.path) (filter_map item_in qs)
are_indexes [] = refl
are_indexes (element_node p t a ms f ∷ qs) = element_places an_index p ms (all_places qs) (λ j. refl) ∙ are_indexes qs
are_indexes (text_node p t ∷ qs) = are_indexes qs
are_indexes (comment_node p t ∷ qs) = are_indexes qs
are_indexes (component p s f ∷ qs) = are_indexes qs
are_indexes (branch p f ∷ qs) = are_indexes qs
are_indexes (item_region p v i f ∷ qs) = ap (λ xs. p ∷ xs) (are_indexes qs)
are_indexes (position p ps ∷ qs) = are_indexes qs
are_indexes (too_deep p ∷ qs) = are_indexes qs

are_modifiers : (qs : List Piece) → of_role a_modifier (all_places qs) ≡ paths_of (flat_map modifiers_on qs)
are_modifiers [] = refl
are_modifiers (element_node p t a ms f ∷ qs) =
    ap (of_role a_modifier) (append_assoc (modifier_places ms) ((a_node, p) ∷ []) (all_places qs))
    ∙ (some_modifiers ms ((a_node, p) ∷ all_places qs) ∙ (ap (λ xs. paths_of ms ++ xs) (are_modifiers qs) ∙ sym (map-append (λ m. m.path) ms (flat_map modifiers_on qs))))
are_modifiers (text_node p t ∷ qs) = are_modifiers qs
are_modifiers (comment_node p t ∷ qs) = are_modifiers qs
are_modifiers (component p s f ∷ qs) = are_modifiers qs
are_modifiers (branch p f ∷ qs) = are_modifiers qs
are_modifiers (item_region p v i f ∷ qs) = are_modifiers qs
are_modifiers (position p ps ∷ qs) = are_modifiers qs
are_modifiers (too_deep p ∷ qs) = are_modifiers qs

pub modifiers_at : (f : Forest) → of_role a_modifier (places f) ≡ modifier_paths f
modifiers_at f = ap (of_role a_modifier) (in_forest f) ∙ are_modifiers (pieces f)

pub instances_at : (f : Forest) → of_role an_instance (places f) ≡ instances f
instances_at f = ap (of_role an_instance) (in_forest f) ∙ are_instances (pieces f)

no_repeat : (app : App) (σ : Store) (r : Role) → NoRepeat (of_role r (places (draw app σ)))
no_repeat app σ a_node = subst NoRepeat (sym (ap (of_role a_node) (in_forest (draw app σ)) ∙ are_nodes (pieces (draw app σ)))) (nodes_once app σ)
no_repeat app σ a_position = subst NoRepeat (sym (ap (of_role a_position) (in_forest (draw app σ)) ∙ are_positions (pieces (draw app σ)))) (positions_once app σ)
no_repeat app σ an_instance = subst NoRepeat (sym (instances_at (draw app σ))) (instances_once app σ)
no_repeat app σ a_modifier = subst NoRepeat (sym (modifiers_at (draw app σ))) (modifiers_once app σ)
no_repeat app σ a_value = subst NoRepeat (sym (ap (of_role a_value) (in_forest (draw app σ)) ∙ are_values (pieces (draw app σ)))) (items_once app σ)
no_repeat app σ an_index = subst NoRepeat (sym (ap (of_role an_index) (in_forest (draw app σ)) ∙ are_indexes (pieces (draw app σ)))) (items_once app σ)

-- Rows

pick_itself : (r : Role) (p : Path) → pick r (r, p) ≡ Some p
pick_itself a_node p = refl
pick_itself a_position p = refl
pick_itself an_instance p = refl
pick_itself a_modifier p = refl
pick_itself a_value p = refl
pick_itself an_index p = refl

abbrev pub row_paths : Role → List Row → List Path
row_paths r xs = of_role r (map place_of xs)

pick_of : (r : Role) (z x : Row) → x ≡ z → x.role ≡ r → pick r (place_of z) ≡ Some x.path
pick_of r z x a e = ap (λ v. pick r (place_of v)) (sym a) ∙ (ap (λ s. pick r (s, x.path)) e ∙ pick_itself r x.path)

picked : (r s : Role) (p q : Path) → pick r (s, p) ≡ Some q → (s ≡ r) × (p ≡ q)
picked a_node a_node p q e = (refl, some_same p q e)
picked a_position a_position p q e = (refl, some_same p q e)
picked an_instance an_instance p q e = (refl, some_same p q e)
picked a_modifier a_modifier p q e = (refl, some_same p q e)
picked a_value a_value p q e = (refl, some_same p q e)
picked an_index an_index p q e = (refl, some_same p q e)
picked _ _ p q e = absurd (none_some q e)

pub there : (r : Role) (x : Row) (xs : List Row) → x.role ≡ r → Among x xs → Among x.path (row_paths r xs)
there r x [] e m = absurd m
there r x (y ∷ ys) e (inl a) =
    subst (λ o. Among x.path (cons_option o (row_paths r ys))) (sym (pick_of r y x a e)) (inl refl)
there r x (y ∷ ys) e (inr m) = behind (pick r (place_of y)) (there r x ys e m) where
  behind : (o : Option Path) → Among x.path (row_paths r ys) → Among x.path (cons_option o (row_paths r ys))
  behind None n = n
  behind (Some p) n = inr n

-- each row whose path is in the list
pub back : (r : Role) (p : Path) (xs : List Row) → Among p (row_paths r xs) → (x : Row) × Among x xs × (x.role ≡ r) × (x.path ≡ p)
back r p [] m = absurd m
back r p (y ∷ ys) m = by (pick r (place_of y)) refl (back r p ys) m where
  by : (o : Option Path) → pick r (place_of y) ≡ o → (Among p (row_paths r ys) → (x : Row) × Among x ys × (x.role ≡ r) × (x.path ≡ p)) → Among p (cons_option o (row_paths r ys))
      → (x : Row) × Among x (y ∷ ys) × (x.role ≡ r) × (x.path ≡ p)
  by None e f n = let z = f n in (z.0, inr z.1, z.2, z.3)
  by (Some q) e f (inl a) = let g = picked r y.role y.path q e in (y, inl refl, g.0, g.1 ∙ sym a)
  by (Some q) e f (inr n) = let z = f n in (z.0, inr z.1, z.2, z.3)

one_row : (r : Role) (xs : List Row) → NoRepeat (row_paths r xs) → (x y : Row) → Among x xs → Among y xs → x.role ≡ r → y.role ≡ r → x.path ≡ y.path → x ≡ y
one_row r [] h x y m n e f g = absurd m
one_row r (z ∷ zs) h x y (inl a) (inl b) e f g = a ∙ sym b
one_row r (z ∷ zs) h x y (inl a) (inr n) e f g =
    let k = first (pick_of r z x a e) h in absurd (k (subst (λ p. Among p (row_paths r zs)) (sym g) (there r y zs f n)))
  where
    first : pick r (place_of z) ≡ Some x.path → NoRepeat (cons_option (pick r (place_of z)) (row_paths r zs)) → Among x.path (row_paths r zs) → ⊥
    first e h = (subst (λ o. NoRepeat (cons_option o (row_paths r zs))) e h).0
one_row r (z ∷ zs) h x y (inr m) (inl b) e f g =
    let k = first (pick_of r z y b f) h in absurd (k (subst (λ p. Among p (row_paths r zs)) g (there r x zs e m)))
  where
    first : pick r (place_of z) ≡ Some y.path → NoRepeat (cons_option (pick r (place_of z)) (row_paths r zs)) → Among y.path (row_paths r zs) → ⊥
    first e h = (subst (λ o. NoRepeat (cons_option o (row_paths r zs))) e h).0
one_row r (z ∷ zs) h x y (inr m) (inr n) e f g = one_row r zs (rest (pick r (place_of z)) h) x y m n e f g where
  rest : (o : Option Path) → NoRepeat (cons_option o (row_paths r zs)) → NoRepeat (row_paths r zs)
  rest None h = h
  rest (Some p) h = h.1

pub places_stand_once : PlacesStandOnce
places_stand_once app τ st l h x y m n e f =
    one_row y.role (rows [] l) (subst (λ zs. NoRepeat (of_role y.role zs)) (sym (rows_are_drawn app τ st l h)) (no_repeat app τ y.role)) x y m n e refl f
