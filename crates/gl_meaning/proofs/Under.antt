-- What is rendered at a path stands at or below it.
use Rattle.gl_meaning.specs.Laws.{In, Within}
use Rattle.std.proofs.Common.{◌≡◌, ◌≤◌, ℕ, zero, suc, List, [], ◌∷◌, ◌++◌, map, length, Bool, true, false, Option, Some, None, refl, sym, ap, ◌∙◌, subst, ◌⊎◌, inl, inr, arith}
use Rattle.std.specs.Prelude.{if◌then◌else◌, filter}
use Rattle.gl_value.specs.Value.{Values, no_values, value}
use Rattle.gl_base.specs.Texts.{Text}
use Rattle.gl_meaning.specs.App.{App}
use Rattle.gl_meaning.specs.Changes
use Rattle.gl_meaning.specs.Eval
use Rattle.gl_meaning.specs.Parts
use Rattle.gl_meaning.specs.Path
use Rattle.gl_meaning.specs.Render
use Rattle.gl_meaning.specs.Scope
use Rattle.gl_ast.specs.Template

pub in_join : (x : Render.Piece) (f g : Render.Forest) → In x (Render.join f g) → In x f ⊎ In x g
in_join x Render.no_pieces g m = inr m
in_join x (Render.piece q f) g (inl m) = inl (inl m)
in_join x (Render.piece q f) g (inr m) = elim (in_join x f g m) [ inl k ↦ inl (inr k) | inr k ↦ inr k ]

pub in_left : (x : Render.Piece) (f g : Render.Forest) → In x f → In x (Render.join f g)
in_left x Render.no_pieces g m = absurd m
in_left x (Render.piece q f) g (inl m) = inl m
in_left x (Render.piece q f) g (inr m) = inr (in_left x f g m)

pub in_right : (x : Render.Piece) (f g : Render.Forest) → In x g → In x (Render.join f g)
in_right x Render.no_pieces g m = m
in_right x (Render.piece q f) g m = inr (in_right x f g m)

pub within_itself : (i : Path.Path) → Within i i
within_itself [] = refl
within_itself (k ∷ i) = inl refl

abbrev outer : Path.Path → Path.Path
outer [] = []
outer (k ∷ i) = i

abbrev last_step : Path.Path → Path.PathStep
last_step [] = Path.main
last_step (k ∷ i) = k

pub within_outer : (k : Path.PathStep) (i j : Path.Path) → Within (k ∷ i) j → Within i j
within_outer k i [] m = absurd cc
within_outer k i (l ∷ j) (inl q) = inr (subst (λ z. Within i z) (ap outer q) (within_itself i))
within_outer k i (l ∷ j) (inr m) = inr (within_outer k i j m)

within-length : (i j : Path.Path) → Within i j → length i ≤ length j
within-length i [] m = rw m (omega arith)
within-length i (l ∷ j) (inl q) = rw q (omega arith)
within-length i (l ∷ j) (inr m) = let h : length i ≤ length j = within-length i j m in omega arith

within-same : (i j m : Path.Path) → length i ≡ length j → Within i m → Within j m → i ≡ j
within-same i j [] n a b = a ∙ sym b
within-same i j (l ∷ m) n (inl a) (inl b) = a ∙ sym b
within-same i j (l ∷ m) n (inl a) (inr b) = let h : length j ≤ length m = within-length j m b in let g : length i ≡ suc (length m) = ap length a in absurd (omega arith)
within-same i j (l ∷ m) n (inr a) (inl b) = let h : length i ≤ length m = within-length i m a in let g : length j ≡ suc (length m) = ap length b in absurd (omega arith)
within-same i j (l ∷ m) n (inr a) (inr b) = within-same i j m n a b

-- two ways on from one path lead apart
pub steps_apart : (k l : Path.PathStep) (i m : Path.Path) → Within (k ∷ i) m → Within (l ∷ i) m → k ≡ l
steps_apart k l i m a b = ap last_step (within-same (k ∷ i) (l ∷ i) m refl a b)

pub not_below : (k : Path.PathStep) (i : Path.Path) → Within (k ∷ i) i → ⊥
not_below k i m = let h : suc (length i) ≤ length i = within-length (k ∷ i) i m in omega arith

abbrev pub Under : Path.Path → Render.Forest → Type 0
Under i f = (x : Render.Piece) → In x f → Within i (Changes.piece_path x)

-- in the statements from the n-th on of a body at i
abbrev pub From : ℕ → Path.Path → Path.Path → Type 0
From n i j = (k : ℕ) × (n ≤ k) × Within (Path.at k ∷ i) j

pub from_within : (n : ℕ) (i j : Path.Path) → From n i j → Within i j
from_within n i j m = within_outer (Path.at m.0) i j m.2

pub under_by : (i : Path.Path) {x y : Render.Piece} → x ≡ y → Within i (Changes.piece_path y) → Within i (Changes.piece_path x)
under_by i q m = subst (λ z. Within i (Changes.piece_path z)) (sym q) m

-- a branch or an item: itself, what is in its body, or its comment
abbrev pub InRegion : Render.Piece → Path.Path → Render.Forest → Type 0
InRegion x i f = (In x f) ⊎ (x ≡ Render.comment_node (Path.empty ∷ i) [])

pub in_comment : (x : Render.Piece) (i : Path.Path) (f : Render.Forest) → In x (Render.or_comment i f) → InRegion x i f
in_comment x i f m = elim (in_join x f _ m) [ inl k ↦ inl k | inr k ↦ chosen (Render.has_node f) k ] where
  chosen : (b : Bool) → In x (if b then Render.no_pieces else Render.single (Render.comment_node (Path.empty ∷ i) [])) → In x f ⊎ (x ≡ Render.comment_node (Path.empty ∷ i) [])
  chosen true k = absurd k
  chosen false (inl k) = inr k
  chosen false (inr k) = absurd k

under-comment : (i : Path.Path) (f : Render.Forest) → Under i f → Under i (Render.or_comment i f)
under-comment i f h x m = elim (in_comment x i f m) [ inl k ↦ h x k | inr k ↦ under_by i k (inr (within_itself i)) ]

under-region : (k : Path.PathStep) (i : Path.Path) (f : Render.Forest) → Under (k ∷ i) f → Under (k ∷ i) (Render.region_at (k ∷ i) f)
under-region k i f h x (inl (inl q)) = under_by (k ∷ i) q (inl refl)
under-region k i f h x (inl (inr m)) = under-comment (k ∷ i) f h x m
under-region k i f h x (inr m) = absurd m

-- the positions of parts
abbrev pub IsPartStep : Path.PathStep → Type 0
IsPartStep (Path.attribute_at n) = Unit {0}
IsPartStep (Path.modifier_at n) = Unit {0}
IsPartStep _ = ⊥

abbrev pub IsPart : Path.Path → Render.Piece → Type 0
IsPart i x = (k : Path.PathStep) × (vs : List Scope.Pair) × IsPartStep k × (x ≡ Render.position (k ∷ i) vs)

pub in-forest-append : (x : Render.Piece) (qs rs : List Render.Piece) → In x (Render.forest_of (qs ++ rs)) → In x (Render.forest_of qs) ⊎ In x (Render.forest_of rs)
in-forest-append x [] rs m = inr m
in-forest-append x (q ∷ qs) rs (inl m) = inl (inl m)
in-forest-append x (q ∷ qs) rs (inr m) = elim (in-forest-append x qs rs m) [ inl k ↦ inl (inr k) | inr k ↦ inr k ]

in-attributes : (x : Render.Piece) (i : Path.Path) (pairs : Text → List Scope.Pair) (ns : List Text) → In x (Render.forest_of (map (λ n. Render.position (Path.attribute_at n ∷ i) (pairs n)) ns)) → IsPart i x
in-attributes x i pairs [] m = absurd m
in-attributes x i pairs (n ∷ ns) (inl q) = (Path.attribute_at n, pairs n, tt, q)
in-attributes x i pairs (n ∷ ns) (inr m) = in-attributes x i pairs ns m

in-modifiers : (app : App) (σ : Eval.Store) (x : Render.Piece) (i : Path.Path) (n : ℕ) (ws : List (Parts.WrittenModifier Scope.Scope)) → In x (Render.forest_of (Render.modifier_positions (Parts.modifiers_of app σ i n ws))) → IsPart i x
in-modifiers app σ x i n [] m = absurd m
in-modifiers app σ x i n (w ∷ ws) (inl q) = (Path.modifier_at n, _, tt, q)
in-modifiers app σ x i n (w ∷ ws) (inr m) = in-modifiers app σ x i (suc n) ws m

-- what stands in an element: the positions of its parts, itself, or what its body has
pub data InElement (x : Render.Piece) (i : Path.Path) (tag : Text) (qs : List Render.Piece) (f : Render.Forest) : Type 0 where
  of_parts : In x (Render.forest_of qs) → IsPart i x → InElement x i tag qs f
  itself : (a : Parts.Attrs) (ms : List Parts.Modifier) → x ≡ Render.element_node i tag a ms f → InElement x i tag qs f
  inside : In x f → InElement x i tag qs f

abbrev pub parts_of : App → Eval.Store → Path.Path → List (Parts.Written Scope.Scope) → List Render.Piece
parts_of app σ i ws = Render.attr_positions i (Parts.attributes_in ws) (Parts.taken_pairs app σ (Parts.attributes_in ws)) ++ Render.modifier_positions (Parts.modifiers_of app σ i 0 (Parts.modifiers_in ws))

pub in_parts : (app : App) (σ : Eval.Store) (x : Render.Piece) (i : Path.Path) (ws : List (Parts.Written Scope.Scope)) → In x (Render.forest_of (parts_of app σ i ws)) → IsPart i x
in_parts app σ x i ws m =
    let vs = Parts.attributes_in ws in let pairs = Parts.taken_pairs app σ vs in
    elim (in-forest-append x (Render.attr_positions i vs pairs) (Render.modifier_positions (Parts.modifiers_of app σ i 0 (Parts.modifiers_in ws))) m) [
      | inl l ↦ in-attributes x i pairs (filter (λ n. Parts.some_live (Parts.taken_values n vs)) (Parts.distinct_names vs)) l
      | inr l ↦ in-modifiers app σ x i 0 (Parts.modifiers_in ws) l
    ]

in-single : (x : Render.Piece) (i : Path.Path) (tag : Text) (a : Parts.Attrs) (ms : List Parts.Modifier) (qs : List Render.Piece) (f : Render.Forest) → In x (Render.single (Render.element_node i tag a ms f)) → InElement x i tag qs f
in-single x i tag a ms qs f (inl (inl q)) = itself a ms q
in-single x i tag a ms qs f (inl (inr m)) = inside m
in-single x i tag a ms qs f (inr m) = absurd m

pub in_element : (app : App) (σ : Eval.Store) (x : Render.Piece) (i : Path.Path) (tag : Text) (ws : List (Parts.Written Scope.Scope)) (f : Render.Forest) → In x (Render.element_of app σ i tag ws f) → InElement x i tag (parts_of app σ i ws) f
in_element app σ x i tag ws f m =
    let vs = Parts.attributes_in ws in
    let pairs = Parts.taken_pairs app σ vs in
    let ms = Parts.modifiers_of app σ i 0 (Parts.modifiers_in ws) in
    let qs = Render.attr_positions i vs pairs in
    let rs = Render.modifier_positions ms in
    let a = Parts.attrs_from vs pairs in
    elim (in_join x (Render.forest_of (qs ++ rs)) (Render.single (Render.element_node i tag a ms f)) m) [
      | inl k ↦ elim (in-forest-append x qs rs k) [ inl l ↦ of_parts k (in-attributes x i pairs (filter (λ n. Parts.some_live (Parts.taken_values n vs)) (Parts.distinct_names vs)) l) | inr l ↦ of_parts k (in-modifiers app σ x i 0 (Parts.modifiers_in ws) l) ]
      | inr k ↦ in-single x i tag a ms (qs ++ rs) f k
    ]

under-element : (x : Render.Piece) (i : Path.Path) (tag : Text) (qs : List Render.Piece) (f : Render.Forest) → Under i f → InElement x i tag qs f → Within i (Changes.piece_path x)
under-element x i tag qs f h (of_parts l m) = under_by i m.3 (inr (within_itself i))
under-element x i tag qs f h (itself a ms q) = under_by i q (within_itself i)
under-element x i tag qs f h (inside m) = h x m

abbrev pub UnderComponents : Render.Components → Type 0
UnderComponents c = (i : Path.Path) (gs : Scope.NamedPairs) (w : Scope.Passed) → Under i (c i gs w)

abbrev pub UnderYields : Render.Yields → Type 0
UnderYields y = (n : Text) (vs : List Scope.Pair) (i : Path.Path) → Under i (y n vs i)

under-if : (i : Path.Path) (b : Bool) (f g : Render.Forest) → Under (Path.main ∷ i) f → Under (Path.otherwise ∷ i) g → (x : Render.Piece) → In x (if b then Render.region_at (Path.main ∷ i) f else Render.region_at (Path.otherwise ∷ i) g) → Within i (Changes.piece_path x)
under-if i true f g h k x m = within_outer Path.main i _ (under-region Path.main i f h x m)
under-if i false f g h k x m = within_outer Path.otherwise i _ (under-region Path.otherwise i g k x m)

pub under_entries : (one : Path.Path → Render.Entry → Render.Forest) → ((i : Path.Path) (x : Render.Entry) → Under i (one i x)) → (i : Path.Path) (xs : List Render.Entry) → Under i (Render.render_entries one i xs)
under_entries one h i [] x m = absurd m
under_entries one h i (z ∷ zs) x (inl (inl q)) = under_by i q (inr (within_itself i))
under_entries one h i (z ∷ zs) x (inl (inr m)) = let k = Path.item z.key z.occurrence in within_outer k i _ (under-comment (k ∷ i) (one (k ∷ i) z) (h (k ∷ i) z) x m)
under_entries one h i (z ∷ zs) x (inr m) = under_entries one h i zs x m

under-items : (i : Path.Path) (vs : Values Path.Path) (f : Values Path.Path → Render.Forest) (o : Render.Forest) → ((vs : Values Path.Path) → Under (Path.items ∷ i) (f vs)) → Under (Path.otherwise ∷ i) o → Under i (Render.items_or_else i vs f o)
under-items i no_values f o h k x m = within_outer Path.otherwise i _ (under-region Path.otherwise i o k x m)
under-items i (value v vs) f o h k x (inl (inl q)) = under_by i q (inr (within_itself i))
under-items i (value v vs) f o h k x (inl (inr m)) = within_outer Path.items i _ (h (value v vs) x m)
under-items i (value v vs) f o h k x (inr m) = absurd m

module _ (app : App) (σ : Eval.Store) where
  module _ (d : Render.Components) (y : Render.Yields) (h : UnderComponents d) (k : UnderYields y) where
    mutual
      pub under_stmt : (q : Template.Stmt) (w : Scope.Scope) (i : Path.Path) → Under i (Render.render_stmt app σ d y w i q)
      under_stmt (Template.text_stmt z) w i = λ x m. elim m [ inl q ↦ under_by i q (within_itself i) | inr q ↦ absurd q ]
      under_stmt (Template.comment_stmt z) w i = λ x m. elim m [ inl q ↦ under_by i q (within_itself i) | inr q ↦ absurd q ]
      under_stmt (Template.put z) w i = λ x m. elim m [ inl q ↦ under_by i q (within_itself i) | inr l ↦ elim l [ inl q ↦ under_by i q (within_itself i) | inr q ↦ absurd q ] ]
      under_stmt (Template.element tag ps b) w i = λ x m. under-element x i tag _ _ (λ z l. from_within 0 i _ (under_body b w i 0 z l)) (in_element app σ x i tag (Parts.written_parts w ps) _ m)
      under_stmt (Template.component_stmt n ps gs bs) w i = λ x m. within_outer (Path.into n) i _ (h (Path.into n ∷ i) _ _ x m)
      under_stmt (Template.if_stmt z u b o) w i = λ x m. elim m [
        | inl q ↦ under_by i q (within_itself i)
        | inr l ↦
            under-if i (Eval.takes_first u (Eval.eval app σ w z).value) _ _ (λ z l. from_within 0 _ _ (under_body b w (Path.main ∷ i) 0 z l)) (λ z l. from_within 0 _ _ (under_body o w (Path.otherwise ∷ i) 0 z l)) x l
      ]
      under_stmt (Template.each z n ns b o) w i = λ x m. elim m [
        | inl q ↦ under_by i q (within_itself i)
        | inr l ↦
            under-items i (Render.values_listed (Eval.eval app σ w z).value) _ _
            (λ vs. under_entries _ (λ j en z l. from_within 0 _ _ (under_body b (Scope.with_locals (Scope.bind ns (Render.entry_pairs j en)) w) j 0 z l)) (Path.items ∷ i) (Render.entries n 0 [] vs))
            (λ z l. from_within 0 _ _ (under_body o w (Path.otherwise ∷ i) 0 z l)) x l
      ]
      under_stmt (Template.let_stmt es ns b) w i = λ x m. within_outer Path.main i _ (from_within 0 _ _ (under_body b (Scope.with_locals (Scope.bind ns (Eval.eval_all app σ w es)) w) (Path.main ∷ i) 0 x m))
      under_stmt (Template.yield es n) w i = k n _ i

      pub under_body : (b : Template.Body) (w : Scope.Scope) (i : Path.Path) (n : ℕ) (x : Render.Piece) → In x (Render.render_body app σ d y w i n b) → From n i (Changes.piece_path x)
      under_body Template.end w i n x m = absurd m
      under_body (Template.stmt q b) w i n x m = elim (in_join x (Render.render_stmt app σ d y w (Path.at n ∷ i) q) (Render.render_body app σ d y w i (suc n) b) m) [
        | inl l ↦ (n, omega arith, under_stmt q w (Path.at n ∷ i) x l)
        | inr l ↦ let f = under_body b w i (suc n) x l in let g : suc n ≤ f.0 = f.1 in (f.0, omega arith, f.2)
      ]

  under-block : (b : Option Render.Block) (f : Render.Block → Render.Forest) (i : Path.Path) → ((b : Render.Block) → Under i (f b)) → Under i (Render.in_block b f)
  under-block None f i h x m = absurd m
  under-block (Some b) f i h x m = h b x m

  pub under_yields : (d : Render.Components) → UnderComponents d → (w : Scope.Passed) → UnderYields (Render.yields_of app σ d w)
  under_yields d h Scope.nothing_passed n vs i = λ x m. absurd m
  under_yields d h (Scope.passed ps bs (Scope.scope j b l w)) n vs i =
      under-block (Render.block_named n bs) _ i
      (λ z x m. within_outer (Path.slot n) i _ (from_within 0 _ _ (under_body d (Render.yields_of app σ d w) h (under_yields d h w) z.body (Scope.scope j b (l ++ Scope.bind z.params vs) w) (Path.slot n ∷ i) 0 x m)))

  pub under_components : (n : ℕ) → UnderComponents (Render.components_at n app σ)
  under_components zero i gs w x (inl q) = under_by i q (within_itself i)
  under_components zero i gs w x (inr q) = absurd q
  under_components (suc n) i gs w x (inl (inl q)) = under_by i q (within_itself i)
  under_components (suc n) i gs w x (inl (inr m)) =
      from_within 0 i _ (under_body (Render.components_at n app σ) _ (under_components n) (under_yields _ (under_components n) w) (Eval.class_at app i).template (Scope.scope i gs [] w) i 0 x m)
  under_components (suc n) i gs w x (inr q) = absurd q
