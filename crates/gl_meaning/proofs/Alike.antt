-- Two renderings of an app: at one path stands one kind of node, and a position whose sources are untouched keeps its Pairs.
use Rattle.gl_meaning.specs.Laws.{InPiece, In, Within, NodeKind, node_kind, Keeps, KeepsAll, keeps_none, keeps_more}
use Rattle.std.proofs.Common.{◌≡◌, ◌≤◌, ◌<◌, ℕ, zero, suc, List, [], ◌∷◌, ◌++◌, map, cond, Bool, true, false, Option, Some, None, refl, sym, ap, ◌∙◌, subst, inl, inr, arith}
use Rattle.std.specs.Prelude.{if◌then◌else◌, filter, codes}
use Rattle.std.specs.Str.{bytes_eq}
use Rattle.gl_value.specs.Value.{Values, no_values, value, count_value}
use Rattle.gl_meaning.proofs.Pieces.{some_same}
use Rattle.gl_meaning.proofs.Under.{in_join, in_left, in_right, within_itself, steps_apart, not_below, Under, From, from_within, in_comment, IsPartStep, InElement, parts_of, of_parts, itself, inside, in_element, in-forest-append, UnderComponents, UnderYields, under_stmt, under_body, under_yields, under_components, under_by, under_entries}
use Rattle.gl_base.specs.Texts.{Text}
use Rattle.gl_meaning.specs.App.{App}
use Rattle.gl_meaning.proofs.Frame
use Rattle.gl_meaning.specs.Changes
use Rattle.gl_meaning.specs.Eval
use Rattle.gl_meaning.specs.Parts
use Rattle.gl_meaning.specs.Path
use Rattle.gl_meaning.specs.Render
use Rattle.gl_meaning.specs.Scope
use Rattle.gl_ast.specs.Template

-- the Pairs of a position
abbrev pub read_pairs : Render.Piece → Option (List Scope.Pair)
read_pairs (Render.position i vs) = Some vs
read_pairs _ = None

-- the scope of a component's template
abbrev pub read_scope : Render.Piece → Option Scope.Scope
read_scope (Render.component i s f) = Some s
read_scope _ = None

abbrev pub KindsAgree : Option NodeKind → Option NodeKind → Type 0
KindsAgree None y = Unit {0}
KindsAgree (Some a) None = Unit {0}
KindsAgree (Some a) (Some b) = a ≡ b

kinds-right : (x : Option NodeKind) → KindsAgree x None
kinds-right None = tt
kinds-right (Some a) = tt

-- as the values that the parameters of items stand for
abbrev pub SameIndex : ℕ → ℕ → Type 0
SameIndex n m = let v : Path.V = count_value n in v ≡ count_value m

-- each piece of the one with each of the other
abbrev pub EachPair : (Render.Piece → Render.Piece → Type 0) → Render.Forest → Render.Forest → Type 0
EachPair P f g = (x y : Render.Piece) → In x f → In y g → P x y

module _ (U : Scope.Source → Type 0) where
  abbrev pub PairsAgree : Option (List Scope.Pair) → Option (List Scope.Pair) → Type 0
  PairsAgree None y = Unit {0}
  PairsAgree (Some vs) None = Unit {0}
  PairsAgree (Some vs) (Some ws) = KeepsAll U vs ws

  pairs-right : (x : Option (List Scope.Pair)) → PairsAgree x None
  pairs-right None = tt
  pairs-right (Some vs) = tt

  abbrev pub ScopesAgree : Option Scope.Scope → Option Scope.Scope → Type 0
  ScopesAgree None y = Unit {0}
  ScopesAgree (Some v) None = Unit {0}
  ScopesAgree (Some v) (Some w) = Frame.KeepsScope U v w

  scopes-right : (x : Option Scope.Scope) → ScopesAgree x None
  scopes-right None = tt
  scopes-right (Some v) = tt

  abbrev pub Related : Render.Piece → Render.Piece → Type 0
  Related x y = Changes.piece_path x ≡ Changes.piece_path y → KindsAgree (node_kind x) (node_kind y) × PairsAgree (read_pairs x) (read_pairs y) × ScopesAgree (read_scope x) (read_scope y)

  -- an item that persists with its value and index untouched has them still
  abbrev pub ItemsKeep : Render.Piece → Render.Piece → Type 0
  ItemsKeep (Render.item_region i v n f) (Render.item_region j w m g) = i ≡ j → (U (Scope.item_value i) → v ≡ w) × (U (Scope.item_index i) → SameIndex n m)
  ItemsKeep _ _ = Unit {0}

  abbrev pub Alike : Render.Forest → Render.Forest → Type 0
  Alike f g = EachPair ItemsKeep f g → EachPair Related f g

  abbrev Apart : Render.Forest → Render.Forest → Type 0
  Apart f g = EachPair (λ x y. Changes.piece_path x ≡ Changes.piece_path y → ⊥) f g

  related-by : {x y a b : Render.Piece} → x ≡ a → y ≡ b → Related a b → Related x y
  related-by {x} {y} {a} {b} q o h = subst (λ z. Related z y) (sym q) (subst (λ z. Related a z) (sym o) h)

  -- what is neither a node, nor a position, nor a component is related to all
  mark-left : (x y a : Render.Piece) → x ≡ a → node_kind a ≡ None → read_pairs a ≡ None → read_scope a ≡ None → Related x y
  mark-left x y a q n o c e =
      (subst (λ z. KindsAgree z (node_kind y)) (sym (ap node_kind q ∙ n)) tt, subst (λ z. PairsAgree z (read_pairs y)) (sym (ap read_pairs q ∙ o)) tt, subst (λ z. ScopesAgree z (read_scope y)) (sym (ap read_scope q ∙ c)) tt)

  mark-right : (x y a : Render.Piece) → y ≡ a → node_kind a ≡ None → read_pairs a ≡ None → read_scope a ≡ None → Related x y
  mark-right x y a q n o c e = (
    subst (λ z. KindsAgree (node_kind x) z) (sym (ap node_kind q ∙ n)) (kinds-right (node_kind x)),
    subst (λ z. PairsAgree (read_pairs x) z) (sym (ap read_pairs q ∙ o)) (pairs-right (read_pairs x)),
    subst (λ z. ScopesAgree (read_scope x) z) (sym (ap read_scope q ∙ c)) (scopes-right (read_scope x)),
  )

  -- a position, beside what isn't one
  position-left : (x y a b : Render.Piece) → x ≡ a → y ≡ b → node_kind a ≡ None → read_pairs b ≡ None → read_scope a ≡ None → Related x y
  position-left x y a b q o n e c =
      related-by q o (λ _. (subst (λ z. KindsAgree z (node_kind b)) (sym n) tt, subst (λ z. PairsAgree (read_pairs a) z) (sym e) (pairs-right (read_pairs a)), subst (λ z. ScopesAgree z (read_scope b)) (sym c) tt))

  position-right : (x y a b : Render.Piece) → x ≡ a → y ≡ b → read_pairs a ≡ None → node_kind b ≡ None → read_scope a ≡ None → Related x y
  position-right x y a b q o n e c =
      related-by q o (λ _. (subst (λ z. KindsAgree (node_kind a) z) (sym e) (kinds-right (node_kind a)), subst (λ z. PairsAgree z (read_pairs b)) (sym n) tt, subst (λ z. ScopesAgree z (read_scope b)) (sym c) tt))

  alike-apart : (f g : Render.Forest) → Apart f g → Alike f g
  alike-apart f g a h x y m n q = absurd (a x y m n q)

  apart-at : (i : Path.Path) (a b : Path.PathStep) (f g : Render.Forest) → (a ≡ b → ⊥) → Under (a ∷ i) f → Under (b ∷ i) g → Apart f g
  apart-at i a b f g h u w x y m n q = h (steps_apart a b i (Changes.piece_path x) (u x m) (subst (λ z. Within (b ∷ i) z) (sym q) (w y n)))

  alike-join : (f f' g g' : Render.Forest) → Alike f g → Alike f' g' → Apart f g' → Apart f' g → Alike (Render.join f f') (Render.join g g')
  alike-join f f' g g' h h' a b items x y m n =
      elim (in_join x f f' m) [
        | inl m1 ↦ elim (in_join y g g' n) [ inl n1 ↦ h (λ z w o l. items z w (in_left z f f' o) (in_left w g g' l)) x y m1 n1 | inr n1 ↦ λ q. absurd (a x y m1 n1 q) ]
        | inr m1 ↦ elim (in_join y g g' n) [ inl n1 ↦ λ q. absurd (b x y m1 n1 q) | inr n1 ↦ h' (λ z w o l. items z w (in_right z f f' o) (in_right w g g' l)) x y m1 n1 ]
      ]

  abbrev AllFrom : Path.Path → Render.Forest → Type 0
  AllFrom i f = (x : Render.Piece) → In x f → From 0 i (Changes.piece_path x)

  empty-at : (n : ℕ) → Path.empty ≡ Path.at n → ⊥
  empty-at n q = cc

  not-empty : (i : Path.Path) (f : Render.Forest) → AllFrom i f → (x : Render.Piece) → In x f → Changes.piece_path x ≡ Path.empty ∷ i → ⊥
  not-empty i f u x m q = let o = u x m in empty-at o.0 (steps_apart Path.empty (Path.at o.0) i (Path.empty ∷ i) (within_itself (Path.empty ∷ i)) (subst (λ z. Within (Path.at o.0 ∷ i) z) q o.2))

  -- what stands in a branch or an item
  alike-comment : (i : Path.Path) (f g : Render.Forest) → Alike f g → AllFrom i f → AllFrom i g → Alike (Render.or_comment i f) (Render.or_comment i g)
  alike-comment i f g h u w items x y m n =
      elim (in_comment x i f m) [
        | inl m1 ↦ elim (in_comment y i g n) [ inl n1 ↦ h (λ z v o l. items z v (in_left z f _ o) (in_left v g _ l)) x y m1 n1 | inr q ↦ λ o. absurd (not-empty i f u x m1 (o ∙ ap Changes.piece_path q)) ]
        | inr q ↦ elim (in_comment y i g n) [ inl n1 ↦ λ o. absurd (not-empty i g w y n1 (sym o ∙ ap Changes.piece_path q)) | inr o ↦ related-by q o (λ _. (refl, tt, tt)) ]
      ]

  alike-region : (i : Path.Path) (f g : Render.Forest) → Alike f g → AllFrom i f → AllFrom i g → Alike (Render.region_at i f) (Render.region_at i g)
  alike-region i f g h u w items x y (inl (inl q)) n = mark-left x y _ q refl refl refl
  alike-region i f g h u w items x y (inl (inr m)) (inl (inl q)) = mark-right x y _ q refl refl refl
  alike-region i f g h u w items x y (inl (inr m)) (inl (inr n)) = alike-comment i f g h u w (λ z v o l. items z v (inl (inr o)) (inl (inr l))) x y m n
  alike-region i f g h u w items x y (inl (inr m)) (inr n) = absurd n
  alike-region i f g h u w items x y (inr m) n = absurd m

  -- a position at i, with what stands below it
  Below : Path.Path → Render.Forest → Type 0
  Below i f = (x : Render.Piece) → In x f → Changes.piece_path x ≡ i → ⊥

  below-by : (i : Path.Path) (l : Path.PathStep) (f : Render.Forest) → Under (l ∷ i) f → Below i f
  unfolding Below
  below-by i l f u x m q = not_below l i (subst (λ z. Within (l ∷ i) z) q (u x m))

  alike-position : (n : ℕ) (i : Path.Path) (vs ws : List Scope.Pair) (f g : Render.Forest) → KeepsAll U vs ws → Below (Path.at n ∷ i) f → Below (Path.at n ∷ i) g → Alike f g
      → Alike (Render.piece (Render.position (Path.at n ∷ i) vs) f) (Render.piece (Render.position (Path.at n ∷ i) ws) g)
  unfolding Below
  alike-position n i vs ws f g h u w a items x y (inl q) (inl o) = related-by q o (λ _. (tt, h, tt))
  alike-position n i vs ws f g h u w a items x y (inl q) (inr o) = λ z. absurd (w y o (sym z ∙ ap Changes.piece_path q))
  alike-position n i vs ws f g h u w a items x y (inr q) (inl o) = λ z. absurd (u x q (z ∙ ap Changes.piece_path o))
  alike-position n i vs ws f g h u w a items x y (inr q) (inr o) = a (λ z v m l. items z v (inr m) (inr l)) x y q o

  alike-put : (n : ℕ) (i : Path.Path) (v w : Scope.Pair) → Keeps U v w → Alike (Render.put_of (Path.at n ∷ i) v) (Render.put_of (Path.at n ∷ i) w)
  alike-put n i v w h items x y (inl q) (inl o) = related-by q o (λ _. (tt, keeps_more h keeps_none, tt))
  alike-put n i v w h items x y (inl q) (inr (inl o)) = related-by q o (λ _. (tt, tt, tt))
  alike-put n i v w h items x y (inr (inl q)) (inl o) = related-by q o (λ _. (tt, tt, tt))
  alike-put n i v w h items x y (inr (inl q)) (inr (inl o)) = related-by q o (λ _. (refl, tt, tt))
  alike-put n i v w h items x y (inl q) (inr (inr o)) = absurd o
  alike-put n i v w h items x y (inr (inl q)) (inr (inr o)) = absurd o
  alike-put n i v w h items x y (inr (inr q)) o = absurd q

  all-within : (i : Path.Path) (f : Render.Forest) → AllFrom i f → Under i f
  all-within i f u x m = from_within 0 i (Changes.piece_path x) (u x m)

  under-comment : (i : Path.Path) (f : Render.Forest) → AllFrom i f → Under i (Render.or_comment i f)
  under-comment i f u x m = elim (in_comment x i f m) [ inl l ↦ from_within 0 i _ (u x l) | inr q ↦ under_by i q (inr (within_itself i)) ]

  under-region : (l : Path.PathStep) (i : Path.Path) (f : Render.Forest) → AllFrom (l ∷ i) f → Under (l ∷ i) (Render.region_at (l ∷ i) f)
  under-region l i f u x (inl (inl q)) = under_by (l ∷ i) q (within_itself (l ∷ i))
  under-region l i f u x (inl (inr m)) = under-comment (l ∷ i) f u x m
  under-region l i f u x (inr m) = absurd m

  main-otherwise : Path.main ≡ Path.otherwise → ⊥
  main-otherwise q = cc

  items-otherwise : Path.items ≡ Path.otherwise → ⊥
  items-otherwise q = cc

  abbrev branches : Path.Path → Bool → Render.Forest → Render.Forest → Render.Forest
  branches i b f g = if b then Render.region_at (Path.main ∷ i) f else Render.region_at (Path.otherwise ∷ i) g

  below-branches : (i : Path.Path) (b : Bool) (f g : Render.Forest) → AllFrom (Path.main ∷ i) f → AllFrom (Path.otherwise ∷ i) g → Below i (branches i b f g)
  below-branches i true f g u w = below-by i Path.main _ (under-region Path.main i f u)
  below-branches i false f g u w = below-by i Path.otherwise _ (under-region Path.otherwise i g w)

  alike-branches : (i : Path.Path) (a b : Bool) (f g f' g' : Render.Forest) → Alike f f' → Alike g g' → AllFrom (Path.main ∷ i) f → AllFrom (Path.main ∷ i) f' → AllFrom (Path.otherwise ∷ i) g → AllFrom (Path.otherwise ∷ i) g'
      → Alike (branches i a f g) (branches i b f' g')
  alike-branches i true true f g f' g' h h' u u' w w' = alike-region (Path.main ∷ i) f f' h u u'
  alike-branches i false false f g f' g' h h' u u' w w' = alike-region (Path.otherwise ∷ i) g g' h' w w'
  alike-branches i true false f g f' g' h h' u u' w w' = alike-apart (Render.region_at (Path.main ∷ i) f) (Render.region_at (Path.otherwise ∷ i) g') (apart-at i Path.main Path.otherwise (Render.region_at (Path.main ∷ i) f) (Render.region_at (Path.otherwise ∷ i) g') main-otherwise (under-region Path.main i f u) (under-region Path.otherwise i g' w'))
  alike-branches i false true f g f' g' h h' u u' w w' = alike-apart (Render.region_at (Path.otherwise ∷ i) g) (Render.region_at (Path.main ∷ i) f') (apart-at i Path.otherwise Path.main (Render.region_at (Path.otherwise ∷ i) g) (Render.region_at (Path.main ∷ i) f') (λ q. main-otherwise (sym q)) (under-region Path.otherwise i g w) (under-region Path.main i f' u'))

  alike-element : (app : App) (σ τ : Eval.Store) (i : Path.Path) (tag : Text) (ws vs : List (Parts.Written Scope.Scope)) (f g : Render.Forest) → EachPair Related (Render.forest_of (parts_of app σ i ws)) (Render.forest_of (parts_of app τ i vs)) → Alike f g → AllFrom i f → AllFrom i g → Alike (Render.element_of app σ i tag ws f) (Render.element_of app τ i tag vs g)
  alike-element app σ τ i tag ws vs f g hp h u w items x y m n = by-kind (in_element app σ x i tag ws f m) (in_element app τ y i tag vs g n) where
    in-body : (υ : Eval.Store) (us : List (Parts.Written Scope.Scope)) (f : Render.Forest) (z : Render.Piece) → In z f → In z (Render.element_of app υ i tag us f)
    in-body υ us f z o = in_right z (Render.forest_of (Render.attr_positions i (Parts.attributes_in us) (Parts.taken_pairs app υ (Parts.attributes_in us)) ++ Render.modifier_positions (Parts.modifiers_of app υ i 0 (Parts.modifiers_in us)))) (Render.single (Render.element_node i tag (Parts.attrs_from (Parts.attributes_in us) (Parts.taken_pairs app υ (Parts.attributes_in us))) (Parts.modifiers_of app υ i 0 (Parts.modifiers_in us)) f)) (inl (inr o))

    below : (f : Render.Forest) (z : Render.Piece) → AllFrom i f → In z f → Changes.piece_path z ≡ i → ⊥
    below f z u o q = let v = u z o in not_below (Path.at v.0) i (subst (λ z. Within (Path.at v.0 ∷ i) z) q v.2)

    part-at : (l : Path.PathStep) (n : ℕ) → IsPartStep l → l ≡ Path.at n → ⊥
    part-at l n a q = subst IsPartStep q a

    apart-part : (l : Path.PathStep) (f : Render.Forest) (z : Render.Piece) → IsPartStep l → AllFrom i f → In z f → l ∷ i ≡ Changes.piece_path z → ⊥
    apart-part l f z a u o q = let v = u z o in part-at l v.0 a (steps_apart l (Path.at v.0) i (l ∷ i) (within_itself (l ∷ i)) (subst (λ j. Within (Path.at v.0 ∷ i) j) (sym q) v.2))

    by-kind : InElement x i tag (parts_of app σ i ws) f → InElement y i tag (parts_of app τ i vs) g → Related x y
    by-kind (of_parts a o) (of_parts b q) = hp x y a b
    by-kind (of_parts a o) (itself b ns q) = position-left x y _ _ o.3 q refl refl refl
    by-kind (of_parts a o) (inside q) = λ z. absurd (apart-part o.0 g y o.2 w q (sym (ap Changes.piece_path o.3) ∙ z))
    by-kind (itself a ms o) (of_parts b q) = position-right x y _ _ o q.3 refl refl refl
    by-kind (inside o) (of_parts b q) = λ z. absurd (apart-part q.0 f x q.2 u o (sym (ap Changes.piece_path q.3) ∙ sym z))
    by-kind (itself a ms o) (itself b ns q) = related-by o q (λ _. (refl, tt, tt))
    by-kind (itself a ms o) (inside q) = λ z. absurd (below g y w q (sym z ∙ ap Changes.piece_path o))
    by-kind (inside o) (itself b ns q) = λ z. absurd (below f x u o (z ∙ ap Changes.piece_path q))
    by-kind (inside o) (inside q) = h (λ z v a b. items z v (in-body σ ws f z a) (in-body τ vs g v b)) x y o q

  -- what stands among rendered items: the item itself, or what is in its body
  abbrev step_of : Render.Entry → Path.PathStep
  step_of x = Path.item x.key x.occurrence

  abbrev region_of : (Path.Path → Render.Entry → Render.Forest) → Path.Path → Path.PathStep → Render.Entry → Render.Piece
  region_of one i l x = Render.item_region (l ∷ i) x.value x.index (Render.or_comment (l ∷ i) (one (l ∷ i) x))

  data InEntry (one : Path.Path → Render.Entry → Render.Forest) (i : Path.Path) (f : Render.Forest) (x : Render.Piece) : Type 0 where
    in_entry : (z : Render.Entry) (l : Path.PathStep) → ((y : Render.Piece) → InPiece y (region_of one i l z) → In y f) → InPiece x (region_of one i l z) → InEntry one i f x

  entry-inside : (one : Path.Path → Render.Entry → Render.Forest) (i : Path.Path) (f g : Render.Forest) (x : Render.Piece) → ((y : Render.Piece) → In y f → In y g) → InEntry one i f x → InEntry one i g x
  entry-inside one i f g x h (in_entry z l u m) = in_entry z l (λ y n. h y (u y n)) m

  in-entries : (one : Path.Path → Render.Entry → Render.Forest) (i : Path.Path) (zs : List Render.Entry) (x : Render.Piece) → In x (Render.render_entries one i zs) → InEntry one i (Render.render_entries one i zs) x
  in-entries one i [] x m = absurd m
  in-entries one i (z ∷ zs) x (inl m) = in_entry z (step_of z) (λ y n. inl n) m
  in-entries one i (z ∷ zs) x (inr m) = entry-inside one i (Render.render_entries one i zs) _ x (λ y n. inr n) (in-entries one i zs x m)

  abbrev AlikeOne : (Path.Path → Render.Entry → Render.Forest) → (Path.Path → Render.Entry → Render.Forest) → Type 0
  AlikeOne one two = (i : Path.Path) (x y : Render.Entry) → KeepsAll U (Render.entry_pairs i x) (Render.entry_pairs i y) → Alike (one i x) (two i y)

  abbrev OneFrom : (Path.Path → Render.Entry → Render.Forest) → Type 0
  OneFrom one = (i : Path.Path) (x : Render.Entry) → AllFrom i (one i x)

  pub entry-keeps : (j : Path.Path) (x y : Render.Entry) → (U (Scope.item_value j) → x.value ≡ y.value) × (U (Scope.item_index j) → SameIndex x.index y.index) → KeepsAll U (Render.entry_pairs j x) (Render.entry_pairs j y)
  entry-keeps j x y h = keeps_more (λ u. ap (λ v. record { value = v; sources = Scope.item_value j ∷ [] }) (h.0 u.0))
      (keeps_more (λ u. ap (λ v. record { value = v; sources = Scope.item_index j ∷ [] }) (h.1 u.0)) keeps_none)

  -- two items of one step
  entry-alike : (one two : Path.Path → Render.Entry → Render.Forest) → AlikeOne one two → OneFrom one → OneFrom two → (i : Path.Path) (l : Path.PathStep) (a b : Render.Entry) (x y : Render.Piece)
      → ((z w : Render.Piece) → InPiece z (region_of one i l a) → InPiece w (region_of two i l b) → ItemsKeep z w)
      → InPiece x (region_of one i l a) → InPiece y (region_of two i l b) → Related x y
  entry-alike one two h u w i l a b x y items (inl q) n = mark-left x y (region_of one i l a) q refl refl refl
  entry-alike one two h u w i l a b x y items (inr m) (inl q) = mark-right x y (region_of two i l b) q refl refl refl
  entry-alike one two h u w i l a b x y items (inr m) (inr n) =
      let keep = items (region_of one i l a) (region_of two i l b) (inl refl) (inl refl) refl in
      alike-comment (l ∷ i) (one (l ∷ i) a) (two (l ∷ i) b) (h (l ∷ i) a b (entry-keeps (l ∷ i) a b keep)) (u (l ∷ i) a) (w (l ∷ i) b) (λ z v o q. items z v (inr o) (inr q)) x y m n

  entry-within : (one : Path.Path → Render.Entry → Render.Forest) → OneFrom one → (i : Path.Path) (l : Path.PathStep) (a : Render.Entry) (x : Render.Piece) → InPiece x (region_of one i l a) → Within (l ∷ i) (Changes.piece_path x)
  entry-within one u i l a x (inl q) = under_by (l ∷ i) q (within_itself (l ∷ i))
  entry-within one u i l a x (inr m) = under-comment (l ∷ i) (one (l ∷ i) a) (u (l ∷ i) a) x m

  two-entries : (one two : Path.Path → Render.Entry → Render.Forest) → AlikeOne one two → OneFrom one → OneFrom two → (i : Path.Path) (f g : Render.Forest) (x y : Render.Piece) → EachPair ItemsKeep f g → InEntry one i f x → InEntry two i g y → Related x y
  two-entries one two h u w i f g x y items (in_entry a l o m) (in_entry b n q v) = λ z.
      let same : n ≡ l = steps_apart n l i (Changes.piece_path y) (entry-within two w i n b y v) (subst (λ j. Within (l ∷ i) j) z (entry-within one u i l a x m)) in
      let o' = subst (λ t. (y : Render.Piece) → InPiece y (region_of two i t b) → In y g) same q in
      let v' = subst (λ t. InPiece y (region_of two i t b)) same v in
      entry-alike one two h u w i l a b x y (λ s t c d. items s t (o s c) (o' t d)) m v' z

  alike-entries : (one two : Path.Path → Render.Entry → Render.Forest) → AlikeOne one two → OneFrom one → OneFrom two → (i : Path.Path) (xs ys : List Render.Entry) → Alike (Render.render_entries one i xs) (Render.render_entries two i ys)
  alike-entries one two h u w i xs ys items x y m n = two-entries one two h u w i (Render.render_entries one i xs) (Render.render_entries two i ys) x y items (in-entries one i xs x m) (in-entries two i ys y n)

  items-under : (i : Path.Path) (f : Render.Forest) → Under (Path.items ∷ i) f → Under (Path.items ∷ i) (Render.single (Render.branch (Path.items ∷ i) f))
  items-under i f u x (inl (inl q)) = under_by (Path.items ∷ i) q (within_itself (Path.items ∷ i))
  items-under i f u x (inl (inr m)) = u x m
  items-under i f u x (inr m) = absurd m

  abbrev UnderItems : Path.Path → (Values Path.Path → Render.Forest) → Type 0
  UnderItems i f = (vs : Values Path.Path) → Under (Path.items ∷ i) (f vs)

  below-items : (i : Path.Path) (vs : Values Path.Path) (f : Values Path.Path → Render.Forest) (o : Render.Forest) → UnderItems i f → AllFrom (Path.otherwise ∷ i) o → Below i (Render.items_or_else i vs f o)
  below-items i no_values f o u w = below-by i Path.otherwise (Render.region_at (Path.otherwise ∷ i) o) (under-region Path.otherwise i o w)
  below-items i (value v vs) f o u w = below-by i Path.items (Render.single (Render.branch (Path.items ∷ i) (f (value v vs)))) (items-under i (f (value v vs)) (u (value v vs)))

  alike-branch : (i : Path.Path) (f g : Render.Forest) → Alike f g → Alike (Render.single (Render.branch i f)) (Render.single (Render.branch i g))
  alike-branch i f g h items x y (inl (inl q)) n = mark-left x y (Render.branch i f) q refl refl refl
  alike-branch i f g h items x y (inl (inr m)) (inl (inl q)) = mark-right x y (Render.branch i g) q refl refl refl
  alike-branch i f g h items x y (inl (inr m)) (inl (inr n)) = h (λ z v o l. items z v (inl (inr o)) (inl (inr l))) x y m n
  alike-branch i f g h items x y (inl (inr m)) (inr n) = absurd n
  alike-branch i f g h items x y (inr m) n = absurd m

  alike-items : (i : Path.Path) (vs ws : Values Path.Path) (f g : Values Path.Path → Render.Forest) (o o' : Render.Forest) → ((vs ws : Values Path.Path) → Alike (f vs) (g ws)) → Alike o o' → UnderItems i f → UnderItems i g
      → AllFrom (Path.otherwise ∷ i) o → AllFrom (Path.otherwise ∷ i) o' → Alike (Render.items_or_else i vs f o) (Render.items_or_else i ws g o')
  alike-items i no_values no_values f g o o' h k uf ug uo uo' = alike-region (Path.otherwise ∷ i) o o' k uo uo'
  alike-items i (value v vs) (value w ws) f g o o' h k uf ug uo uo' = alike-branch (Path.items ∷ i) (f (value v vs)) (g (value w ws)) (h (value v vs) (value w ws))
  alike-items i no_values (value w ws) f g o o' h k uf ug uo uo' =
      let a = Render.region_at (Path.otherwise ∷ i) o in let b = Render.single (Render.branch (Path.items ∷ i) (g (value w ws))) in
      alike-apart a b (apart-at i Path.otherwise Path.items a b (λ q. items-otherwise (sym q)) (under-region Path.otherwise i o uo) (items-under i (g (value w ws)) (ug (value w ws))))
  alike-items i (value v vs) no_values f g o o' h k uf ug uo uo' =
      let a = Render.single (Render.branch (Path.items ∷ i) (f (value v vs))) in let b = Render.region_at (Path.otherwise ∷ i) o' in
      alike-apart a b (apart-at i Path.items Path.otherwise a b items-otherwise (items-under i (f (value v vs)) (uf (value v vs))) (under-region Path.otherwise i o' uo'))

  pub keeps-bind : (ns : List Text) {vs ws : List Scope.Pair} → KeepsAll U vs ws → Frame.KeepsNames U (Scope.bind ns vs) (Scope.bind ns ws)
  keeps-bind [] h = Frame.names_none
  keeps-bind (n ∷ ns) keeps_none = Frame.names_more (λ u. refl) (keeps-bind ns keeps_none)
  keeps-bind (n ∷ ns) (keeps_more h hs) = Frame.names_more h (keeps-bind ns hs)

  pub keeps-append : {vs ws xs ys : Scope.NamedPairs} → Frame.KeepsNames U vs ws → Frame.KeepsNames U xs ys → Frame.KeepsNames U (vs ++ xs) (ws ++ ys)
  keeps-append Frame.names_none g = g
  keeps-append (Frame.names_more h hs) g = Frame.names_more h (keeps-append hs g)

  pub keeps-locals : {v w : Scope.Scope} {l m : Scope.NamedPairs} → Frame.KeepsScope U v w → Frame.KeepsNames U l m → Frame.KeepsScope U (Scope.with_locals l v) (Scope.with_locals m w)
  keeps-locals (Frame.keeps_scope a b c) h = Frame.keeps_scope a (keeps-append b h) c

  at-number : Path.PathStep → ℕ
  at-number (Path.at n) = n
  at-number _ = 0

  at-same : (n m : ℕ) → Path.at n ≡ Path.at m → n ≡ m
  unfolding at-number
  at-same n m q = ap at-number q

  module _ (app : App) (σ τ : Eval.Store) (cells : (i : Path.Path) (x : Text) → U (Scope.cell i x) → Eval.cell_value app σ i x ≡ Eval.cell_value app τ i x) where
    pub keeps-given : {v w : Scope.Scope} → Frame.KeepsScope U v w → (gs : List (Text × Template.AttrValue)) → Frame.KeepsNames U (Eval.eval_given app σ v gs) (Eval.eval_given app τ w gs)
    keeps-given h [] = Frame.names_none
    keeps-given h (g ∷ gs) = Frame.names_more (Frame.value_keeps U app σ τ cells h g.1) (keeps-given h gs)

    -- what the parts of an element read
    pub data KeepsWritten : List (Parts.Written Scope.Scope) → List (Parts.Written Scope.Scope) → Type 0 where
      written_none : KeepsWritten [] []
      written_more : {q : Template.Part} {v w : Scope.Scope} {xs ys : List (Parts.Written Scope.Scope)} → Frame.KeepsScope U v w → KeepsWritten xs ys → KeepsWritten (record { part = q; by = v } ∷ xs) (record { part = q; by = w } ∷ ys)

    pub data KeepsValues : List (Parts.WrittenValue Scope.Scope) → List (Parts.WrittenValue Scope.Scope) → Type 0 where
      values_none : KeepsValues [] []
      values_more : {n : Text} {z : Template.AttrValue} {v w : Scope.Scope} {xs ys : List (Parts.WrittenValue Scope.Scope)} → Frame.KeepsScope U v w → KeepsValues xs ys → KeepsValues (record { name = n; value = z; by = v } ∷ xs) (record { name = n; value = z; by = w } ∷ ys)

    pub data KeepsModifiers : List (Parts.WrittenModifier Scope.Scope) → List (Parts.WrittenModifier Scope.Scope) → Type 0 where
      modifiers_none : KeepsModifiers [] []
      modifiers_more : {n : Text} {es : Template.Exprs} {ns : Template.NamedExprs} {v w : Scope.Scope} {xs ys : List (Parts.WrittenModifier Scope.Scope)} → Frame.KeepsScope U v w → KeepsModifiers xs ys → KeepsModifiers (record { name = n; args = es; names = ns; by = v } ∷ xs) (record { name = n; args = es; names = ns; by = w } ∷ ys)

    pub written-append : {xs ys us vs : List (Parts.Written Scope.Scope)} → KeepsWritten xs ys → KeepsWritten us vs → KeepsWritten (xs ++ us) (ys ++ vs)
    written-append written_none g = g
    written-append (written_more h hs) g = written_more h (written-append hs g)

    pub keeps-spread : {xs ys : List (Parts.Written Scope.Scope)} {v w : Scope.Scope} → KeepsWritten xs ys → Frame.KeepsScope U v w → (ps : List Template.Part) → KeepsWritten (Parts.spread_in xs v ps) (Parts.spread_in ys w ps)
    keeps-spread h g [] = written_none
    keeps-spread h g (Template.spread ∷ ps) = written-append h (keeps-spread h g ps)
    keeps-spread h g (Template.attribute n z ∷ ps) = written_more g (keeps-spread h g ps)
    keeps-spread h g (Template.modifier n es ns ∷ ps) = written_more g (keeps-spread h g ps)

    pub keeps-passed : {v w : Scope.Passed} → Frame.KeepsPassed U v w → KeepsWritten (Parts.passed_parts v) (Parts.passed_parts w)
    keeps-passed Frame.keeps_nothing = written_none
    keeps-passed (Frame.keeps_passed {ps = ps} (Frame.keeps_scope a l h)) = keeps-spread (keeps-passed h) (Frame.keeps_scope a l h) ps

    pub keeps-written : {v w : Scope.Scope} → Frame.KeepsScope U v w → (ps : List Template.Part) → KeepsWritten (Parts.written_parts v ps) (Parts.written_parts w ps)
    keeps-written (Frame.keeps_scope a l h) ps = keeps-spread (keeps-passed h) (Frame.keeps_scope a l h) ps

    pub keeps-attributes : {xs ys : List (Parts.Written Scope.Scope)} → KeepsWritten xs ys → KeepsValues (Parts.attributes_in xs) (Parts.attributes_in ys)
    keeps-attributes written_none = values_none
    keeps-attributes (written_more {q = Template.attribute n z} h hs) = values_more h (keeps-attributes hs)
    keeps-attributes (written_more {q = Template.modifier n es ns} h hs) = keeps-attributes hs
    keeps-attributes (written_more {q = Template.spread} h hs) = keeps-attributes hs

    pub keeps-modifiers : {xs ys : List (Parts.Written Scope.Scope)} → KeepsWritten xs ys → KeepsModifiers (Parts.modifiers_in xs) (Parts.modifiers_in ys)
    keeps-modifiers written_none = modifiers_none
    keeps-modifiers (written_more {q = Template.attribute n z} h hs) = keeps-modifiers hs
    keeps-modifiers (written_more {q = Template.modifier n es ns} h hs) = modifiers_more h (keeps-modifiers hs)
    keeps-modifiers (written_more {q = Template.spread} h hs) = keeps-modifiers hs

    pub keeps-group : {xs ys : List (Parts.WrittenValue Scope.Scope)} → KeepsValues xs ys → (n : Text) → KeepsValues (filter (λ w. bytes_eq n w.name) xs) (filter (λ w. bytes_eq n w.name) ys)
    keeps-group values_none n = values_none
    keeps-group (values_more {n = m} {z = z} {v = v} {w = w} {xs = xs} {ys = ys} h hs) n = chosen (bytes_eq n m) (keeps-group hs n) where
      chosen : (b : Bool) → KeepsValues (filter (λ w. bytes_eq n w.name) xs) (filter (λ w. bytes_eq n w.name) ys)
          → KeepsValues (cond b (record { name = m; value = z; by = v } ∷ filter (λ w. bytes_eq n w.name) xs) (filter (λ w. bytes_eq n w.name) xs)) (cond b (record { name = m; value = z; by = w } ∷ filter (λ w. bytes_eq n w.name) ys) (filter (λ w. bytes_eq n w.name) ys))
      chosen true g = values_more h g
      chosen false g = g

    pub keeps-last : {xs ys : List (Parts.WrittenValue Scope.Scope)} → KeepsValues xs ys → KeepsValues (Parts.last_only xs) (Parts.last_only ys)
    keeps-last values_none = values_none
    keeps-last (values_more h values_none) = values_more h values_none
    keeps-last (values_more h (values_more g hs)) = keeps-last (values_more g hs)

    pub keeps-taken : {xs ys : List (Parts.WrittenValue Scope.Scope)} → KeepsValues xs ys → (n : Text) → KeepsValues (Parts.taken_values n xs) (Parts.taken_values n ys)
    keeps-taken {xs} {ys} h n = chosen (bytes_eq n (codes "class")) (keeps-group h n) where
      chosen : (b : Bool) → KeepsValues (filter (λ w. bytes_eq n w.name) xs) (filter (λ w. bytes_eq n w.name) ys) → KeepsValues (if b then filter (λ w. bytes_eq n w.name) xs else Parts.last_only (filter (λ w. bytes_eq n w.name) xs)) (if b then filter (λ w. bytes_eq n w.name) ys else Parts.last_only (filter (λ w. bytes_eq n w.name) ys))
      chosen true g = g
      chosen false g = keeps-last g

    pub keeps-values : {xs ys : List (Parts.WrittenValue Scope.Scope)} → KeepsValues xs ys → KeepsAll U (map (λ w. Eval.eval_value app σ w.by w.value) xs) (map (λ w. Eval.eval_value app τ w.by w.value) ys)
    keeps-values values_none = keeps_none
    keeps-values (values_more {z = z} h hs) = keeps_more (Frame.value_keeps U app σ τ cells h z) (keeps-values hs)

    pub all-append : {xs ys us vs : List Scope.Pair} → KeepsAll U xs ys → KeepsAll U us vs → KeepsAll U (xs ++ us) (ys ++ vs)
    all-append keeps_none g = g
    all-append (keeps_more h hs) g = keeps_more h (all-append hs g)

    pub all-names : {xs ys : Scope.NamedPairs} → Frame.KeepsNames U xs ys → KeepsAll U (map (λ n. n.1) xs) (map (λ n. n.1) ys)
    all-names Frame.names_none = keeps_none
    all-names (Frame.names_more h hs) = keeps_more h (all-names hs)

    -- positions of attributes, of one name at most each
    IsAttribute : (Text → List Scope.Pair) → Path.Path → Render.Piece → Type 0
    IsAttribute pairs i x = (n : Text) × (x ≡ Render.position (Path.attribute_at n ∷ i) (pairs n))

    IsModifier : ℕ → Path.Path → Render.Piece → Type 0
    IsModifier n i x = (m : ℕ) × (vs : List Scope.Pair) × (n ≤ m) × (x ≡ Render.position (Path.modifier_at m ∷ i) vs)

    is-attribute : (pairs : Text → List Scope.Pair) (i : Path.Path) (ns : List Text) (x : Render.Piece) → In x (Render.forest_of (map (λ n. Render.position (Path.attribute_at n ∷ i) (pairs n)) ns)) → IsAttribute pairs i x
    unfolding IsAttribute
    is-attribute pairs i [] x m = absurd m
    is-attribute pairs i (n ∷ ns) x (inl q) = (n, q)
    is-attribute pairs i (n ∷ ns) x (inr m) = is-attribute pairs i ns x m

    is-modifier : (υ : Eval.Store) (i : Path.Path) (n : ℕ) (ws : List (Parts.WrittenModifier Scope.Scope)) (x : Render.Piece) → In x (Render.forest_of (Render.modifier_positions (Parts.modifiers_of app υ i n ws))) → IsModifier n i x
    unfolding IsModifier
    is-modifier υ i n [] x m = absurd m
    is-modifier υ i n (w ∷ ws) x (inl q) = (n, _, omega arith, q)
    is-modifier υ i n (w ∷ ws) x (inr m) = let h = is-modifier υ i (suc n) ws x m in let g : suc n ≤ h.0 = h.2 in (h.0, h.1, omega arith, h.3)

    step-name : Path.PathStep → Text
    step-name (Path.attribute_at n) = n
    step-name _ = []

    step-number : Path.PathStep → ℕ
    step-number (Path.modifier_at n) = n
    step-number _ = 0

    last-of : Path.Path → Path.PathStep
    last-of [] = Path.main
    last-of (l ∷ i) = l

    attribute-modifier : (i : Path.Path) (n : Text) (m : ℕ) → Path.attribute_at n ∷ i ≡ Path.modifier_at m ∷ i → ⊥
    unfolding last-of
    attribute-modifier i n m q = let h : Path.attribute_at n ≡ Path.modifier_at m = ap last-of q in cc

    two-attributes : (f g : Text → List Scope.Pair) → ((n : Text) → KeepsAll U (f n) (g n)) → (i : Path.Path) (x y : Render.Piece) → IsAttribute f i x → IsAttribute g i y → Related x y
    unfolding IsAttribute step-name last-of
    two-attributes f g h i x y (n, q) (m, o) = related-by q o (λ z. (tt, subst (λ l. KeepsAll U (f n) (g l)) (ap (λ j. step-name (last-of j)) z) (h n), tt))

    apart-modifier : (i : Path.Path) (n m : ℕ) (vs ws : List Scope.Pair) (x y : Render.Piece) → n < m → x ≡ Render.position (Path.modifier_at n ∷ i) vs → y ≡ Render.position (Path.modifier_at m ∷ i) ws → Changes.piece_path x ≡ Changes.piece_path y → ⊥
    unfolding step-number last-of
    apart-modifier i n m vs ws x y h q o z = let g : n ≡ m = ap (λ j. step-number (last-of j)) (sym (ap Changes.piece_path q) ∙ (z ∙ ap Changes.piece_path o)) in omega arith

    two-modifiers : {xs ys : List (Parts.WrittenModifier Scope.Scope)} → KeepsModifiers xs ys → (i : Path.Path) (n : ℕ) → EachPair Related (Render.forest_of (Render.modifier_positions (Parts.modifiers_of app σ i n xs))) (Render.forest_of (Render.modifier_positions (Parts.modifiers_of app τ i n ys)))
    unfolding IsModifier
    two-modifiers modifiers_none i n x y m l = absurd m
    two-modifiers (modifiers_more {es = es} {ns = ns} h hs) i n x y (inl q) (inl o) =
        related-by q o (λ _. (tt, all-append (Frame.eval_all_keeps U app σ τ cells h es) (all-names (Frame.eval_named_keeps U app σ τ cells h ns)), tt))
    two-modifiers (modifiers_more {ys = ys} h hs) i n x y (inl q) (inr o) = let a = is-modifier τ i (suc n) ys y o in let b : suc n ≤ a.0 = a.2 in λ z. absurd (apart-modifier i n a.0 _ _ x y (omega arith) q a.3 z)
    two-modifiers (modifiers_more {xs = xs} h hs) i n x y (inr q) (inl o) = let a = is-modifier σ i (suc n) xs x q in let b : suc n ≤ a.0 = a.2 in λ z. absurd (apart-modifier i n a.0 _ _ y x (omega arith) o a.3 (sym z))
    two-modifiers (modifiers_more h hs) i n x y (inr q) (inr o) = two-modifiers hs i (suc n) x y q o

    alike-parts : {ws zs : List (Parts.Written Scope.Scope)} → KeepsWritten ws zs → (i : Path.Path) → EachPair Related (Render.forest_of (parts_of app σ i ws)) (Render.forest_of (parts_of app τ i zs))
    unfolding IsAttribute IsModifier
    alike-parts {ws} {zs} h i x y m l =
        let us = Parts.attributes_in ws in let vs = Parts.attributes_in zs in
        let f = Parts.taken_pairs app σ us in let g = Parts.taken_pairs app τ vs in
        let ns = filter (λ n. Parts.some_live (Parts.taken_values n us)) (Parts.distinct_names us) in let os = filter (λ n. Parts.some_live (Parts.taken_values n vs)) (Parts.distinct_names vs) in
        let ms = Render.modifier_positions (Parts.modifiers_of app σ i 0 (Parts.modifiers_in ws)) in let ls = Render.modifier_positions (Parts.modifiers_of app τ i 0 (Parts.modifiers_in zs)) in
        elim (in-forest-append x (Render.attr_positions i us f) ms m) [
          | inl a ↦ elim (in-forest-append y (Render.attr_positions i vs g) ls l) [
            | inl b ↦ two-attributes f g (λ n. keeps-values (keeps-taken (keeps-attributes h) n)) i x y (is-attribute f i ns x a) (is-attribute g i os y b)
            | inr b ↦ let q = is-attribute f i ns x a in let o = is-modifier τ i 0 (Parts.modifiers_in zs) y b in λ z. absurd (attribute-modifier i q.0 o.0 (sym (ap Changes.piece_path q.1) ∙ (z ∙ ap Changes.piece_path o.3)))
          ]
          | inr a ↦ elim (in-forest-append y (Render.attr_positions i vs g) ls l) [
            | inl b ↦ let q = is-attribute g i os y b in let o = is-modifier σ i 0 (Parts.modifiers_in ws) x a in λ z. absurd (attribute-modifier i q.0 o.0 (sym (ap Changes.piece_path q.1) ∙ (sym z ∙ ap Changes.piece_path o.3)))
            | inr b ↦ two-modifiers (keeps-modifiers h) i 0 x y a b
          ]
        ]

    abbrev KeepsComponents : Render.Components → Render.Components → Type 0
    KeepsComponents d d' = (i : Path.Path) (gs hs : Scope.NamedPairs) (v w : Scope.Passed) → Frame.KeepsNames U gs hs → Frame.KeepsPassed U v w → Alike (d i gs v) (d' i hs w)

    abbrev KeepsYields : Render.Yields → Render.Yields → Type 0
    KeepsYields y y' = (n : Text) (vs ws : List Scope.Pair) (i : Path.Path) → KeepsAll U vs ws → Alike (y n vs i) (y' n ws i)

    module _ (d d' : Render.Components) (y y' : Render.Yields) (ud : UnderComponents d) (ud' : UnderComponents d') (uy : UnderYields y) (uy' : UnderYields y') (hd : KeepsComponents d d') (hy : KeepsYields y y') where
      abbrev old : Scope.Scope → Path.Path → ℕ → Template.Body → Render.Forest
      old v i n b = Render.render_body app σ d y v i n b

      abbrev new : Scope.Scope → Path.Path → ℕ → Template.Body → Render.Forest
      new w i n b = Render.render_body app τ d' y' w i n b

      old-from : (b : Template.Body) (v : Scope.Scope) (i : Path.Path) → AllFrom i (old v i 0 b)
      old-from b v i x m = under_body app σ d y ud uy b v i 0 x m

      new-from : (b : Template.Body) (v : Scope.Scope) (i : Path.Path) → AllFrom i (new v i 0 b)
      new-from b v i x m = under_body app τ d' y' ud' uy' b v i 0 x m

      abbrev of_item : List Text → (Scope.Scope → Path.Path → ℕ → Template.Body → Render.Forest) → Scope.Scope → Template.Body → Path.Path → Render.Entry → Render.Forest
      of_item ns render v b q x = render (Scope.with_locals (Scope.bind ns (Render.entry_pairs q x)) v) q 0 b

      apart-later : (q : Template.Stmt) (b : Template.Body) (v w : Scope.Scope) (i : Path.Path) (n : ℕ) → Apart (Render.render_stmt app σ d y v (Path.at n ∷ i) q) (new w i (suc n) b)
      apart-later q b v w i n x z m l o =
          let f = under_body app τ d' y' ud' uy' b w i (suc n) z l in
          let g : suc n ≤ f.0 = f.1 in
          let h : n ≡ f.0 = at-same n f.0 (steps_apart (Path.at n) (Path.at f.0) i (Changes.piece_path z) (subst (λ j. Within (Path.at n ∷ i) j) o (under_stmt app σ d y ud uy q v (Path.at n ∷ i) x m)) f.2) in
          omega arith

      apart-earlier : (q : Template.Stmt) (b : Template.Body) (v w : Scope.Scope) (i : Path.Path) (n : ℕ) → Apart (old v i (suc n) b) (Render.render_stmt app τ d' y' w (Path.at n ∷ i) q)
      apart-earlier q b v w i n x z m l o =
          let f = under_body app σ d y ud uy b v i (suc n) x m in
          let g : suc n ≤ f.0 = f.1 in
          let h : n ≡ f.0 = at-same n f.0 (steps_apart (Path.at n) (Path.at f.0) i (Changes.piece_path x) (subst (λ j. Within (Path.at n ∷ i) j) (sym o) (under_stmt app τ d' y' ud' uy' q w (Path.at n ∷ i) z l)) f.2) in
          omega arith

      mutual
        alike-stmt : (q : Template.Stmt) (v w : Scope.Scope) → Frame.KeepsScope U v w → (i : Path.Path) (n : ℕ) → Alike (Render.render_stmt app σ d y v (Path.at n ∷ i) q) (Render.render_stmt app τ d' y' w (Path.at n ∷ i) q)
        alike-stmt (Template.text_stmt z) v w h i n = λ items x y m l. elim m [ inl a ↦ elim l [ inl b ↦ related-by a b (λ _. (refl, tt, tt)) | inr b ↦ absurd b ] | inr a ↦ absurd a ]
        alike-stmt (Template.comment_stmt z) v w h i n = λ items x y m l. elim m [ inl a ↦ elim l [ inl b ↦ related-by a b (λ _. (refl, tt, tt)) | inr b ↦ absurd b ] | inr a ↦ absurd a ]
        alike-stmt (Template.put z) v w h i n = alike-put n i _ _ (Frame.eval_keeps U app σ τ cells h z)
        alike-stmt (Template.element tag ps b) v w h i n =
            alike-element app σ τ (Path.at n ∷ i) tag (Parts.written_parts v ps) (Parts.written_parts w ps) (old v (Path.at n ∷ i) 0 b) (new w (Path.at n ∷ i) 0 b) (alike-parts (keeps-written h ps) (Path.at n ∷ i)) (alike-body b v w h (Path.at n ∷ i) 0) (old-from b v (Path.at n ∷ i)) (new-from b w (Path.at n ∷ i))
        alike-stmt (Template.component_stmt c ps gs bs) v w h i n = hd (Path.into c ∷ Path.at n ∷ i) (Eval.eval_given app σ v gs) (Eval.eval_given app τ w gs) (Scope.passed ps bs v) (Scope.passed ps bs w) (keeps-given h gs) (Frame.keeps_passed h)
        alike-stmt (Template.if_stmt z u b o) v w h i n =
            let j = Path.at n ∷ i in
            let f = old v (Path.main ∷ j) 0 b in let g = old v (Path.otherwise ∷ j) 0 o in let f' = new w (Path.main ∷ j) 0 b in let g' = new w (Path.otherwise ∷ j) 0 o in
            let a = Eval.takes_first u (Eval.eval app σ v z).value in let c = Eval.takes_first u (Eval.eval app τ w z).value in
            alike-position n i _ _ (branches j a f g) (branches j c f' g') (keeps_more (Frame.eval_keeps U app σ τ cells h z) keeps_none)
            (below-branches j a f g (old-from b v (Path.main ∷ j)) (old-from o v (Path.otherwise ∷ j))) (below-branches j c f' g' (new-from b w (Path.main ∷ j)) (new-from o w (Path.otherwise ∷ j)))
            (alike-branches j a c f g f' g' (alike-body b v w h (Path.main ∷ j) 0) (alike-body o v w h (Path.otherwise ∷ j) 0) (old-from b v (Path.main ∷ j)) (new-from b w (Path.main ∷ j)) (old-from o v (Path.otherwise ∷ j)) (new-from o w (Path.otherwise ∷ j)))
        alike-stmt (Template.each z key ns b o) v w h i n =
            let j = Path.at n ∷ i in
            let one : Path.Path → Render.Entry → Render.Forest = of_item ns old v b in let two : Path.Path → Render.Entry → Render.Forest = of_item ns new w b in
            let f : Values Path.Path → Render.Forest = λ vs. Render.render_entries one (Path.items ∷ j) (Render.entries key 0 [] vs) in let g : Values Path.Path → Render.Forest = λ vs. Render.render_entries two (Path.items ∷ j) (Render.entries key 0 [] vs) in
            let a = Render.values_listed (Eval.eval app σ v z).value in let c = Render.values_listed (Eval.eval app τ w z).value in
            let g0 = old v (Path.otherwise ∷ j) 0 o in let g1 = new w (Path.otherwise ∷ j) 0 o in
            let h1 : OneFrom one = λ q x. old-from b (Scope.with_locals (Scope.bind ns (Render.entry_pairs q x)) v) q in
            let h2 : OneFrom two = λ q x. new-from b (Scope.with_locals (Scope.bind ns (Render.entry_pairs q x)) w) q in
            let uf : UnderItems j f = λ vs. under_entries one (λ q x. all-within q _ (h1 q x)) (Path.items ∷ j) (Render.entries key 0 [] vs) in
            let ug : UnderItems j g = λ vs. under_entries two (λ q x. all-within q _ (h2 q x)) (Path.items ∷ j) (Render.entries key 0 [] vs) in
            alike-position n i _ _ (Render.items_or_else j a f g0) (Render.items_or_else j c g g1) (keeps_more (Frame.eval_keeps U app σ τ cells h z) keeps_none)
            (below-items j a f g0 uf (old-from o v (Path.otherwise ∷ j))) (below-items j c g g1 ug (new-from o w (Path.otherwise ∷ j)))
            (alike-items j a c f g g0 g1
            (λ vs ws. alike-entries one two (λ q x x' hk. alike-body b _ _ (keeps-locals h (keeps-bind ns hk)) q 0) h1 h2 (Path.items ∷ j) (Render.entries key 0 [] vs) (Render.entries key 0 [] ws))
            (alike-body o v w h (Path.otherwise ∷ j) 0) uf ug (old-from o v (Path.otherwise ∷ j)) (new-from o w (Path.otherwise ∷ j)))
        alike-stmt (Template.let_stmt es ns b) v w h i n =
            alike-body b (Scope.with_locals (Scope.bind ns (Eval.eval_all app σ v es)) v) (Scope.with_locals (Scope.bind ns (Eval.eval_all app τ w es)) w) (keeps-locals h (keeps-bind ns (Frame.eval_all_keeps U app σ τ cells h es))) (Path.main ∷ Path.at n ∷ i) 0
        alike-stmt (Template.yield es m) v w h i n = hy m (Eval.eval_all app σ v es) (Eval.eval_all app τ w es) (Path.at n ∷ i) (Frame.eval_all_keeps U app σ τ cells h es)

        alike-body : (b : Template.Body) (v w : Scope.Scope) → Frame.KeepsScope U v w → (i : Path.Path) (n : ℕ) → Alike (old v i n b) (new w i n b)
        alike-body Template.end v w h i n = λ items x y m l. absurd m
        alike-body (Template.stmt q b) v w h i n =
            alike-join (Render.render_stmt app σ d y v (Path.at n ∷ i) q) (old v i (suc n) b) (Render.render_stmt app τ d' y' w (Path.at n ∷ i) q) (new w i (suc n) b)
            (alike-stmt q v w h i n) (alike-body b v w h i (suc n)) (apart-later q b v w i n) (apart-earlier q b v w i n)

    alike-block : (b : Option Render.Block) (f g : Render.Block → Render.Forest) → ((b : Render.Block) → Alike (f b) (g b)) → Alike (Render.in_block b f) (Render.in_block b g)
    alike-block None f g h = λ items x y m n. absurd m
    alike-block (Some b) f g h = h b

    alike-yields : (d d' : Render.Components) → UnderComponents d → UnderComponents d' → KeepsComponents d d' → {v w : Scope.Passed} → Frame.KeepsPassed U v w → KeepsYields (Render.yields_of app σ d v) (Render.yields_of app τ d' w)
    alike-yields d d' u u' h Frame.keeps_nothing n vs ws i hk = λ items x y m l. absurd m
    alike-yields d d' u u' h (Frame.keeps_passed {ps = ps} {bs = bs} (Frame.keeps_scope {i = j} {a = a} {b = a'} {l = l} {m = m} {v = v} {w = w} ha hl hw)) n vs ws i hk =
        alike-block (Render.block_named n bs) _ _
        (λ z. alike-body d d' (Render.yields_of app σ d v) (Render.yields_of app τ d' w) u u' (under_yields app σ d u v) (under_yields app τ d' u' w) h (alike-yields d d' u u' h hw) z.body
        (Scope.scope j a (l ++ Scope.bind z.params vs) v) (Scope.scope j a' (m ++ Scope.bind z.params ws) w) (Frame.keeps_scope ha (keeps-append hl (keeps-bind z.params hk)) hw) (Path.slot n ∷ i) 0)

    not-itself : (i : Path.Path) (f : Render.Forest) (x : Render.Piece) → AllFrom i f → In x f → Changes.piece_path x ≡ i → ⊥
    not-itself i f x u m q = let v = u x m in not_below (Path.at v.0) i (subst (λ z. Within (Path.at v.0 ∷ i) z) q v.2)

    alike-one : (i : Path.Path) (v w : Scope.Scope) (f g : Render.Forest) → Frame.KeepsScope U v w → AllFrom i f → AllFrom i g → Alike f g → Alike (Render.single (Render.component i v f)) (Render.single (Render.component i w g))
    alike-one i v w f g k u u' h items x y (inl (inl q)) (inl (inl o)) = related-by q o (λ _. (tt, tt, k))
    alike-one i v w f g k u u' h items x y (inl (inl q)) (inl (inr n)) = λ z. absurd (not-itself i g y u' n (sym z ∙ ap Changes.piece_path q))
    alike-one i v w f g k u u' h items x y (inl (inl q)) (inr n) = absurd n
    alike-one i v w f g k u u' h items x y (inl (inr m)) (inl (inl o)) = λ z. absurd (not-itself i f x u m (z ∙ ap Changes.piece_path o))
    alike-one i v w f g k u u' h items x y (inl (inr m)) (inl (inr n)) = h (λ z v o l. items z v (inl (inr o)) (inl (inr l))) x y m n
    alike-one i v w f g k u u' h items x y (inl (inr m)) (inr n) = absurd n
    alike-one i v w f g k u u' h items x y (inr m) n = absurd m

    alike-components : (n : ℕ) → KeepsComponents (Render.components_at n app σ) (Render.components_at n app τ)
    alike-components zero i gs hs v w hg hw items x y (inl q) o = mark-left x y (Render.too_deep i) q refl refl refl
    alike-components zero i gs hs v w hg hw items x y (inr q) o = absurd q
    alike-components (suc n) i gs hs v w hg hw items x y m o =
        let d = Render.components_at n app σ in let d' = Render.components_at n app τ in
        let s = Scope.scope i gs [] v in let t = Scope.scope i hs [] w in
        let b = (Eval.class_at app i).template in
        let k : Frame.KeepsScope U s t = Frame.keeps_scope hg Frame.names_none hw in
        let ud = under_components app σ n in let ud' = under_components app τ n in
        let uy = under_yields app σ d ud v in let uy' = under_yields app τ d' ud' w in
        alike-one i s t _ _ k
        (λ z l. under_body app σ d (Render.yields_of app σ d v) ud uy b s i 0 z l) (λ z l. under_body app τ d' (Render.yields_of app τ d' w) ud' uy' b t i 0 z l)
        (alike-body d d' (Render.yields_of app σ d v) (Render.yields_of app τ d' w) ud ud' uy uy' (alike-components n) (alike-yields d d' ud ud' (alike-components n) hw) b s t k i 0)
        items x y m o

    pub draw_alike : Alike (Render.draw app σ) (Render.draw app τ)
    draw_alike = alike-components app.limit [] [] [] Scope.nothing_passed Scope.nothing_passed Frame.names_none Frame.keeps_nothing

module _ (U : Scope.Source → Type 0) (f g : Render.Forest)
    (h : (i j : Path.Path) (v w : Path.V) (n m : ℕ) (a b : Render.Forest) → In (Render.item_region i v n a) f → In (Render.item_region j w m b) g → i ≡ j → (U (Scope.item_value i) → v ≡ w) × (U (Scope.item_index i) → SameIndex n m)) where
  pub items_keep_by : EachPair (ItemsKeep U) f g
  items_keep_by (Render.item_region i w n c) (Render.item_region j y m d) a b = h i j w y n m c d a b
  items_keep_by (Render.item_region i w n c) (Render.element_node j y m d o) a b = tt
  items_keep_by (Render.item_region i w n c) (Render.text_node j y) a b = tt
  items_keep_by (Render.item_region i w n c) (Render.comment_node j y) a b = tt
  items_keep_by (Render.item_region i w n c) (Render.component j y d) a b = tt
  items_keep_by (Render.item_region i w n c) (Render.branch j d) a b = tt
  items_keep_by (Render.item_region i w n c) (Render.position j d) a b = tt
  items_keep_by (Render.item_region i w n c) (Render.too_deep j) a b = tt
  items_keep_by (Render.element_node i w n c d) y a b = tt
  items_keep_by (Render.text_node i w) y a b = tt
  items_keep_by (Render.comment_node i w) y a b = tt
  items_keep_by (Render.component i w c) y a b = tt
  items_keep_by (Render.branch i c) y a b = tt
  items_keep_by (Render.position i c) y a b = tt
  items_keep_by (Render.too_deep i) y a b = tt

-- for the kinds of nodes alone nothing needs to be untouched
Never : Scope.Source → Type 0
Never x = ⊥

kinds-by : (a b : Option NodeKind) (k l : NodeKind) → KindsAgree a b → a ≡ Some k → b ≡ Some l → k ≡ l
kinds-by None b k l h q o = absurd cc
kinds-by (Some m) None k l h q o = absurd cc
kinds-by (Some m) (Some n) k l h q o = sym (some_same m k q) ∙ (h ∙ some_same n l o)

pub kind_is_kept : (app : App) (σ τ : Eval.Store) (x y : Render.Piece) (k l : NodeKind) → In x (Render.draw app σ) → In y (Render.draw app τ) → Changes.piece_path x ≡ Changes.piece_path y → node_kind x ≡ Some k → node_kind y ≡ Some l → k ≡ l
unfolding Never
kind_is_kept app σ τ x y k l m n q a b =
    let related = draw_alike Never app σ τ (λ i z u. absurd u) (items_keep_by Never (Render.draw app σ) (Render.draw app τ) (λ i j v w c d e f g h o. ((λ u. absurd u), (λ u. absurd u)))) x y m n q in
    kinds-by (node_kind x) (node_kind y) k l related.0 a b
