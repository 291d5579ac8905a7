-- The lines of a machine's nodes are those of the rendering.
use Rattle.std.proofs.Common.{◌≡◌, ℕ, [], ◌∷◌, ◌++◌, false, Option, Some, None, refl, sym, ap, ap₂, ◌∙◌, subst, inl, inr}
use Rattle.std.specs.Prelude.{unwrap_or}
use Rattle.std.proofs.lemmas.List.{append-nil, append_assoc}
use Rattle.gl_base.specs.Texts.{Text}
use Rattle.gl_meaning.specs.App.{App}
use Rattle.gl_meaning.specs.Path.{Path, at_path}
use Rattle.gl_meaning.specs.Scope.{Source}
use Rattle.gl_meaning.specs.Known.{Among}
use Rattle.gl_meaning.specs.Render.{Piece, element_node, text_node, comment_node, component, branch, item_region, position, too_deep, Forest, no_pieces, piece, draw}
use Rattle.gl_meaning.specs.Changes.{Numbers}
use Rattle.gl_meaning.specs.Print.{piece_lines, tree_lines}
use Rattle.gl_meaning.specs.Session as session
use Rattle.gl_meaning.proofs.Pieces.{among_left, among_right}
use Rattle.gl_plain.specs.Ids.{node}
use Rattle.gl_plain.specs.State.{Content, element_content, text_content, comment_content, Thing, row, content, instance_row, block_row, modifier_row, State}
use Rattle.gl_plain.specs.Live.{Live}
use Rattle.gl_plain.specs.Machine.{StandsFor}
use Rattle.gl_plain.proofs.Roots.{standing_shows}
use Rattle.gl_naming.specs.Renamed.{there_with, state_with}
use Rattle.gl_machine.specs.Shape.{Nest, end, tree, joined, map_nest, in_order, nest, placed_nest, piece_nest, forest_nest}
use Rattle.gl_machine.specs.UpdateLaws.{kept_content, drawn_content}
use Rattle.gl_machine.proofs.Nests.{nest_is_placed}
use Rattle.gl_machine.proofs.NestShown.{nest_is_drawn}
use Rattle.gl_follows.specs.Turns.{FollowsBy}
use Rattle.gl_texts.specs.Lines.{content_line, nest_lines}
use Rattle.gl_texts.specs.Laws.{TreeLines}
use Rattle.gl_texts.proofs.Nested.{order_is, numbered}

-- The lines of a nest, whatever it holds

abbrev over : {A : Type 0} → (Text → A → Text) → Text → Nest A → Text
over f i end = []
over f i (tree n k r) = f i n ++ (over f (32 ∷ 32 ∷ i) k ++ over f i r)

over_joined : {A : Type 0} (f : Text → A → Text) (i : Text) (g h : Nest A) → over f i (joined g h) ≡ over f i g ++ over f i h
over_joined f i end h = refl
over_joined f i (tree n k r) h =
    let a = over f (32 ∷ 32 ∷ i) k in
    ap (λ t. f i n ++ (a ++ t)) (over_joined f i r h)
    ∙ (ap (λ t. f i n ++ t) (sym (append_assoc a (over f i r) (over f i h))) ∙ sym (append_assoc (f i n) (a ++ over f i r) (over f i h)))

over_map : {A B : Type 0} (h : A → B) (f : Text → B → Text) (i : Text) (g : Nest A) → over f i (map_nest h g) ≡ over (λ j a. f j (h a)) i g
over_map h f i end = refl
over_map h f i (tree n k r) = ap₂ (λ a b. f i (h n) ++ (a ++ b)) (over_map h f (32 ∷ 32 ∷ i) k) (over_map h f i r)

over_same : {A : Type 0} (f g : Text → A → Text) (i : Text) (x : Nest A) → ((a : A) → Among a (in_order x) → (j : Text) → f j a ≡ g j a) → over f i x ≡ over g i x
over_same f g i end h = refl
over_same f g i (tree n k r) h =
    ap₂ (λ a b. a ++ b) (h n (inl refl) i)
    (ap₂ (λ a b. a ++ b) (over_same f g (32 ∷ 32 ∷ i) k (λ a m. h a (inr (among_left a (in_order k) (in_order r) m)))) (over_same f g i r (λ a m. h a (inr (among_right a (in_order k) (in_order r) m)))))

over_rows : (look : ℕ → Option Thing) (i : Text) (x : Nest ℕ) → nest_lines look i x ≡ over (λ j n. content_line j n (look n)) i x
over_rows look i end = refl
over_rows look i (tree n k r) = ap₂ (λ a b. content_line i n (look n) ++ (a ++ b)) (over_rows look (32 ∷ 32 ∷ i) k) (over_rows look i r)

-- A rendering

module _ (numbers : Numbers) where
  -- what is kept at a path, with the number of the path
  abbrev by_path : Text → Path × Option Thing → Text
  by_path i x = content_line i (unwrap_or (at_path x.0 numbers.of) 0) x.1

  abbrev drawn_line : Text → Path × Content → Text
  drawn_line i x = by_path i (drawn_content x)

  mutual
    piece_told : (i : Text) (q : Piece) → over drawn_line i (piece_nest q) ≡ piece_lines numbers i q
    piece_told i (element_node p t a m f) = ap (λ z. drawn_line i (p, element_content t a) ++ z) (append-nil (over drawn_line (32 ∷ 32 ∷ i) (forest_nest f)) ∙ forest_told (32 ∷ 32 ∷ i) f)
    piece_told i (text_node p t) = append-nil (drawn_line i (p, text_content t))
    piece_told i (comment_node p t) = append-nil (drawn_line i (p, comment_content t))
    piece_told i (component p s f) = forest_told i f
    piece_told i (branch p f) = forest_told i f
    piece_told i (item_region p v k f) = forest_told i f
    piece_told i (position p ps) = refl
    piece_told i (too_deep p) = refl

    forest_told : (i : Text) (f : Forest) → over drawn_line i (forest_nest f) ≡ tree_lines numbers i f
    forest_told i no_pieces = refl
    forest_told i (piece q f) = over_joined drawn_line i (piece_nest q) (forest_nest f) ∙ ap₂ (λ a b. a ++ b) (piece_told i q) (forest_told i f)

-- names don't matter
same_line : (f : Path → Path) (g : Source → Source) (i : Text) (n : ℕ) (o : Option Thing) → content_line i n (there_with f g o) ≡ content_line i n o
same_line f g i n None = refl
same_line f g i n (Some (row x)) = refl
same_line f g i n (Some (content c)) = refl
same_line f g i n (Some (instance_row x)) = refl
same_line f g i n (Some block_row) = refl
same_line f g i n (Some (modifier_row x)) = refl

module _ (app : App) (s : session.State) (st : State) (l : Live) (h : FollowsBy app s st l) where
  -- with the names
  abbrev now : State
  now = state_with h.named.owner h.named.source (λ x. false) st

  abbrev row_at : ℕ → Option Thing
  row_at n = st.look (node n)

  abbrev numbered_line : Text → ℕ → Text
  numbered_line i n = content_line i n (st.look (node n))

  stands : StandsFor app s.store s.store now l
  stands = h.named.stands (λ x. false)

  one : (x : Path × ℕ) → Among x (in_order (placed_nest [] l)) → (i : Text) → numbered_line i x.1 ≡ by_path s.numbers i (kept_content now.look x)
  one x m i =
      let a : Some x.1 ≡ at_path x.0 s.numbers.of
      = sym (numbered app s.store s.store now l stands x (subst (Among x) (order_is [] l) m)) ∙ ap (λ (ns : Numbers). at_path x.0 ns.of) h.numbers in
      ap (λ k. content_line i k (row_at x.1)) (ap (λ o. unwrap_or o 0) a) ∙ sym (same_line h.named.owner h.named.source i (unwrap_or (at_path x.0 s.numbers.of) 0) (row_at x.1))

  tree_told : nest_lines row_at [] (nest l) ≡ tree_lines s.numbers [] s.rendering
  tree_told =
      over_rows row_at [] (nest l)
      ∙ (ap (over numbered_line []) (sym (nest_is_placed l))
      ∙ (over_map (λ (x : Path × ℕ). x.1) numbered_line [] (placed_nest [] l)
      ∙ (over_same (λ i x. numbered_line i x.1) (λ i x. by_path s.numbers i (kept_content now.look x)) [] (placed_nest [] l) one
      ∙ (sym (over_map (kept_content now.look) (by_path s.numbers) [] (placed_nest [] l))
      ∙ (ap (over (by_path s.numbers) []) (nest_is_drawn app s.store now l stands)
      ∙ (over_map drawn_content (by_path s.numbers) [] (forest_nest (draw app s.store))
      ∙ (forest_told s.numbers [] (draw app s.store) ∙ ap (tree_lines s.numbers []) (sym (standing_shows app s.store now l stands) ∙ h.rendering))))))))

pub tree_is : TreeLines
tree_is app s st l h = tree_told app s st l h
