-- The modifiers of the elements with a number are those of the rendering's nodes with that number.
use Rattle.std.proofs.Common.{◌≡◌, ℕ, List, [], ◌∷◌, ◌++◌, map, Bool, true, false, cond, Option, Some, None, refl, sym, ap, ap₂, ◌∙◌, subst, inl, inr}
use Rattle.std.specs.Prelude.{if◌then◌else◌, nat_eq, filter_map, flat_map}
use Rattle.std.proofs.lemmas.List.{append-nil, map-append}
use Rattle.gl_meaning.specs.Path.{Path, path_eq}
use Rattle.gl_meaning.specs.Scope.{Source}
use Rattle.gl_meaning.specs.Known.{Among}
use Rattle.gl_meaning.specs.Laws.{NoRepeat}
use Rattle.gl_meaning.specs.Actions.{at_node, paths_numbered}
use Rattle.gl_meaning.specs.Changes.{node_path, pieces, modifiers_on, Numbers}
use Rattle.gl_meaning.specs.Render.{Piece, element_node, text_node, comment_node, component, branch, item_region, position, too_deep, draw}
use Rattle.gl_meaning.proofs.Equal.{path_itself}
use Rattle.gl_meaning.proofs.Once.{nodes_once}
use Rattle.gl_plain.specs.Ids.{modifier_id}
use Rattle.gl_plain.specs.State.{row, content, instance_row, block_row, modifier_row, Thing}
use Rattle.gl_plain.specs.Live.{ModSpot}
use Rattle.gl_plain.specs.Machine.{StandsFor}
use Rattle.gl_plain.proofs.Roots.{standing_shows}
use Rattle.gl_naming.specs.Renamed.{there_with, state_with}
use Rattle.gl_turns.proofs.Found.{among_mapped, path_other}
use Rattle.gl_acting.specs.Heard.{spots_in}
use Rattle.gl_acting.specs.Laws.{Told, told_modifier, told_row, ModsAre}
use Rattle.gl_acting.proofs.Noted.{told_kept, Noted, numbered, spots_at, piece_told, told_of}
use Rattle.gl_acting.proofs.Notes.{root_noted}

-- with other names
row_named : (f : Path → Path) (g : Source → Source) (o : Option Thing) → told_row f o ≡ told_kept (there_with f g o)
row_named f g None = refl
row_named f g (Some (row x)) = refl
row_named f g (Some (content c)) = refl
row_named f g (Some (instance_row i)) = refl
row_named f g (Some block_row) = refl
row_named f g (Some (modifier_row x)) = refl

map_each : {A B : Type 0} (f g : A → B) → ((x : A) → f x ≡ g x) → (xs : List A) → map f xs ≡ map g xs
map_each f g h [] = refl
map_each f g h (x ∷ xs) = ap₂ (λ y ys. y ∷ ys) (h x) (map_each f g h xs)

map_flat : {A B C : Type 0} (f : B → C) (g : A → List B) (xs : List A) → map f (flat_map g xs) ≡ flat_map (λ x. map f (g x)) xs
map_flat f g [] = refl
map_flat f g (x ∷ xs) = map-append f (g x) (flat_map g xs) ∙ ap (λ ys. map f (g x) ++ ys) (map_flat f g xs)

flat_each : {A B : Type 0} (f g : A → List B) → ((x : A) → f x ≡ g x) → (xs : List A) → flat_map f xs ≡ flat_map g xs
flat_each f g h [] = refl
flat_each f g h (x ∷ xs) = ap₂ (λ y ys. y ++ ys) (h x) (flat_each f g h xs)

-- what is told at a path
abbrev told_if : Path → Path × List Told → List Told
told_if p z = if path_eq p z.0 then z.1 else []

abbrev told_at : Path → List (Path × List Told) → List Told
told_at p zs = flat_map (told_if p) zs

abbrev told_on : Path → List Piece → List Told
told_on p qs = map told_modifier (flat_map modifiers_on (at_node p qs))

-- of the pieces
kept_if : (b : Bool) (q : Piece) (rest : List Piece) (ts : List Told) → map told_modifier (flat_map modifiers_on rest) ≡ ts
    → map told_modifier (flat_map modifiers_on (cond b (q ∷ rest) rest)) ≡ (if b then map told_modifier (modifiers_on q) else []) ++ ts
kept_if true q rest ts e = map-append told_modifier (modifiers_on q) (flat_map modifiers_on rest) ∙ ap (λ a. map told_modifier (modifiers_on q) ++ a) e
kept_if false q rest ts e = e

at_pieces : (p : Path) (qs : List Piece) → told_on p qs ≡ told_at p (filter_map piece_told qs)
at_pieces p [] = refl
at_pieces p (element_node j t a ms f ∷ qs) = kept_if (path_eq p j) (element_node j t a ms f) (at_node p qs) (told_at p (filter_map piece_told qs)) (at_pieces p qs)
at_pieces p (text_node j t ∷ qs) = kept_if (path_eq p j) (text_node j t) (at_node p qs) (told_at p (filter_map piece_told qs)) (at_pieces p qs)
at_pieces p (comment_node j t ∷ qs) = kept_if (path_eq p j) (comment_node j t) (at_node p qs) (told_at p (filter_map piece_told qs)) (at_pieces p qs)
at_pieces p (component j s f ∷ qs) = at_pieces p qs
at_pieces p (branch j f ∷ qs) = at_pieces p qs
at_pieces p (item_region j v i f ∷ qs) = at_pieces p qs
at_pieces p (position j ps ∷ qs) = at_pieces p qs
at_pieces p (too_deep j ∷ qs) = at_pieces p qs

told_paths : (qs : List Piece) → map (λ (z : Path × List Told). z.0) (filter_map piece_told qs) ≡ filter_map node_path qs
told_paths [] = refl
told_paths (element_node j t a ms f ∷ qs) = ap (λ a. j ∷ a) (told_paths qs)
told_paths (text_node j t ∷ qs) = ap (λ a. j ∷ a) (told_paths qs)
told_paths (comment_node j t ∷ qs) = ap (λ a. j ∷ a) (told_paths qs)
told_paths (component j s f ∷ qs) = told_paths qs
told_paths (branch j f ∷ qs) = told_paths qs
told_paths (item_region j v i f ∷ qs) = told_paths qs
told_paths (position j ps ∷ qs) = told_paths qs
told_paths (too_deep j ∷ qs) = told_paths qs

-- where no path stands twice, what is told at the path of one is that one's
told_absent : (p : Path) (zs : List (Path × List Told)) → (Among p (map (λ z. z.0) zs) → ⊥) → told_at p zs ≡ []
told_absent p [] d = refl
told_absent p (z ∷ zs) d = ap (λ b. (if b then z.1 else []) ++ told_at p zs) (path_other p z.0 (λ e. d (inl e))) ∙ told_absent p zs (λ m. d (inr m))

told_once : (y : Path × List Told) (zs : List (Path × List Told)) → NoRepeat (map (λ z. z.0) zs) → Among y zs → told_at y.0 zs ≡ y.1
told_once y [] d m = absurd m
told_once y (z ∷ zs) d (inl e) =
    subst (λ (x : Path × List Told). told_at x.0 (z ∷ zs) ≡ x.1) (sym e)
    (ap (λ b. (if b then z.1 else []) ++ told_at z.0 zs) (path_itself z.0) ∙ (ap (λ a. z.1 ++ a) (told_absent z.0 zs d.0) ∙ append-nil z.1))
told_once y (z ∷ zs) d (inr m) =
    ap (λ b. (if b then z.1 else []) ++ told_at y.0 zs)
    (path_other y.0 z.0 (λ e. d.0 (subst (λ p. Among p (map (λ (x : Path × List Told). x.0) zs)) e (among_mapped (λ (x : Path × List Told). x.0) y zs m))))
    ∙ told_once y zs d.1 m

-- Of the nodes with a number, in order
module _ (told : Noted → List Told) (k : ℕ) where
  abbrev told_numbered : Noted → List Told
  told_numbered e = if nat_eq k e.number then told e else []

  at_numbers : (at : Path → List Told) (es : List Noted) → ((e : Noted) → Among e es → at e.path ≡ told e) → flat_map at (paths_numbered k (map numbered es)) ≡ flat_map told_numbered es
  at_numbers at [] h = refl
  at_numbers at (e ∷ es) h = by (nat_eq k e.number) (h e (inl refl)) (at_numbers at es (λ y m. h y (inr m))) where
    by : (b : Bool) → at e.path ≡ told e → flat_map at (paths_numbered k (map numbered es)) ≡ flat_map (λ e. if nat_eq k e.number then told e else []) es
        → flat_map at (if b then e.path ∷ paths_numbered k (map numbered es) else paths_numbered k (map numbered es)) ≡ (if b then told e else []) ++ flat_map (λ e. if nat_eq k e.number then told e else []) es
    by true i j = ap₂ (λ a c. a ++ c) i j
    by false i j = j

told_if_there : (f : ModSpot → Told) (b : Bool) (zs : List ModSpot) → map f (if b then zs else []) ≡ (if b then map f zs else [])
told_if_there f true zs = refl
told_if_there f false zs = refl

pub mods_are : ModsAre
mods_are app s st l f k =
    let owner = f.named.owner in
    let source = f.named.source in
    let st1 = state_with owner source (λ x. false) st in
    let stands : StandsFor app s.store s.store st1 l = f.named.stands (λ x. false) in
    let n = root_noted app s.store s.store st1.look app.limit l stands.stands in
    let es = n.noted in
    let spot : ModSpot → Told = λ z. told_kept (st1.look (modifier_id z.id)) in
    let told : Noted → List Told = λ e. map spot e.spots in
    let zs = map (told_of st1.look) es in
    let drawn : draw app s.store ≡ s.rendering = sym (standing_shows app s.store st1 l stands) ∙ f.rendering in
    let once : NoRepeat (map (λ (z : Path × List Told). z.0) zs) = subst (λ (ys : List (Path × List Told)). NoRepeat (map (λ (z : Path × List Told). z.0) ys)) (sym n.told) (subst NoRepeat (sym (told_paths (pieces (draw app s.store)))) (nodes_once app s.store)) in
    let left : map (λ z. told_row owner (st.look (modifier_id z.id))) (spots_in k l) ≡ flat_map (told_numbered told k) es =
    map_each (λ z. told_row owner (st.look (modifier_id z.id))) spot (λ z. row_named owner source (st.look (modifier_id z.id))) (spots_in k l)
    ∙ (ap (map spot) (n.by_number k) ∙ (map_flat spot (spots_at k) es ∙ flat_each (λ e. map spot (spots_at k e)) (told_numbered told k) (λ e. told_if_there spot (nat_eq k e.number) e.spots) es)) in
    let at : Path → List Told = λ p. told_at p zs in
    let middle : flat_map at (paths_numbered k (map numbered es)) ≡ flat_map (told_numbered told k) es = at_numbers told k at es (λ e m. told_once (told_of st1.look e) zs once (among_mapped (told_of st1.look) e es m)) in
    let of : map numbered es ≡ s.numbers.of = sym n.nodes ∙ ap (λ (x : Numbers). x.of) f.numbers in
    let right : map told_modifier (flat_map (λ p. flat_map modifiers_on (at_node p (pieces s.rendering))) (paths_numbered k s.numbers.of)) ≡ flat_map at (paths_numbered k (map numbered es)) =
    map_flat told_modifier (λ p. flat_map modifiers_on (at_node p (pieces s.rendering))) (paths_numbered k s.numbers.of)
    ∙ (flat_each (λ p. told_on p (pieces s.rendering)) at (λ p. ap (λ g. told_on p (pieces g)) (sym drawn) ∙ (at_pieces p (pieces (draw app s.store)) ∙ ap (told_at p) (sym n.told))) (paths_numbered k s.numbers.of)
    ∙ ap (λ ys. flat_map at (paths_numbered k ys)) (sym of)) in
    left ∙ (sym middle ∙ sym right)
