-- The places of a tree that stands are those of the rendering: its nodes, instances and items in order, and its positions.
use Rattle.std.proofs.Common.{◌≡◌, ◌+◌, ℕ, zero, suc, List, [], ◌∷◌, ◌++◌, map, Bool, true, false, Option, Some, None, refl, sym, ap, ap₂, ◌∙◌, subst, arith, inl, inr}
use Rattle.std.specs.Prelude.{flat_map, if◌then◌else◌, filter_map, ◌||◌}
use Rattle.std.proofs.lemmas.List.{append-nil, append_assoc}
use Rattle.gl_base.specs.Texts.{Text}
use Rattle.gl_value.specs.Value.{Values, no_values, value, count_value}
use Rattle.gl_ast.specs.Template as t
use Rattle.gl_ast.specs.Template.{Slots, no_slots}
use Rattle.gl_meaning.specs.App.{App}
use Rattle.gl_meaning.specs.Path.{PathStep, at, main, otherwise, items, item, into, slot, empty, attribute_at, modifier_at, Path}
use Rattle.gl_meaning.specs.Scope.{Source, item_value, item_index, Pair, sources_of, NamedPairs, Scope, scope, Passed, nothing_passed, passed, passed_of, with_locals, bind}
use Rattle.gl_meaning.specs.Eval.{Store, class_at, eval, eval_all, eval_given, takes_first}
use Rattle.gl_meaning.specs.Parts.{Attrs, Modifier, WrittenValue, WrittenModifier, modifiers_of, taken_pairs}
use Rattle.gl_meaning.specs.Changes as c
use Rattle.gl_meaning.specs.Render as r
use Rattle.gl_meaning.specs.Render.{Forest, Piece, no_pieces, piece, single, join, forest_of, position, Entry, entries, entry_pairs, values_listed, Block, block_named, Components, render_stmt, render_body, yields_of, components_at, draw}
use Rattle.gl_meaning.proofs.Once.{Distinct, distinct}
use Rattle.gl_meaning.proofs.Pieces.{filter_map_append, pieces_join}
use Rattle.gl_plain.specs.Ids.{Id, ref}
use Rattle.gl_plain.specs.State.{any_of, source_form, MScope, mscope, MPassed, mnothing, mpassed, passed_in, mslots, mwriter, writer, named_as, with_names, Names, row, Thing}
use Rattle.gl_plain.specs.Binding.{Spot}
use Rattle.gl_plain.specs.Live.{AttrSpot, ModSpot, ItemSpot, item_names, Live, Lives, Items, has_node, have_node}
use Rattle.gl_plain.specs.Live
use Rattle.gl_plain.specs.Renew.{last_of}
use Rattle.gl_plain.specs.Stands.{SpottedIn, one_expr, attrs_by, mods_by, tail_of, modifier_pairs, WhereValues, WhereBlock, AttrsStand, ModsStand, CommentStands, Stands, StandIn, ItemsStand, BlockStands, ListStands, ElseStands}
use Rattle.gl_plain.specs.Machine.{no_place, RootStands}
use Rattle.gl_plain.proofs.Apart.{StepsOf, later_apart}
use Rattle.gl_turns.specs.Places.{Place, node_place, position_place, item_place, instance_place, node_in, position_in, item_in, instance_in, modifier_in, comment_places, attr_places, mod_places, places, places_items, places_in}
use Rattle.gl_turns.specs.Fits.{StepsIn, AttrsOwn, ModsOwn, Fits, FitsItems, FitsIn, FitsRoot}

-- Scopes

-- the machine's scope has the blocks that the meaning's has, along the chain of those that wrote
abbrev mutual
  pub SameScope : MScope → Scope → Type 0
  SameScope (mscope i a l w) (scope j b k u) = SamePassed w u

  pub SamePassed : MPassed → Passed → Type 0
  SamePassed mnothing nothing_passed = Unit {0}
  SamePassed (mpassed k ps bs s) (passed qs cs v) = (cs ≡ bs) × SameScope s v
  SamePassed _ _ = ⊥

abbrev pub slots_in : Passed → Slots
slots_in nothing_passed = no_slots
slots_in (passed ps bs s) = bs

pub same_in : (ms : MScope) (w : Scope) → SameScope ms w → SamePassed (passed_in ms) (passed_of w)
same_in (mscope i a l v) (scope j b k u) s = s

pub same_slots : (v : MPassed) (u : Passed) → SamePassed v u → slots_in u ≡ mslots v
same_slots mnothing nothing_passed s = refl
same_slots (mpassed k ps bs m) (passed qs cs w) s = s.0
same_slots mnothing (passed qs cs w) s = absurd s
same_slots (mpassed k ps bs m) nothing_passed s = absurd s

pub same_writer : (v : MPassed) (u : Passed) → SamePassed v u → SameScope (mwriter v) (writer u)
same_writer mnothing nothing_passed s = tt
same_writer (mpassed k ps bs m) (passed qs cs w) s = s.1
same_writer mnothing (passed qs cs w) s = absurd s
same_writer (mpassed k ps bs m) nothing_passed s = absurd s

pub same_named : (ms : MScope) (w : Scope) (ns : Names) (xs : NamedPairs) → SameScope ms w → SameScope (with_names ns ms) (with_locals xs w)
same_named (mscope i a l v) (scope j b k u) ns xs s = s

pub locals_passed : (xs : NamedPairs) (w : Scope) → passed_of (with_locals xs w) ≡ passed_of w
locals_passed xs (scope j b l u) = refl

-- Lists

map_join : {A B : Type 0} (f : A → B) (xs ys : List A) → map f (xs ++ ys) ≡ map f xs ++ map f ys
map_join f [] ys = refl
map_join f (x ∷ xs) ys = ap (λ zs. f x ∷ zs) (map_join f xs ys)

abbrev Firsts : {A B : Type 0} → (A → Option (Path × B)) → List A → List Path
Firsts g xs = map (λ z. z.0) (filter_map g xs)

firsts_join : {A B : Type 0} (g : A → Option (Path × B)) (xs ys : List A) → Firsts g (xs ++ ys) ≡ Firsts g xs ++ Firsts g ys
firsts_join g xs ys = ap (map (λ z. z.0)) (filter_map_append g xs ys) ∙ map_join (λ z. z.0) (filter_map g xs) (filter_map g ys)

-- where nothing is found on both sides of a part
between : {A B : Type 0} (g : A → Option B) (xs ys zs : List A) → filter_map g xs ≡ [] → filter_map g zs ≡ [] → filter_map g (xs ++ (ys ++ zs)) ≡ filter_map g ys
between g xs ys zs e f =
    filter_map_append g xs (ys ++ zs) ∙ (ap (λ a. a ++ filter_map g (ys ++ zs)) e ∙ (filter_map_append g ys zs ∙ (ap (λ a. filter_map g ys ++ a) f ∙ append-nil (filter_map g ys))))

-- and before it
behind : {A B : Type 0} (g : A → Option B) (xs ys zs : List A) → filter_map g xs ≡ [] → filter_map g ys ≡ [] → filter_map g ((xs ++ ys) ++ zs) ≡ filter_map g zs
behind g xs ys zs e f = filter_map_append g (xs ++ ys) zs ∙ ap (λ a. a ++ filter_map g zs) (filter_map_append g xs ys ∙ ap₂ (λ a b. a ++ b) e f)

forest_pieces : (ps qs : List Piece) → c.pieces (forest_of (ps ++ qs)) ≡ c.pieces (forest_of ps) ++ c.pieces (forest_of qs)
forest_pieces [] qs = refl
forest_pieces (p ∷ ps) qs = ap (λ a. c.pieces_in p ++ a) (forest_pieces ps qs) ∙ sym (append_assoc (c.pieces_in p) (c.pieces (forest_of ps)) (c.pieces (forest_of qs)))

-- Nodes

join_nodes : (f g : Forest) → r.has_node (join f g) ≡ (r.has_node f || r.has_node g)
join_nodes no_pieces g = refl
join_nodes (piece q f) g = ap (λ b. r.is_node q || b) (join_nodes f g) ∙ assoc (r.is_node q) (r.has_node f) (r.has_node g) where
  assoc : (a b c : Bool) → (a || (b || c)) ≡ ((a || b) || c)
  assoc true b c = refl
  assoc false b c = refl

or_true : (b : Bool) → (b || true) ≡ true
or_true true = refl
or_true false = refl

or_false : (b : Bool) → (b || false) ≡ b
or_false true = refl
or_false false = refl

node_behind : (f : Forest) (p : Path) (tag : Text) (attrs : Attrs) (mods : List Modifier) (g : Forest) → r.has_node (join f (single (r.element_node p tag attrs mods g))) ≡ true
node_behind f p tag attrs mods g = join_nodes f (single (r.element_node p tag attrs mods g)) ∙ or_true (r.has_node f)

module _ (look : Id → Option Thing) where
  -- An item's references hold its value and its index.
  abbrev pub ItemsShown : List (Path × ItemSpot) → List c.Item → Type 0
  ItemsShown [] [] = Unit {0}
  ItemsShown (z ∷ zs) (i ∷ is) =
      (z.0 ≡ i.path)
      × (look (ref z.1.value) ≡ Some (row (record { form = source_form (item_value z.0) i.value; last = any_of [] })))
      × (look (ref z.1.index) ≡ Some (row (record { form = source_form (item_index z.0) (count_value i.index); last = any_of [] })))
      × ItemsShown zs is
  ItemsShown _ _ = ⊥

  items_join : (zs ys : List (Path × ItemSpot)) (is js : List c.Item) → ItemsShown zs is → ItemsShown ys js → ItemsShown (zs ++ ys) (is ++ js)
  items_join [] ys [] js h g = g
  items_join (z ∷ zs) ys (i ∷ is) js h g = (h.0, h.1, h.2, items_join zs ys is js h.3 g)
  items_join [] ys (i ∷ is) js h g = absurd h
  items_join (z ∷ zs) ys [] js h g = absurd h

  -- the sum of what f gives for positions, from their paths and the sources of their last evaluation
  abbrev pub kept_sum : (Path → ((Source → Bool) → Bool) → ℕ) → List (Path × ℕ) → ℕ
  kept_sum f [] = 0
  kept_sum f (q ∷ qs) = f q.0 (last_of (look (ref q.1))) + kept_sum f qs

  kept_join : (f : Path → ((Source → Bool) → Bool) → ℕ) (xs ys : List (Path × ℕ)) → kept_sum f (xs ++ ys) ≡ kept_sum f xs + kept_sum f ys
  kept_join f [] ys = omega arith
  kept_join f (x ∷ xs) ys = let h = kept_join f xs ys in omega (arith, h)

abbrev pub read_sum : (Path → ((Source → Bool) → Bool) → ℕ) → List c.Position → ℕ
read_sum f [] = 0
read_sum f (q ∷ qs) = f q.path (any_of (sources_of q.pairs)) + read_sum f qs

read_join : (f : Path → ((Source → Bool) → Bool) → ℕ) (xs ys : List c.Position) → read_sum f (xs ++ ys) ≡ read_sum f xs + read_sum f ys
read_join f [] ys = omega arith
read_join f (x ∷ xs) ys = let h = read_join f xs ys in omega (arith, h)

-- the sum of what f gives for paths
abbrev pub path_sum : (Path → ℕ) → List Path → ℕ
path_sum f [] = 0
path_sum f (p ∷ ps) = f p + path_sum f ps

path_sums : (f : Path → ℕ) (xs ys : List Path) → path_sum f (xs ++ ys) ≡ path_sum f xs + path_sum f ys
path_sums f [] ys = omega arith
path_sums f (x ∷ xs) ys = let h = path_sums f xs ys in omega (arith, h)

abbrev pub mod_paths : List Piece → List Path
mod_paths qs = map (λ m. m.path) (flat_map c.modifiers_on qs)

mods_join : (xs ys : List Piece) → flat_map c.modifiers_on (xs ++ ys) ≡ flat_map c.modifiers_on xs ++ flat_map c.modifiers_on ys
mods_join [] ys = refl
mods_join (x ∷ xs) ys = ap (λ a. c.modifiers_on x ++ a) (mods_join xs ys) ∙ sym (append_assoc (c.modifiers_on x) (flat_map c.modifiers_on xs) (flat_map c.modifiers_on ys))

mod_sums : (f : Path → ℕ) (xs ys : List Piece) → path_sum f (mod_paths (xs ++ ys)) ≡ path_sum f (mod_paths xs) + path_sum f (mod_paths ys)
mod_sums f xs ys = ap (λ ms. path_sum f (map (λ (m : Modifier). m.path) ms)) (mods_join xs ys) ∙ (ap (path_sum f) (map_join (λ (m : Modifier). m.path) (flat_map c.modifiers_on xs) (flat_map c.modifiers_on ys)) ∙ path_sums f (mod_paths xs) (mod_paths ys))

place_sums : (f : Path → ℕ) (xs ys : List Place) → path_sum f (Firsts modifier_in (xs ++ ys)) ≡ path_sum f (Firsts modifier_in xs) + path_sum f (Firsts modifier_in ys)
place_sums f xs ys = ap (path_sum f) (firsts_join modifier_in xs ys) ∙ path_sums f (Firsts modifier_in xs) (Firsts modifier_in ys)

module _ (look : Id → Option Thing) where
  abbrev Read : Type 0
  Read = Path → ((Source → Bool) → Bool) → ℕ

  -- some places are those of some pieces
  pub record Agree (xs : List Place) (qs : List Piece) : Type 0 where
    pub nodes : Firsts node_in xs ≡ filter_map c.node_path qs
    pub instances : Firsts instance_in xs ≡ filter_map c.instance_path qs
    pub items : ItemsShown look (filter_map item_in xs) (filter_map c.item_in qs)
    pub positions : (f : Read) → kept_sum look f (filter_map position_in xs) ≡ read_sum f (filter_map c.position_in qs)
    pub modifiers : (f : Path → ℕ) → path_sum f (Firsts modifier_in xs) ≡ path_sum f (mod_paths qs)

  agree_none : Agree [] []
  agree_none = record { nodes = refl; instances = refl; items = tt; positions = λ f. refl; modifiers = λ f. refl }

  sums_join : (f : Read) (xs ys : List Place) → kept_sum look f (filter_map position_in (xs ++ ys)) ≡ kept_sum look f (filter_map position_in xs) + kept_sum look f (filter_map position_in ys)
  sums_join f xs ys = ap (kept_sum look f) (filter_map_append position_in xs ys) ∙ kept_join look f (filter_map position_in xs) (filter_map position_in ys)

  reads_join : (f : Read) (qs rs : List Piece) → read_sum f (filter_map c.position_in (qs ++ rs)) ≡ read_sum f (filter_map c.position_in qs) + read_sum f (filter_map c.position_in rs)
  reads_join f qs rs = ap (read_sum f) (filter_map_append c.position_in qs rs) ∙ read_join f (filter_map c.position_in qs) (filter_map c.position_in rs)

  agree_join : (xs ys : List Place) (qs rs : List Piece) → Agree xs qs → Agree ys rs → Agree (xs ++ ys) (qs ++ rs)
  agree_join xs ys qs rs h g = record {
    nodes = firsts_join node_in xs ys ∙ (ap₂ (λ a b. a ++ b) h.nodes g.nodes ∙ sym (filter_map_append c.node_path qs rs));
    instances = firsts_join instance_in xs ys ∙ (ap₂ (λ a b. a ++ b) h.instances g.instances ∙ sym (filter_map_append c.instance_path qs rs));
    items =
        subst (λ a. ItemsShown look a (filter_map c.item_in (qs ++ rs))) (sym (filter_map_append item_in xs ys))
        (subst (λ a. ItemsShown look (filter_map item_in xs ++ filter_map item_in ys) a) (sym (filter_map_append c.item_in qs rs))
        (items_join look (filter_map item_in xs) (filter_map item_in ys) (filter_map c.item_in qs) (filter_map c.item_in rs) h.items g.items));
    positions = λ f. sums_join f xs ys ∙ (ap₂ (λ a b. a + b) (h.positions f) (g.positions f) ∙ sym (reads_join f qs rs));
    modifiers = λ f. place_sums f xs ys ∙ (ap₂ (λ a b. a + b) (h.modifiers f) (g.modifiers f) ∙ sym (mod_sums f qs rs));
  }

  agree_forests : (xs ys : List Place) (f g : Forest) → Agree xs (c.pieces f) → Agree ys (c.pieces g) → Agree (xs ++ ys) (c.pieces (join f g))
  agree_forests xs ys f g h k = subst (Agree (xs ++ ys)) (sym (pieces_join f g)) (agree_join xs ys (c.pieces f) (c.pieces g) h k)

  at_end : (xs : List Place) (qs : List Piece) → Agree xs qs → Agree xs (qs ++ [])
  at_end xs qs h = subst (Agree xs) (sym (append-nil qs)) h

  agree_branch : (xs : List Place) (p : Path) (f : Forest) → Agree xs (c.pieces f) → Agree xs (c.pieces (single (r.branch p f)))
  agree_branch xs p f h = let k = at_end xs (c.pieces f) h in record { nodes = k.nodes; instances = k.instances; items = k.items; positions = k.positions; modifiers = k.modifiers }

  agree_component : (xs : List Place) (p : Path) (i : Rattle.gl_plain.specs.State.Inst) (s : Scope) (f : Forest) → i.path ≡ p → Agree xs (c.pieces f) → Agree (instance_place i.path i ∷ xs) (c.pieces (single (r.component p s f)))
  agree_component xs p i s f e h =
      let k = at_end xs (c.pieces f) h in
      record { nodes = k.nodes; instances = ap₂ (λ a b. a ∷ b) e k.instances; items = k.items; positions = k.positions; modifiers = k.modifiers }

  agree_position : (p : Path) (n : ℕ) (vs : List Pair) (xs : List Place) (qs : List Piece) → last_of (look (ref n)) ≡ any_of (sources_of vs) → Agree xs qs → Agree (position_place p n ∷ xs) (position p vs ∷ qs)
  agree_position p n vs xs qs e h = record {
    nodes = h.nodes;
    instances = h.instances;
    items = h.items;
    positions = λ f. ap₂ (λ a b. f p a + b) e (h.positions f);
    modifiers = h.modifiers;
  }

  -- a comment where no node is
  agree_arm : (p : Path) (k : Option ℕ) (xs : List Place) (ls : Lives) (f : Forest) (app : App) (σ τ : Store) → r.has_node f ≡ have_node ls → CommentStands app σ τ look k ls → Agree xs (c.pieces f)
      → Agree (xs ++ comment_places p k) (c.pieces (r.or_comment p f)) × (r.has_node (r.or_comment p f) ≡ true)
  agree_arm p None xs ls f app σ τ e s h =
      let b = e ∙ s in (
        subst (λ d. Agree (xs ++ []) (c.pieces (join f (if d then no_pieces else single (r.comment_node (empty ∷ p) []))))) (sym b) (agree_forests xs [] f no_pieces h agree_none),
        ap (λ d. r.has_node (join f (if d then no_pieces else single (r.comment_node (empty ∷ p) [])))) b ∙ (join_nodes f no_pieces ∙ (or_false (r.has_node f) ∙ b)),
      )
  agree_arm p (Some n) xs ls f app σ τ e s h =
      let b = e ∙ s.0 in let g = single (r.comment_node (empty ∷ p) []) in (
        subst (λ d. Agree (xs ++ node_place (empty ∷ p) n ∷ []) (c.pieces (join f (if d then no_pieces else g)))) (sym b)
            (agree_forests xs (node_place (empty ∷ p) n ∷ []) f g h (record { nodes = refl; instances = refl; items = tt; positions = λ f. refl; modifiers = λ f. refl })),
        ap (λ d. r.has_node (join f (if d then no_pieces else g))) b ∙ (join_nodes f g ∙ or_true (r.has_node f)),
      )

  -- the positions of a tag's parts
  pub record Parts (xs : List Place) (qs : List Piece) : Type 0 where
    pub nodes : filter_map node_in xs ≡ []
    pub nodes' : filter_map c.node_path qs ≡ []
    pub instances : filter_map instance_in xs ≡ []
    pub instances' : filter_map c.instance_path qs ≡ []
    pub items : filter_map item_in xs ≡ []
    pub items' : filter_map c.item_in qs ≡ []
    pub modifiers' : flat_map c.modifiers_on qs ≡ []
    pub positions : (f : Read) → kept_sum look f (filter_map position_in xs) ≡ read_sum f (filter_map c.position_in qs)

  agree_element : (p : Path) (n : ℕ) (xs ys zs : List Place) (qs rs : List Piece) (tag : Text) (attrs : Attrs) (mods : List Modifier) (f : Forest) → Parts xs (c.pieces (forest_of qs)) → Parts zs (c.pieces (forest_of rs)) → filter_map modifier_in xs ≡ [] → Firsts modifier_in zs ≡ map (λ m. m.path) mods → Agree ys (c.pieces f)
      → Agree (node_place p n ∷ (xs ++ (ys ++ zs))) (c.pieces (join (forest_of (qs ++ rs)) (single (r.element_node p tag attrs mods f))))
  agree_element p n xs ys zs qs rs tag attrs mods f hx hz ha hm hy =
      let as' = c.pieces (forest_of qs) in
      let ms' = c.pieces (forest_of rs) in
      let el = r.element_node p tag attrs mods f in
      let k = at_end ys (c.pieces f) hy in
      subst (Agree (node_place p n ∷ (xs ++ (ys ++ zs)))) (sym (pieces_join (forest_of (qs ++ rs)) (single el) ∙ ap (λ a. a ++ (el ∷ (c.pieces f ++ []))) (forest_pieces qs rs)))
      (record {
        nodes = ap (λ a. p ∷ map (λ z. z.0) a) (between node_in xs ys zs hx.nodes hz.nodes) ∙ (ap (λ a. p ∷ a) k.nodes ∙ sym (behind c.node_path as' ms' (el ∷ (c.pieces f ++ [])) hx.nodes' hz.nodes'));
        instances = ap (map (λ z. z.0)) (between instance_in xs ys zs hx.instances hz.instances) ∙ (k.instances ∙ sym (behind c.instance_path as' ms' (el ∷ (c.pieces f ++ [])) hx.instances' hz.instances'));
        items =
            subst (λ a. ItemsShown look a (filter_map c.item_in ((as' ++ ms') ++ (el ∷ (c.pieces f ++ []))))) (sym (between item_in xs ys zs hx.items hz.items))
            (subst (λ a. ItemsShown look (filter_map item_in ys) a) (sym (behind c.item_in as' ms' (el ∷ (c.pieces f ++ [])) hx.items' hz.items')) k.items);
        positions = λ g.
            let a = sums_join g xs (ys ++ zs) in
            let b = sums_join g ys zs in
            let u = reads_join g (as' ++ ms') (el ∷ (c.pieces f ++ [])) in
            let v = reads_join g as' ms' in
            let x = hx.positions g in
            let y = k.positions g in
            let z = hz.positions g in omega (arith, a, b, u, v, x, y, z);
        modifiers = λ g.
            let a = place_sums g xs (ys ++ zs) in
            let b = place_sums g ys zs in
            let d = ap (λ ms. path_sum g (map (λ z. z.0) ms)) ha in
            let e = ap (path_sum g) hm in
            let u = mod_sums g (as' ++ ms') (el ∷ (c.pieces f ++ [])) in
            let v = ap (λ ms. path_sum g (map (λ (m : Modifier). m.path) ms)) (mods_join as' ms' ∙ ap₂ (λ x y. x ++ y) hx.modifiers' hz.modifiers') in
            let w = ap (path_sum g) (map_join (λ (m : Modifier). m.path) mods (flat_map c.modifiers_on (c.pieces f ++ []))) in
            let x = path_sums g (map (λ (m : Modifier). m.path) mods) (mod_paths (c.pieces f ++ [])) in
            let y = k.modifiers g in omega (arith, a, b, d, e, u, v, w, x, y);
      })

  module _ (app : App) (σ τ : Store) where
    spot_last : (ms : MScope) (more : List Id) (z : Spot) (E : Store → (ℕ → Pair) → List Pair) (ps : List Pair) → SpottedIn app look ms more z E ps → last_of (look (ref z.ref)) ≡ any_of (sources_of ps)
    spot_last ms more z E ps h = ap last_of h.is.0

    parts_cons : (p : Path) (n : ℕ) (vs : List Pair) (xs : List Place) (qs : List Piece) → last_of (look (ref n)) ≡ any_of (sources_of vs) → Parts xs (c.pieces (forest_of qs)) → Parts (position_place p n ∷ xs) (c.pieces (forest_of (position p vs ∷ qs)))
    parts_cons p n vs xs qs e h = record {
      nodes = h.nodes;
      nodes' = h.nodes';
      instances = h.instances;
      instances' = h.instances';
      items = h.items;
      items' = h.items';
      modifiers' = h.modifiers';
      positions = λ f. ap₂ (λ a b. f p a + b) e (h.positions f);
    }

    parts_none : Parts [] []
    parts_none = record { nodes = refl; nodes' = refl; instances = refl; instances' = refl; items = refl; items' = refl; modifiers' = refl; positions = λ f. refl }

    attrs_agree : (p : Path) (made : List Id) (s : Scope) (ms : MScope) (ws : Scope → List (WrittenValue Scope)) (ns : List Text) (xs : List AttrSpot) → AttrsStand app σ τ look made s ms ws ns xs
        → Parts (attr_places p xs) (c.pieces (forest_of (map (λ n. position (attribute_at n ∷ p) (taken_pairs app σ (ws s) n)) ns))) × AttrsOwn xs
    attrs_agree p made s ms ws [] [] h = (parts_none, tt)
    attrs_agree p made s ms ws (n ∷ ns) (a ∷ xs) h =
        let g = attrs_agree p made s ms ws ns xs h.2 in
        let qs = map (λ n. position (attribute_at n ∷ p) (taken_pairs app σ (ws s) n)) ns in (
          subst (λ k. Parts (position_place (attribute_at k ∷ p) a.spot.ref ∷ attr_places p xs) (c.pieces (forest_of (position (attribute_at n ∷ p) (taken_pairs app σ (ws s) n) ∷ qs)))) (sym h.0)
              (parts_cons (attribute_at n ∷ p) a.spot.ref (taken_pairs app σ (ws s) n) (attr_places p xs) qs (spot_last ms made a.spot _ _ h.1) g.0),
          (h.1.own, g.1),
        )
    attrs_agree p made s ms ws _ _ h = absurd h

    modifier_cons : (p : Path) (m : ℕ) (xs : List Place) (qs : List Piece) → Parts xs qs → Parts (Rattle.gl_turns.specs.Places.modifier_place p m ∷ xs) qs
    modifier_cons p m xs qs h = record { nodes = h.nodes; nodes' = h.nodes'; instances = h.instances; instances' = h.instances'; items = h.items; items' = h.items'; modifiers' = h.modifiers'; positions = h.positions }

    mods_agree : (p : Path) (made : List Id) (n : ℕ) (s : Scope) (ms : MScope) (ws : Scope → List (WrittenModifier Scope)) (i : ℕ) (ds : List (WrittenModifier Scope)) (zs : List ModSpot) → ModsStand app σ τ look made n s ms ws i ds zs
        → Parts (mod_places p i zs) (c.pieces (forest_of (r.modifier_positions (modifiers_of app σ p i ds)))) × ModsOwn zs
    mods_agree p made n s ms ws i [] [] h = (parts_none, tt)
    mods_agree p made n s ms ws i (d ∷ ds) (z ∷ zs) h =
        let g = mods_agree p made n s ms (λ s'. tail_of (ws s')) (suc i) ds zs h.4 in
        let q = modifier_at i ∷ p in
        let qs = r.modifier_positions (modifiers_of app σ p (suc i) ds) in (
          parts_cons q z.spot.ref (modifier_pairs app σ d) (Rattle.gl_turns.specs.Places.modifier_place q z.id ∷ mod_places p (suc i) zs) qs (spot_last ms made z.spot _ _ h.3)
              (modifier_cons q z.id (mod_places p (suc i) zs) (c.pieces (forest_of qs)) g.0),
          (h.3.own, g.1),
        )
    mods_agree p made n s ms ws i _ _ h = absurd h

    yields_by : (d : Components) (u : Passed) (n : Text) (vs : List Pair) (p : Path)
        → yields_of app σ d u n vs p ≡ r.in_block (block_named n (slots_in u)) (λ b. render_body app σ d (yields_of app σ d (passed_of (writer u))) (with_locals (bind b.params vs) (writer u)) (slot n ∷ p) 0 b.body)
    yields_by d nothing_passed n vs p = refl
    yields_by d (passed ps bs (scope i a l w)) n vs p = refl

    abbrev inner : ℕ → Components
    inner m = components_at m app σ

    abbrev body_of : ℕ → Passed → Scope → Path → ℕ → t.Body → Forest
    body_of m u w p i c = render_body app σ (inner m) (yields_of app σ (inner m) u) w p i c

    pub record Part (p : Path) (l : Live) (f : Forest) : Type 0 where
      pub agree : Agree (places p l) (c.pieces f)
      pub there : r.has_node f ≡ has_node l
      pub fits : Fits p l

    pub record PartIn (p : Path) (i : ℕ) (ls : Lives) (f : Forest) : Type 0 where
      pub agree : Agree (places_in p i ls) (c.pieces f)
      pub there : r.has_node f ≡ have_node ls
      pub fits : FitsIn p i ls

    abbrev values_some : Values Path → Bool
    values_some no_values = false
    values_some (value v vs) = true

    pub record PartItems (p : Path) (is : Items) (f : Forest) (some : Bool) : Type 0 where
      pub agree : Agree (places_items p is) (c.pieces f)
      pub there : r.has_node f ≡ some
      pub fits : FitsItems p is

    -- the steps of items are those of the entries
    steps_of : (m b : ℕ) (s : Scope) (ms : MScope) (p : Path) (ns : List Text) (c : t.Body) (xs : List Entry) (is : Items) → ItemsStand app σ τ look m b s ms p ns c xs is → (l : PathStep) → StepsIn is l → StepsOf xs l
    steps_of m b s ms p ns c [] Live.no_items h l w = w
    steps_of m b s ms p ns c (x ∷ xs) (Live.item_live z k ls is) h l w = elim w [ inl e ↦ inl (e ∙ ap₂ item h.0.0 h.0.1) | inr u ↦ inr (steps_of m b s ms p ns c xs is h.5 l u) ]
    steps_of m b s ms p ns c [] (Live.item_live z k ls is) h l w = absurd h
    steps_of m b s ms p ns c (x ∷ xs) Live.no_items h l w = absurd h

    attr_modifiers : (p : Path) (xs : List AttrSpot) → filter_map modifier_in (attr_places p xs) ≡ []
    attr_modifiers p [] = refl
    attr_modifiers p (a ∷ xs) = attr_modifiers p xs

    mod_modifiers : (p : Path) (made : List Id) (n : ℕ) (s : Scope) (ms : MScope) (ws : Scope → List (WrittenModifier Scope)) (i : ℕ) (ds : List (WrittenModifier Scope)) (zs : List ModSpot) → ModsStand app σ τ look made n s ms ws i ds zs
        → Firsts modifier_in (mod_places p i zs) ≡ map (λ m. m.path) (modifiers_of app σ p i ds)
    mod_modifiers p made n s ms ws i [] [] h = refl
    mod_modifiers p made n s ms ws i (d ∷ ds) (z ∷ zs) h = ap (λ a. (modifier_at i ∷ p) ∷ a) (mod_modifiers p made n s ms (λ s'. tail_of (ws s')) (suc i) ds zs h.4)
    mod_modifiers p made n s ms ws i [] (z ∷ zs) h = absurd h
    mod_modifiers p made n s ms ws i (d ∷ ds) [] h = absurd h

    if_part : (p : Path) (unless u : Bool) (v : Pair) (F G A : Forest) (l : Live) → takes_first unless v.value ≡ u → Part p l (piece (position p (v ∷ [])) (if u then r.region_at (main ∷ p) F else r.region_at (otherwise ∷ p) G))
        → Part p l (r.if_of p unless v F G)
    if_part p unless u v F G A l e h = subst (λ b. Part p l (piece (position p (v ∷ [])) (if b then r.region_at (main ∷ p) F else r.region_at (otherwise ∷ p) G))) (sym e) h

    list_part : (p : Path) (l : Live) (v : Pair) (F : Values Path → Forest) (G : Forest) (P : Values Path → Type 0) (us : Values Path) → values_listed v.value ≡ us → WhereValues us P ⊥
        → ((us : Values Path) → P us → values_some us ≡ true → Part p l (piece (position p (v ∷ [])) (single (r.branch (items ∷ p) (F us))))) → Part p l (r.each_of p v F G)
    list_part p l v F G P no_values f h g = absurd h
    list_part p l v F G P (value x us) f h g = subst (λ y. Part p l (piece (position p (v ∷ [])) (r.items_or_else p y F G))) (sym f) (g (value x us) h refl)

    else_part : (p : Path) (l : Live) (v : Pair) (F : Values Path → Forest) (G : Forest) (Q : Type 0) (us : Values Path) → values_listed v.value ≡ us → WhereValues us (λ z. ⊥) Q
        → (Q → Part p l (piece (position p (v ∷ [])) (r.region_at (otherwise ∷ p) G))) → Part p l (r.each_of p v F G)
    else_part p l v F G Q (value x us) f h g = absurd h
    else_part p l v F G Q no_values f h g = subst (λ y. Part p l (piece (position p (v ∷ [])) (r.items_or_else p y F G))) (sym f) (g h)

    block_part : (p : Path) (o : Option Block) (F : Block → Forest) (P : Block → Type 0) (ls : Lives) → ((c : Block) → P c → PartIn p 0 ls (F c)) → WhereBlock o P (ls ≡ Live.no_lives) → PartIn p 0 ls (r.in_block o F)
    block_part p None F P ls g h = subst (λ y. PartIn p 0 y no_pieces) (sym h) (record { agree = agree_none; there = refl; fits = tt })
    block_part p (Some c) F P ls g h = g c h

    mutual
      pub shown : (m b : ℕ) (w : Scope) (ms : MScope) (u : Passed) (p : Path) (x : t.Stmt) (l : Live) → passed_of w ≡ u → SameScope ms w → Stands app σ τ look m b w ms p x l
          → Part p l (render_stmt app σ (inner m) (yields_of app σ (inner m) u) w p x)
      shown m b w ms u p (t.text_stmt z) (Live.still n) e s h = record { agree = record { nodes = refl; instances = refl; items = tt; positions = λ f. refl; modifiers = λ f. refl }; there = refl; fits = tt }
      shown m b w ms u p (t.comment_stmt z) (Live.still n) e s h = record { agree = record { nodes = refl; instances = refl; items = tt; positions = λ f. refl; modifiers = λ f. refl }; there = refl; fits = tt }
      shown m b w ms u p (t.put z) (Live.put_live n k) e s h = record {
        agree = agree_position p k.ref (eval_all app σ w (one_expr z)) (node_place p n ∷ []) _ (spot_last ms [] k _ _ h.1) (record { nodes = refl; instances = refl; items = tt; positions = λ f. refl; modifiers = λ f. refl });
        there = refl;
        fits = h.1.own;
      }
      shown m b w ms u p (t.element tag ps d) (Live.element_live n made xs zs ls) e s h =
          let g = shown_in m b w ms u p 0 d ls e s h.3 in
          let a = attrs_agree p made w ms (attrs_by ps) _ xs h.1 in
          let k = mods_agree p made n w ms (mods_by ps) 0 (mods_by ps w) zs h.2 in
          record {
            agree = agree_element p n (attr_places p xs) (places_in p 0 ls) (mod_places p 0 zs) _ _ tag _ _ (body_of m u w p 0 d) a.0 k.0 (attr_modifiers p xs) (mod_modifiers p made n w ms (mods_by ps) 0 (mods_by ps w) zs h.2) g.agree;
            there = let vs = attrs_by ps w in node_behind (forest_of (r.attr_positions p vs (taken_pairs app σ vs) ++ r.modifier_positions (modifiers_of app σ p 0 (mods_by ps w)))) p tag _ _ (body_of m u w p 0 d);
            fits = (a.1, k.1, g.fits);
          }
      shown m b w ms u p (t.if_stmt z unless c d) (Live.branch_live k true y ls) e s h =
          let g = shown_in m b w ms u (main ∷ p) 0 c ls e s h.3 in
          let a = agree_arm (main ∷ p) y (places_in (main ∷ p) 0 ls) ls (body_of m u w (main ∷ p) 0 c) app σ τ g.there h.2 g.agree in
          if_part p unless true (eval app σ w z) (body_of m u w (main ∷ p) 0 c) (body_of m u w (otherwise ∷ p) 0 d) no_pieces (Live.branch_live k true y ls) h.1
          (record {
            agree = agree_position p k.ref (eval_all app σ w (one_expr z)) _ _ (spot_last ms [] k _ _ h.0) (agree_branch _ (main ∷ p) _ a.0);
            there = ap (λ q. q || false) a.1;
            fits = (h.0.own, g.fits);
          })
      shown m b w ms u p (t.if_stmt z unless c d) (Live.branch_live k false y ls) e s h =
          let g = shown_in m b w ms u (otherwise ∷ p) 0 d ls e s h.3 in
          let a = agree_arm (otherwise ∷ p) y (places_in (otherwise ∷ p) 0 ls) ls (body_of m u w (otherwise ∷ p) 0 d) app σ τ g.there h.2 g.agree in
          if_part p unless false (eval app σ w z) (body_of m u w (main ∷ p) 0 c) (body_of m u w (otherwise ∷ p) 0 d) no_pieces (Live.branch_live k false y ls) h.1
          (record {
            agree = agree_position p k.ref (eval_all app σ w (one_expr z)) _ _ (spot_last ms [] k _ _ h.0) (agree_branch _ (otherwise ∷ p) _ a.0);
            there = ap (λ q. q || false) a.1;
            fits = (h.0.own, g.fits);
          })
      shown m b w ms u p (t.each z key ns c d) (Live.listed k is) e s h =
          list_part p (Live.listed k is) (eval app σ w z) (λ us. r.render_entries (λ q x. body_of m u (with_locals (bind ns (entry_pairs q x)) w) q 0 c) (items ∷ p) (entries key 0 [] us))
          (body_of m u w (otherwise ∷ p) 0 d) (ListStands app σ τ look m b w ms p key ns c is) (values_listed (eval app σ w z).value) refl h.1
          (λ us hi some.
          let g = shown_items m b w ms u (items ∷ p) ns c key 0 [] us is e s (distinct key 0 [] us) hi in
          record {
            agree = agree_position p k.ref (eval_all app σ w (one_expr z)) _ _ (spot_last ms [] k _ _ h.0) (agree_branch _ (items ∷ p) _ g.agree);
            there = ap (λ q. q || false) (g.there ∙ some);
            fits = (h.0.own, g.fits);
          })
      shown m b w ms u p (t.each z key ns c d) (Live.unlisted k y ls) e s h =
          else_part p (Live.unlisted k y ls) (eval app σ w z) (λ us. r.render_entries (λ q x. body_of m u (with_locals (bind ns (entry_pairs q x)) w) q 0 c) (items ∷ p) (entries key 0 [] us))
          (body_of m u w (otherwise ∷ p) 0 d) (ElseStands app σ τ look m b w ms p d y ls) (values_listed (eval app σ w z).value) refl h.1
          (λ hi.
          let g = shown_in m b w ms u (otherwise ∷ p) 0 d ls e s hi.1 in
          let a = agree_arm (otherwise ∷ p) y (places_in (otherwise ∷ p) 0 ls) ls (body_of m u w (otherwise ∷ p) 0 d) app σ τ g.there hi.0 g.agree in
          record {
            agree = agree_position p k.ref (eval_all app σ w (one_expr z)) _ _ (spot_last ms [] k _ _ h.0) (agree_branch _ (otherwise ∷ p) _ a.0);
            there = ap (λ q. q || false) a.1;
            fits = (h.0.own, g.fits);
          })
      shown m b w ms u p (t.let_stmt es ns c) (Live.let_live made rs ls) e s h =
          let g = shown_in m _ (with_locals (bind ns (eval_all app σ w es)) w) (with_names (named_as ns rs) ms) u (main ∷ p) 0 c ls (locals_passed (bind ns (eval_all app σ w es)) w ∙ e)
          (same_named ms w (named_as ns rs) (bind ns (eval_all app σ w es)) s) h.3 in
          record { agree = g.agree; there = g.there; fits = g.fits }
      shown (suc m) b w ms u p (t.component_stmt c ps given bs) (Live.component_live i made gm args (Some k) ls) e s h =
          let q = into c ∷ p in
          let g = shown_in m _ (scope q (eval_given app σ w given) [] (passed ps bs w)) (mscope i args [] (mpassed k ps bs ms)) (passed ps bs w) q 0 (class_at app q).template ls refl (refl, s) h.7 in
          let f = body_of m (passed ps bs w) (scope q (eval_given app σ w given) [] (passed ps bs w)) q 0 (class_at app q).template in
          record {
            agree = agree_component (places_in i.path 0 ls) q i _ f h.2 (subst (λ j. Agree (places_in j 0 ls) (Rattle.gl_meaning.specs.Changes.pieces f)) (sym h.2) g.agree);
            there = or_false (r.has_node f) ∙ g.there;
            fits = (c, h.2, h.1.0, subst (λ j. FitsIn j 0 ls) (sym h.2) g.fits);
          }
      shown zero b w ms u p (t.component_stmt c ps given bs) (Live.deep_live q) e s h = record { agree = record { nodes = refl; instances = refl; items = tt; positions = λ f. refl; modifiers = λ f. refl }; there = refl; fits = tt }
      shown m b w ms u p (t.yield es n) (Live.yield_live k made rs ls) e s h =
          let v = passed_of w in
          let sp = same_in ms w s in
          let F : Block → Forest = λ c. body_of m (passed_of (writer v)) (with_locals (bind c.params (eval_all app σ w es)) (writer v)) (slot n ∷ p) 0 c.body in
          let g = block_part (slot n ∷ p) (block_named n (mslots (passed_in ms))) F (BlockStands app σ τ look m b w ms p es n made rs ls) ls
          (λ c hi. shown_in m _ (with_locals (bind c.params (eval_all app σ w es)) (writer v)) (with_names (named_as c.params rs) (mwriter (passed_in ms))) (passed_of (writer v)) (slot n ∷ p) 0 c.body ls
          (locals_passed (bind c.params (eval_all app σ w es)) (writer v)) (same_named (mwriter (passed_in ms)) (writer v) (named_as c.params rs) (bind c.params (eval_all app σ w es)) (same_writer (passed_in ms) v sp)) hi.3) h.1 in
          let g1 : PartIn (slot n ∷ p) 0 ls (yields_of app σ (inner m) u n (eval_all app σ w es) p) =
          subst (λ y. PartIn (slot n ∷ p) 0 ls (yields_of app σ (inner m) y n (eval_all app σ w es) p)) e
          (subst (PartIn (slot n ∷ p) 0 ls) (sym (yields_by (inner m) v n (eval_all app σ w es) p)) (subst (λ y. PartIn (slot n ∷ p) 0 ls (r.in_block (block_named n y) F)) (sym (same_slots (passed_in ms) v sp)) g)) in
          let f = yields_of app σ (inner m) u n (eval_all app σ w es) p in
          record {
            agree = subst (λ j. Agree (places_in (slot j ∷ p) 0 ls) (c.pieces f)) (sym h.0) g1.agree;
            there = g1.there;
            fits = subst (λ j. FitsIn (slot j ∷ p) 0 ls) (sym h.0) g1.fits;
          }
      shown m b w ms u p _ _ e s h = absurd h

      pub shown_in : (m b : ℕ) (w : Scope) (ms : MScope) (u : Passed) (p : Path) (i : ℕ) (c : t.Body) (ls : Lives) → passed_of w ≡ u → SameScope ms w → StandIn app σ τ look m b w ms p i c ls → PartIn p i ls (body_of m u w p i c)
      shown_in m b w ms u p i t.end Live.no_lives e s h = record { agree = agree_none; there = refl; fits = tt }
      shown_in m b w ms u p i (t.stmt x d) (Live.live_and l ls) e s h =
          let g = shown m b w ms u (at i ∷ p) x l e s h.0 in
          let k = shown_in m b w ms u p (suc i) d ls e s h.1 in
          let f = render_stmt app σ (inner m) (yields_of app σ (inner m) u) w (at i ∷ p) x in
          record {
            agree = agree_forests (places (at i ∷ p) l) (places_in p (suc i) ls) f (body_of m u w p (suc i) d) g.agree k.agree;
            there = join_nodes f (body_of m u w p (suc i) d) ∙ ap₂ (λ x y. x || y) g.there k.there;
            fits = (g.fits, k.fits);
          }
      shown_in m b w ms u p i _ _ e s h = absurd h

      pub shown_items : (m b : ℕ) (w : Scope) (ms : MScope) (u : Passed) (p : Path) (ns : List Text) (c : t.Body) (key : Text) (i : ℕ) (before : List t.Plain) (vs : Values Path) (is : Items) → passed_of w ≡ u → SameScope ms w
          → Distinct (entries key i before vs) → ItemsStand app σ τ look m b w ms p ns c (entries key i before vs) is
          → PartItems p is (r.render_entries (λ q x. body_of m u (with_locals (bind ns (entry_pairs q x)) w) q 0 c) p (entries key i before vs)) (values_some vs)
      shown_items m b w ms u p ns c key i before no_values Live.no_items e s d h = record { agree = agree_none; there = refl; fits = tt }
      shown_items m b w ms u p ns c key i before (value v vs) (Live.item_live z k ls is) e s d h =
          let x : Entry = record { key = Rattle.gl_value.specs.Value.key_of key i v; occurrence = r.occurrences (Rattle.gl_value.specs.Value.key_of key i v) before; value = v; index = i } in
          let q = item x.key x.occurrence ∷ p in
          let w' = with_locals (bind ns (entry_pairs q x)) w in
          let g = shown_in m _ w' (with_names (item_names ns z) ms) u q 0 c ls (locals_passed (bind ns (entry_pairs q x)) w ∙ e) (same_named ms w (item_names ns z) (bind ns (entry_pairs q x)) s) h.4 in
          let rest = shown_items m b w ms u p ns c key (suc i) (x.key ∷ before) vs is e s d.1 h.5 in
          let here : item z.key z.occurrence ∷ p ≡ q = ap₂ (λ a n. item a n ∷ p) h.0.0 h.0.1 in
          let f = body_of m u w' q 0 c in
          let a = agree_arm q k (places_in q 0 ls) ls f app σ τ g.there h.3 g.agree in
          let region = r.item_region q v i (r.or_comment q f) in
          let arm = places_in q 0 ls ++ comment_places q k in
          let y : Agree (item_place q z ∷ arm) (region ∷ Rattle.gl_meaning.specs.Changes.pieces (r.or_comment q f)) = record { nodes = a.0.nodes; instances = a.0.instances; items = (refl, h.0.2, h.0.3, a.0.items); positions = a.0.positions; modifiers = a.0.modifiers } in
          record {
            agree = subst (λ j. Agree (item_place j z ∷ ((places_in j 0 ls ++ comment_places j k) ++ places_items p is)) (Rattle.gl_meaning.specs.Changes.pieces (piece region (r.render_entries (λ q x. body_of m u (with_locals (bind ns (entry_pairs q x)) w) q 0 c) p (entries key (suc i) (x.key ∷ before) vs))))) (sym here)
                (agree_join (item_place q z ∷ arm) (places_items p is) (region ∷ Rattle.gl_meaning.specs.Changes.pieces (r.or_comment q f)) _ y rest.agree);
            there = ap (λ y. y || r.has_node (r.render_entries (λ q x. body_of m u (with_locals (bind ns (entry_pairs q x)) w) q 0 c) p (entries key (suc i) (x.key ∷ before) vs))) a.1;
            fits = (
              (λ o. later_apart x.key x.occurrence (entries key (suc i) (x.key ∷ before) vs) d.0 (item z.key z.occurrence) (ap₂ item h.0.0 h.0.1) (steps_of m b w ms p ns c (entries key (suc i) (x.key ∷ before) vs) is h.5 (item z.key z.occurrence) o)),
              subst (λ j. FitsIn j 0 ls) (sym here) g.fits,
              rest.fits,
            );
          }
      shown_items m b w ms u p ns c key i before _ _ e s d h = absurd h

    pub root_shown : (m : ℕ) (l : Live) → RootStands app σ τ look m l → Agree (places [] l) (c.pieces (components_at m app σ [] [] nothing_passed)) × FitsRoot l
    root_shown (suc m) (Live.component_live i made gm args None ls) h =
        let g = shown_in m _ no_place (mscope i args [] mnothing) nothing_passed [] 0 (class_at app []).template ls refl tt h.5 in
        let f = body_of m nothing_passed no_place [] 0 (class_at app []).template in (
          agree_component (places_in i.path 0 ls) [] i no_place f h.1 (subst (λ j. Agree (places_in j 0 ls) (Rattle.gl_meaning.specs.Changes.pieces f)) (sym h.1) g.agree),
          (h.1, h.0.0, g.fits),
        )
    root_shown zero (Live.deep_live q) h = (record { nodes = refl; instances = refl; items = tt; positions = λ f. refl; modifiers = λ f. refl }, tt)
    root_shown _ _ h = absurd h
