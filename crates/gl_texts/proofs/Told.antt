-- The lines of a tree's modifiers are those of the rendering, children first.
use Rattle.std.proofs.Common.{◌≡◌, ℕ, zero, suc, List, [], ◌∷◌, ◌++◌, map, Bool, true, false, cond, Option, Some, None, refl, sym, ap, ap₂, ◌∙◌, subst, inl, inr}
use Rattle.std.specs.Prelude.{if◌then◌else◌, filter, filter_map, flat_map, unwrap_or, decimal}
use Rattle.std.proofs.lemmas.List.{append-nil, append_assoc}
use Rattle.gl_base.specs.Texts.{Text}
use Rattle.gl_value.specs.Value.{Values, no_values, value, text_of}
use Rattle.gl_value.specs.Quote.{quoted}
use Rattle.gl_ast.specs.Template as t
use Rattle.gl_meaning.specs.App.{App}
use Rattle.gl_meaning.specs.Path.{at, main, otherwise, items, item, into, slot, empty, modifier_at, Path, V, at_path}
use Rattle.gl_meaning.specs.Scope.{Pair, Scope, scope, Passed, nothing_passed, passed, passed_of, with_locals, bind}
use Rattle.gl_meaning.specs.Eval.{Store, class_at, eval, eval_all, eval_given, takes_first, values_in}
use Rattle.gl_meaning.specs.Known.{Among}
use Rattle.gl_meaning.specs.Parts.{Attrs, Modifier, WrittenModifier, modifier_of, modifiers_of, taken_pairs}
use Rattle.gl_meaning.specs.Changes.{Numbers}
use Rattle.gl_meaning.specs.Print.{line, number_text, last_in, children_first, modifier_values, modifier_lines}
use Rattle.gl_meaning.specs.Render as r
use Rattle.gl_meaning.specs.Render.{Forest, Piece, no_pieces, piece, single, join, forest_of, position, Entry, entries, entry_pairs, values_listed, Block, block_named, Components, render_stmt, render_body, yields_of, components_at, draw}
use Rattle.gl_meaning.proofs.Pieces.{among_left, among_right, filter_map_append}
use Rattle.gl_lines.specs.Lines.{told, told_with, modifier_line}
use Rattle.gl_plain.specs.Ids.{Id, modifier_id}
use Rattle.gl_plain.specs.State.{Inst, MScope, mscope, mnothing, mpassed, passed_in, mslots, mwriter, writer, named_as, with_names, modifier_row, Thing, State}
use Rattle.gl_plain.specs.Live.{AttrSpot, ModSpot, ItemSpot, item_names, Live, Lives, Items}
use Rattle.gl_plain.specs.Live
use Rattle.gl_plain.specs.Stands.{attrs_by, mods_by, tail_of, WhereValues, WhereBlock, ModsStand, Stands, StandIn, ItemsStand, BlockStands, ListStands, ElseStands}
use Rattle.gl_plain.specs.Machine.{no_place, RootStands, StandsFor}
use Rattle.gl_turns.specs.Places.{Place, node_place, position_place, item_place, instance_place, modifier_in, comment_places, attr_places, mod_places, places, places_items, places_in}
use Rattle.gl_turns.proofs.Agrees.{SameScope, slots_in, same_in, same_slots, same_writer, same_named, locals_passed}
use Rattle.gl_turns.proofs.Walked.{flat_join}
use Rattle.gl_texts.specs.Lines.{told_row, told_line}

-- Lists

flat_mapped : {A B C : Type 0} (f : B → List C) (g : A → B) (xs : List A) → flat_map f (map g xs) ≡ flat_map (λ x. f (g x)) xs
flat_mapped f g [] = refl
flat_mapped f g (x ∷ xs) = ap (λ zs. f (g x) ++ zs) (flat_mapped f g xs)

filter_join : {A : Type 0} (f : A → Bool) (xs ys : List A) → filter f (xs ++ ys) ≡ filter f xs ++ filter f ys
filter_join f [] ys = refl
filter_join {A} f (x ∷ xs) ys = by (f x) (filter_join f xs ys) where
  by : (b : Bool) → filter f (xs ++ ys) ≡ filter f xs ++ filter f ys → cond b (x ∷ filter f (xs ++ ys)) (filter f (xs ++ ys)) ≡ cond b (x ∷ filter f xs) (filter f xs) ++ filter f ys
  by true e = ap (λ zs. x ∷ zs) e
  by false e = e

first_join : (f g : Forest) → children_first (join f g) ≡ children_first f ++ children_first g
first_join no_pieces g = refl
first_join (piece p f) g = ap (λ a. last_in p ++ a) (first_join f g) ∙ sym (append_assoc (last_in p) (children_first f) (children_first g))

-- positions have no lines
abbrev IsPosition : Piece → Type 0
IsPosition (position p vs) = Unit {0}
IsPosition _ = ⊥

abbrev ArePositions : List Piece → Type 0
ArePositions [] = Unit {0}
ArePositions (p ∷ ps) = IsPosition p × ArePositions ps

positions_join : (ps qs : List Piece) → ArePositions ps → ArePositions qs → ArePositions (ps ++ qs)
positions_join [] qs h g = g
positions_join (p ∷ ps) qs h g = (h.0, positions_join ps qs h.1 g)

attrs_are : (f : Text → Piece) → ((n : Text) → IsPosition (f n)) → (ns : List Text) → ArePositions (map f ns)
attrs_are f h [] = tt
attrs_are f h (n ∷ ns) = (h n, attrs_are f h ns)

mods_are : (ms : List Modifier) → ArePositions (r.modifier_positions ms)
mods_are [] = tt
mods_are (m ∷ ms) = (tt, mods_are ms)

-- A line's parts

line_is : (word name more : Text) (n : ℕ) → modifier_line word n name more ≡ line (word ++ (35 ∷ (decimal n ++ 32 ∷ (name ++ more))))
unfolding modifier_line told_with told
line_is word name more n =
    let d = decimal n in
    let l : Text = 10 ∷ [] in
    ap (λ z. word ++ 35 ∷ z) (append_assoc d (32 ∷ name) (more ++ l) ∙ (ap (λ z. d ++ 32 ∷ z) (sym (append_assoc name more l)) ∙ sym (append_assoc d (32 ∷ (name ++ more)) l)))
    ∙ sym (append_assoc word (35 ∷ (d ++ 32 ∷ (name ++ more))) l)

-- Of the modifiers with a path that passes the test: the numbers of nodes, and the word that is told.
module _ (app : App) (σ τ : Store) (look : Id → Option Thing) (after : Numbers) (word : Text) (test : Path → Bool) where
  abbrev told_modifier : Path → Modifier → Text
  told_modifier p m = word ++ (number_text p after ++ 32 ∷ (m.name ++ modifier_values m))

  abbrev Lines : Piece → Text
  Lines q = modifier_lines (λ m. test m.path) told_modifier q

  abbrev walk : Forest → Text
  walk f = flat_map Lines (children_first f)

  abbrev Told : List (Path × ℕ) → Text
  Told zs = flat_map (λ z. told_line word look z.1) (filter (λ z. test z.0) zs)

  abbrev Mods : List Place → Text
  Mods xs = Told (filter_map modifier_in xs)

  -- each node has the number of its path
  abbrev Counted : List Place → Type 0
  Counted xs = (p : Path) (n : ℕ) → Among (node_place p n) xs → unwrap_or (at_path p after.of) 0 ≡ n

  left_counted : (xs ys : List Place) → Counted (xs ++ ys) → Counted xs
  left_counted xs ys h p n m = h p n (among_left (node_place p n) xs ys m)

  right_counted : (xs ys : List Place) → Counted (xs ++ ys) → Counted ys
  right_counted xs ys h p n m = h p n (among_right (node_place p n) xs ys m)

  rest_counted : (x : Place) (xs : List Place) → Counted (x ∷ xs) → Counted xs
  rest_counted x xs h p n m = h p n (inr m)

  -- the lines of the modifiers that stand there are those of the forest
  abbrev Walks : List Place → Forest → Type 0
  Walks xs f = Counted xs → Mods xs ≡ walk f

  mods_join : (xs ys : List Place) → Mods (xs ++ ys) ≡ Mods xs ++ Mods ys
  mods_join xs ys =
      ap Told (filter_map_append modifier_in xs ys)
      ∙ (ap (flat_map (λ (z : Path × ℕ). told_line word look z.1)) (filter_join (λ (z : Path × ℕ). test z.0) (filter_map modifier_in xs) (filter_map modifier_in ys))
      ∙ flat_join (λ (z : Path × ℕ). told_line word look z.1) (filter (λ (z : Path × ℕ). test z.0) (filter_map modifier_in xs)) (filter (λ (z : Path × ℕ). test z.0) (filter_map modifier_in ys)))

  walk_join : (f g : Forest) → walk (join f g) ≡ walk f ++ walk g
  walk_join f g = ap (flat_map Lines) (first_join f g) ∙ flat_join Lines (children_first f) (children_first g)

  walks_join : (xs ys : List Place) (f g : Forest) → Walks xs f → Walks ys g → Walks (xs ++ ys) (join f g)
  walks_join xs ys f g h k w = mods_join xs ys ∙ (ap₂ (λ a b. a ++ b) (h (left_counted xs ys w)) (k (right_counted xs ys w)) ∙ sym (walk_join f g))

  walks_none : Walks [] no_pieces
  walks_none w = refl

  walk_single : (q : Piece) → walk (single q) ≡ flat_map Lines (last_in q)
  walk_single q = flat_join Lines (last_in q) [] ∙ append-nil (flat_map Lines (last_in q))

  walks_branch : (q : Path) (xs : List Place) (f : Forest) → Walks xs f → Walks xs (single (r.branch q f))
  walks_branch q xs f h w = h w ∙ sym (walk_single (r.branch q f))

  walk_comment : (q : Path) (f : Forest) → walk (r.or_comment q f) ≡ walk f
  walk_comment q f = walk_join f _ ∙ (ap (λ a. walk f ++ a) (by (r.has_node f)) ∙ append-nil (walk f)) where
    by : (b : Bool) → walk (if b then no_pieces else single (r.comment_node (empty ∷ q) [])) ≡ []
    by true = refl
    by false = refl

  comment_mods : (q : Path) (k : Option ℕ) → Mods (comment_places q k) ≡ []
  comment_mods q None = refl
  comment_mods q (Some n) = refl

  walks_arm : (q : Path) (k : Option ℕ) (xs : List Place) (f : Forest) → Walks xs f → Walks (xs ++ comment_places q k) (r.or_comment q f)
  walks_arm q k xs f h w = mods_join xs (comment_places q k) ∙ (ap (λ a. Mods xs ++ a) (comment_mods q k) ∙ (append-nil (Mods xs) ∙ (h (left_counted xs (comment_places q k) w) ∙ sym (walk_comment q f))))

  walks_region : (q : Path) (k : Option ℕ) (xs : List Place) (f : Forest) → Walks xs f → Walks (xs ++ comment_places q k) (r.region_at q f)
  walks_region q k xs f h = walks_branch q (xs ++ comment_places q k) (r.or_comment q f) (walks_arm q k xs f h)

  -- a position has no line
  walks_position : (p : Path) (n : ℕ) (vs : List Pair) (xs : List Place) (f : Forest) → Walks xs f → Walks (position_place p n ∷ xs) (piece (position p vs) f)
  walks_position p n vs xs f h w = h (rest_counted (position_place p n) xs w)

  -- Elements

  attrs_mods : (p : Path) (xs : List AttrSpot) → Mods (attr_places p xs) ≡ []
  attrs_mods p [] = refl
  attrs_mods p (a ∷ xs) = attrs_mods p xs

  walk_positions : (ps : List Piece) (f : Forest) → ArePositions ps → walk (join (forest_of ps) f) ≡ walk f
  walk_positions [] f h = refl
  walk_positions (position p vs ∷ ps) f h = walk_positions ps f h.1
  walk_positions (_ ∷ ps) f h = absurd h.0

  walk_element : (qs : List Piece) (p : Path) (tag : Text) (attrs : Attrs) (mods : List Modifier) (f : Forest) → ArePositions qs
      → walk (join (forest_of qs) (single (r.element_node p tag attrs mods f))) ≡ walk f ++ flat_map (λ m. line (told_modifier p m)) (filter (λ m. test m.path) mods)
  walk_element qs p tag attrs mods f h =
      let el = r.element_node p tag attrs mods f in
      walk_positions qs (single el) h ∙ (walk_single el ∙ (flat_join Lines (children_first f) (el ∷ []) ∙ ap (λ a. walk f ++ a) (append-nil (Lines el))))

  one_told : (b : Bool) (p : Path) (z : Path × ℕ) (zs : List (Path × ℕ)) (m : Modifier) (ms : List Modifier) → told_line word look z.1 ≡ line (told_modifier p m) → Told zs ≡ flat_map (λ m. line (told_modifier p m)) (filter (λ m. test m.path) ms)
      → flat_map (λ z. told_line word look z.1) (cond b (z ∷ filter (λ z. test z.0) zs) (filter (λ z. test z.0) zs))
      ≡ flat_map (λ m. line (told_modifier p m)) (cond b (m ∷ filter (λ m. test m.path) ms) (filter (λ m. test m.path) ms))
  one_told true p z zs m ms e h = ap₂ (λ a c. a ++ c) e h
  one_told false p z zs m ms e h = h

  mod_told : (p : Path) (n i : ℕ) (m : Modifier) (o : Option Thing) → o ≡ Some (modifier_row (record { on_node = n; place = i; name = m.name; args = values_in m.args; names = map (λ x. (x.0, x.1.value)) m.names }))
      → unwrap_or (at_path p after.of) 0 ≡ n → told_row word o ≡ line (told_modifier p m)
  mod_told p n i m o e k =
      ap (told_row word) e
      ∙ (ap (modifier_line word n m.name)
      (ap₂ (λ a b. a ++ b) (flat_mapped (λ (v : V). 32 ∷ quoted (text_of v)) (λ (x : Pair). x.value) m.args)
      (flat_mapped (λ (y : Text × V). 32 ∷ (y.0 ++ 61 ∷ quoted (text_of y.1))) (λ (x : Text × Pair). (x.0, x.1.value)) m.names))
      ∙ (line_is word m.name (modifier_values m) n ∙ ap (λ j. line (word ++ (35 ∷ (decimal j ++ 32 ∷ (m.name ++ modifier_values m))))) (sym k)))

  mods_walk : (p : Path) (made : List Id) (n : ℕ) (s : Scope) (ms : MScope) (ws : Scope → List (WrittenModifier Scope)) (i : ℕ) (ds : List (WrittenModifier Scope)) (zs : List ModSpot) → ModsStand app σ τ look made n s ms ws i ds zs
      → unwrap_or (at_path p after.of) 0 ≡ n → Mods (mod_places p i zs) ≡ flat_map (λ m. line (told_modifier p m)) (filter (λ m. test m.path) (modifiers_of app σ p i ds))
  mods_walk p made n s ms ws i [] [] h k = refl
  mods_walk p made n s ms ws i (d ∷ ds) (z ∷ zs) h k =
      one_told (test (modifier_at i ∷ p)) p (modifier_at i ∷ p, z.id) (filter_map modifier_in (mod_places p (suc i) zs)) (modifier_of app σ p i d) (modifiers_of app σ p (suc i) ds)
      (mod_told p n i (modifier_of app σ p i d) (look (modifier_id z.id)) h.0 k) (mods_walk p made n s ms (λ s'. tail_of (ws s')) (suc i) ds zs h.4 k)
  mods_walk p made n s ms ws i [] (z ∷ zs) h k = absurd h
  mods_walk p made n s ms ws i (d ∷ ds) [] h k = absurd h

  walks_element : (p : Path) (n : ℕ) (xs : List AttrSpot) (zs : List ModSpot) (ys : List Place) (qs : List Piece) (tag : Text) (attrs : Attrs) (mods : List Modifier) (f : Forest) → ArePositions qs
      → (unwrap_or (at_path p after.of) 0 ≡ n → Mods (mod_places p 0 zs) ≡ flat_map (λ m. line (told_modifier p m)) (filter (λ m. test m.path) mods))
      → Walks ys f → Walks (node_place p n ∷ (attr_places p xs ++ (ys ++ mod_places p 0 zs))) (join (forest_of qs) (single (r.element_node p tag attrs mods f)))
  walks_element p n xs zs ys qs tag attrs mods f positions tells h w =
      mods_join (attr_places p xs) (ys ++ mod_places p 0 zs)
      ∙ (ap (λ a. a ++ Mods (ys ++ mod_places p 0 zs)) (attrs_mods p xs)
      ∙ (mods_join ys (mod_places p 0 zs)
      ∙ (ap₂ (λ a b. a ++ b) (h (left_counted ys (mod_places p 0 zs) (right_counted (attr_places p xs) (ys ++ mod_places p 0 zs) (rest_counted (node_place p n) (attr_places p xs ++ (ys ++ mod_places p 0 zs)) w)))) (tells (w p n (inl refl)))
      ∙ sym (walk_element qs p tag attrs mods f positions))))

  -- Components and items

  walks_instance : (q : Path) (i : Inst) (s : Scope) (xs : List Place) (f : Forest) → Walks xs f → Walks (instance_place q i ∷ xs) (single (r.component q s f))
  walks_instance q i s xs f h w =
      h (rest_counted (instance_place q i) xs w) ∙ sym (walk_single (r.component q s f) ∙ (flat_join Lines (children_first f) (r.component q s f ∷ []) ∙ append-nil (walk f)))

  walks_item : (q : Path) (z : ItemSpot) (v : V) (i : ℕ) (xs ys : List Place) (f g : Forest) → Walks xs f → Walks ys g → Walks (item_place q z ∷ (xs ++ ys)) (piece (r.item_region q v i f) g)
  walks_item q z v i xs ys f g h k w =
      let w' = rest_counted (item_place q z) (xs ++ ys) w in
      mods_join xs ys ∙ (ap₂ (λ a b. a ++ b) (h (left_counted xs ys w')) (k (right_counted xs ys w')) ∙ sym (flat_join Lines (children_first f) (children_first g)))

  -- All statements

  yields_by : (d : Components) (u : Passed) (n : Text) (vs : List Pair) (p : Path)
      → yields_of app σ d u n vs p ≡ r.in_block (block_named n (slots_in u)) (λ b. render_body app σ d (yields_of app σ d (passed_of (writer u))) (with_locals (bind b.params vs) (writer u)) (slot n ∷ p) 0 b.body)
  yields_by d nothing_passed n vs p = refl
  yields_by d (passed ps bs (scope i a l w)) n vs p = refl

  abbrev inner : ℕ → Components
  inner m = components_at m app σ

  abbrev body_of : ℕ → Passed → Scope → Path → ℕ → t.Body → Forest
  body_of m u w p i c = render_body app σ (inner m) (yields_of app σ (inner m) u) w p i c

  if_walks : (p : Path) (unless u : Bool) (v : Pair) (n : ℕ) (F G : Forest) (xs : List Place) → takes_first unless v.value ≡ u → Walks xs (if u then r.region_at (main ∷ p) F else r.region_at (otherwise ∷ p) G)
      → Walks (position_place p n ∷ xs) (r.if_of p unless v F G)
  if_walks p unless u v n F G xs e h = walks_position p n (v ∷ []) xs (if takes_first unless v.value then r.region_at (main ∷ p) F else r.region_at (otherwise ∷ p) G) (subst (λ b. Walks xs (if b then r.region_at (main ∷ p) F else r.region_at (otherwise ∷ p) G)) (sym e) h)

  list_walks : (p : Path) (n : ℕ) (xs : List Place) (v : Pair) (F : Values Path → Forest) (G : Forest) (P : Values Path → Type 0) (us : Values Path) → values_listed v.value ≡ us → WhereValues us P ⊥ → ((us : Values Path) → P us → Walks xs (F us))
      → Walks (position_place p n ∷ xs) (r.each_of p v F G)
  list_walks p n xs v F G P no_values f h g = absurd h
  list_walks p n xs v F G P (value x us) f h g =
      walks_position p n (v ∷ []) xs (r.items_or_else p (values_listed v.value) F G) (subst (λ y. Walks xs (r.items_or_else p y F G)) (sym f) (walks_branch (items ∷ p) xs (F (value x us)) (g (value x us) h)))

  else_walks : (p : Path) (n : ℕ) (xs : List Place) (v : Pair) (F : Values Path → Forest) (G : Forest) (Q : Type 0) (us : Values Path) → values_listed v.value ≡ us → WhereValues us (λ z. ⊥) Q → (Q → Walks xs (r.region_at (otherwise ∷ p) G))
      → Walks (position_place p n ∷ xs) (r.each_of p v F G)
  else_walks p n xs v F G Q (value x us) f h g = absurd h
  else_walks p n xs v F G Q no_values f h g = walks_position p n (v ∷ []) xs (r.items_or_else p (values_listed v.value) F G) (subst (λ y. Walks xs (r.items_or_else p y F G)) (sym f) (g h))

  block_walks : (p : Path) (o : Option Block) (F : Block → Forest) (P : Block → Type 0) (ls : Lives) → ((c : Block) → P c → Walks (places_in p 0 ls) (F c)) → WhereBlock o P (ls ≡ Live.no_lives) → Walks (places_in p 0 ls) (r.in_block o F)
  block_walks p None F P ls g h = subst (λ y. Walks (places_in p 0 y) no_pieces) (sym h) walks_none
  block_walks p (Some c) F P ls g h = g c h

  mutual
    walked : (m b : ℕ) (w : Scope) (ms : MScope) (u : Passed) (p : Path) (x : t.Stmt) (l : Live) → passed_of w ≡ u → SameScope ms w → Stands app σ τ look m b w ms p x l
        → Walks (places p l) (render_stmt app σ (inner m) (yields_of app σ (inner m) u) w p x)
    walked m b w ms u p (t.text_stmt z) (Live.still n) e s h = λ k. refl
    walked m b w ms u p (t.comment_stmt z) (Live.still n) e s h = λ k. refl
    walked m b w ms u p (t.put z) (Live.put_live n k) e s h = λ k. refl
    walked m b w ms u p (t.element tag ps d) (Live.element_live n made xs zs ls) e s h =
        let vs = attrs_by ps w in
        let mods = modifiers_of app σ p 0 (mods_by ps w) in
        let f = body_of m u w p 0 d in
        walks_element p n xs zs (places_in p 0 ls) (r.attr_positions p vs (taken_pairs app σ vs) ++ r.modifier_positions mods) tag _ mods f
        (positions_join (r.attr_positions p vs (taken_pairs app σ vs)) (r.modifier_positions mods) (attrs_are _ (λ n. tt) _) (mods_are mods))
        (mods_walk p made n w ms (mods_by ps) 0 (mods_by ps w) zs h.2) (walked_in m b w ms u p 0 d ls e s h.3)
    walked m b w ms u p (t.if_stmt z unless c d) (Live.branch_live k true y ls) e s h =
        if_walks p unless true (eval app σ w z) k.ref (body_of m u w (main ∷ p) 0 c) (body_of m u w (otherwise ∷ p) 0 d) (places_in (main ∷ p) 0 ls ++ comment_places (main ∷ p) y) h.1
        (walks_region (main ∷ p) y (places_in (main ∷ p) 0 ls) (body_of m u w (main ∷ p) 0 c) (walked_in m b w ms u (main ∷ p) 0 c ls e s h.3))
    walked m b w ms u p (t.if_stmt z unless c d) (Live.branch_live k false y ls) e s h =
        if_walks p unless false (eval app σ w z) k.ref (body_of m u w (main ∷ p) 0 c) (body_of m u w (otherwise ∷ p) 0 d) (places_in (otherwise ∷ p) 0 ls ++ comment_places (otherwise ∷ p) y) h.1
        (walks_region (otherwise ∷ p) y (places_in (otherwise ∷ p) 0 ls) (body_of m u w (otherwise ∷ p) 0 d) (walked_in m b w ms u (otherwise ∷ p) 0 d ls e s h.3))
    walked m b w ms u p (t.each z key ns c d) (Live.listed k is) e s h =
        list_walks p k.ref (places_items (items ∷ p) is) (eval app σ w z) (λ us. r.render_entries (λ q x. body_of m u (with_locals (bind ns (entry_pairs q x)) w) q 0 c) (items ∷ p) (entries key 0 [] us)) (body_of m u w (otherwise ∷ p) 0 d)
        (ListStands app σ τ look m b w ms p key ns c is) (values_listed (eval app σ w z).value) refl h.1 (λ us hi. walked_items m b w ms u (items ∷ p) ns c (entries key 0 [] us) is e s hi)
    walked m b w ms u p (t.each z key ns c d) (Live.unlisted k y ls) e s h =
        else_walks p k.ref (places_in (otherwise ∷ p) 0 ls ++ comment_places (otherwise ∷ p) y) (eval app σ w z) (λ us. r.render_entries (λ q x. body_of m u (with_locals (bind ns (entry_pairs q x)) w) q 0 c) (items ∷ p) (entries key 0 [] us))
        (body_of m u w (otherwise ∷ p) 0 d) (ElseStands app σ τ look m b w ms p d y ls) (values_listed (eval app σ w z).value) refl h.1
        (λ hi. walks_region (otherwise ∷ p) y (places_in (otherwise ∷ p) 0 ls) (body_of m u w (otherwise ∷ p) 0 d) (walked_in m b w ms u (otherwise ∷ p) 0 d ls e s hi.1))
    walked m b w ms u p (t.let_stmt es ns c) (Live.let_live made rs ls) e s h =
        walked_in m _ (with_locals (bind ns (eval_all app σ w es)) w) (with_names (named_as ns rs) ms) u (main ∷ p) 0 c ls (locals_passed (bind ns (eval_all app σ w es)) w ∙ e) (same_named ms w (named_as ns rs) (bind ns (eval_all app σ w es)) s) h.3
    walked (suc m) b w ms u p (t.component_stmt c ps given bs) (Live.component_live i made gm args (Some k) ls) e s h =
        let q = into c ∷ p in
        let v = scope q (eval_given app σ w given) [] (passed ps bs w) in
        let f = body_of m (passed ps bs w) v q 0 (class_at app q).template in
        let g = walked_in m _ v (mscope i args [] (mpassed k ps bs ms)) (passed ps bs w) q 0 (class_at app q).template ls refl (refl, s) h.7 in
        subst (λ j. Walks (instance_place j i ∷ places_in j 0 ls) (single (r.component q v f))) (sym h.2) (walks_instance q i v (places_in q 0 ls) f g)
    walked zero b w ms u p (t.component_stmt c ps given bs) (Live.deep_live q) e s h = λ k. refl
    walked m b w ms u p (t.yield es n) (Live.yield_live k made rs ls) e s h =
        let v = passed_of w in
        let sp = same_in ms w s in
        let F : Block → Forest = λ c. body_of m (passed_of (writer v)) (with_locals (bind c.params (eval_all app σ w es)) (writer v)) (slot n ∷ p) 0 c.body in
        let g = block_walks (slot n ∷ p) (block_named n (mslots (passed_in ms))) F (BlockStands app σ τ look m b w ms p es n made rs ls) ls
        (λ c hi. walked_in m _ (with_locals (bind c.params (eval_all app σ w es)) (writer v)) (with_names (named_as c.params rs) (mwriter (passed_in ms))) (passed_of (writer v)) (slot n ∷ p) 0 c.body ls
        (locals_passed (bind c.params (eval_all app σ w es)) (writer v)) (same_named (mwriter (passed_in ms)) (writer v) (named_as c.params rs) (bind c.params (eval_all app σ w es)) (same_writer (passed_in ms) v sp)) hi.3) h.1 in
        let g1 : Walks (places_in (slot n ∷ p) 0 ls) (yields_of app σ (inner m) u n (eval_all app σ w es) p) =
        subst (λ y. Walks (places_in (slot n ∷ p) 0 ls) (yields_of app σ (inner m) y n (eval_all app σ w es) p)) e
        (subst (Walks (places_in (slot n ∷ p) 0 ls)) (sym (yields_by (inner m) v n (eval_all app σ w es) p)) (subst (λ y. Walks (places_in (slot n ∷ p) 0 ls) (r.in_block (block_named n y) F)) (sym (same_slots (passed_in ms) v sp)) g)) in
        subst (λ j. Walks (places_in (slot j ∷ p) 0 ls) (yields_of app σ (inner m) u n (eval_all app σ w es) p)) (sym h.0) g1
    walked m b w ms u p _ _ e s h = absurd h

    walked_in : (m b : ℕ) (w : Scope) (ms : MScope) (u : Passed) (p : Path) (i : ℕ) (c : t.Body) (ls : Lives) → passed_of w ≡ u → SameScope ms w → StandIn app σ τ look m b w ms p i c ls → Walks (places_in p i ls) (body_of m u w p i c)
    walked_in m b w ms u p i t.end Live.no_lives e s h = walks_none
    walked_in m b w ms u p i (t.stmt x d) (Live.live_and l ls) e s h =
        walks_join (places (at i ∷ p) l) (places_in p (suc i) ls) (render_stmt app σ (inner m) (yields_of app σ (inner m) u) w (at i ∷ p) x) (body_of m u w p (suc i) d)
        (walked m b w ms u (at i ∷ p) x l e s h.0) (walked_in m b w ms u p (suc i) d ls e s h.1)
    walked_in m b w ms u p i _ _ e s h = absurd h

    walked_items : (m b : ℕ) (w : Scope) (ms : MScope) (u : Passed) (p : Path) (ns : List Text) (c : t.Body) (xs : List Entry) (is : Items) → passed_of w ≡ u → SameScope ms w → ItemsStand app σ τ look m b w ms p ns c xs is
        → Walks (places_items p is) (r.render_entries (λ q x. body_of m u (with_locals (bind ns (entry_pairs q x)) w) q 0 c) p xs)
    walked_items m b w ms u p ns c [] Live.no_items e s h = walks_none
    walked_items m b w ms u p ns c (x ∷ xs) (Live.item_live z k ls is) e s h =
        let q = item x.key x.occurrence ∷ p in
        let here : item z.key z.occurrence ∷ p ≡ q = ap₂ (λ y n. item y n ∷ p) h.0.0 h.0.1 in
        let w' = with_locals (bind ns (entry_pairs q x)) w in
        let f = body_of m u w' q 0 c in
        let rest = r.render_entries (λ q x. body_of m u (with_locals (bind ns (entry_pairs q x)) w) q 0 c) p xs in
        let g = walked_in m _ w' (with_names (item_names ns z) ms) u q 0 c ls (locals_passed (bind ns (entry_pairs q x)) w ∙ e) (same_named ms w (item_names ns z) (bind ns (entry_pairs q x)) s) h.4 in
        subst (λ j. Walks (item_place j z ∷ ((places_in j 0 ls ++ comment_places j k) ++ places_items p is)) (piece (r.item_region q x.value x.index (r.or_comment q f)) rest)) (sym here)
        (walks_item q z x.value x.index (places_in q 0 ls ++ comment_places q k) (places_items p is) (r.or_comment q f) rest (walks_arm q k (places_in q 0 ls) f g) (walked_items m b w ms u p ns c xs is e s h.5))
    walked_items m b w ms u p ns c _ _ e s h = absurd h

  pub root_told : (m : ℕ) (l : Live) → RootStands app σ τ look m l → Walks (places [] l) (components_at m app σ [] [] nothing_passed)
  root_told (suc m) (Live.component_live i made gm args None ls) h =
      let f = body_of m nothing_passed no_place [] 0 (class_at app []).template in
      let g = walked_in m _ no_place (mscope i args [] mnothing) nothing_passed [] 0 (class_at app []).template ls refl tt h.5 in
      subst (λ j. Walks (instance_place j i ∷ places_in j 0 ls) (single (r.component [] no_place f))) (sym h.1) (walks_instance [] i no_place (places_in [] 0 ls) f g)
  root_told zero (Live.deep_live q) h = λ k. refl
  root_told _ _ h = absurd h

pub mods_told : (app : App) (σ τ : Store) (st : State) (l : Live) (after : Numbers) (word : Text) (test : Path → Bool) → StandsFor app σ τ st l
    → ((p : Path) (n : ℕ) → Among (node_place p n) (places [] l) → unwrap_or (at_path p after.of) 0 ≡ n)
    → flat_map (told_line word st.look) (map (λ z. z.1) (filter (λ z. test z.0) (filter_map modifier_in (places [] l))))
    ≡ flat_map (λ q. modifier_lines (λ m. test m.path) (λ p m. word ++ (number_text p after ++ 32 ∷ (m.name ++ modifier_values m))) q) (children_first (draw app σ))
mods_told app σ τ st l after word test h w =
    flat_mapped (told_line word st.look) (λ (z : Path × ℕ). z.1) (filter (λ z. test z.0) (filter_map modifier_in (places [] l)))
    ∙ root_told app σ τ st.look after word test app.limit l h.stands w
