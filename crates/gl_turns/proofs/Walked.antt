-- The walk of a tree that stands, children first, is that of the rendering.
use Rattle.std.proofs.Common.{◌≡◌, ℕ, zero, suc, List, [], ◌∷◌, ◌++◌, map, Bool, true, false, Option, Some, None, refl, sym, ap, ap₂, ◌∙◌, subst}
use Rattle.std.specs.Prelude.{if◌then◌else◌, flat_map}
use Rattle.std.proofs.lemmas.List.{append-nil, append_assoc}
use Rattle.gl_base.specs.Texts.{Text}
use Rattle.gl_value.specs.Value.{Values, no_values, value}
use Rattle.gl_ast.specs.Template as t
use Rattle.gl_meaning.specs.App.{App}
use Rattle.gl_meaning.specs.Path.{at, main, otherwise, items, item, into, slot, empty, modifier_at, Path}
use Rattle.gl_meaning.specs.Scope.{Pair, Scope, scope, Passed, nothing_passed, passed, passed_of, with_locals, bind}
use Rattle.gl_meaning.specs.Eval.{Store, class_at, eval, eval_all, eval_given, takes_first}
use Rattle.gl_meaning.specs.Parts.{Attrs, Modifier, WrittenModifier, modifiers_of, taken_pairs}
use Rattle.gl_meaning.specs.Print.{last_in, children_first}
use Rattle.gl_meaning.specs.Render as r
use Rattle.gl_meaning.specs.Render.{Forest, Piece, no_pieces, piece, single, join, forest_of, position, Entry, entries, entry_pairs, values_listed, Block, block_named, Components, render_stmt, render_body, yields_of, components_at, draw}
use Rattle.gl_plain.specs.Ids.{Id}
use Rattle.gl_plain.specs.State.{MScope, mscope, mnothing, mpassed, passed_in, mslots, mwriter, writer, named_as, with_names, Thing, State}
use Rattle.gl_plain.specs.Live.{ModSpot, item_names, Live, Lives, Items}
use Rattle.gl_plain.specs.Live
use Rattle.gl_plain.specs.Stands.{attrs_by, mods_by, tail_of, WhereValues, WhereBlock, ModsStand, Stands, StandIn, ItemsStand, BlockStands, ListStands, ElseStands}
use Rattle.gl_plain.specs.Machine.{no_place, RootStands, StandsFor}
use Rattle.gl_turns.specs.Places.{Place, instance_place}
use Rattle.gl_turns.specs.Leaving.{Leaver, modifier_leaves, instance_leaves, leavers, leaver_of, mods_leaving, leaving, leaving_items, leaving_in}
use Rattle.gl_turns.proofs.Agrees.{SameScope, slots_in, same_in, same_slots, same_writer, same_named, locals_passed}

pub flat_join : {A B : Type 0} (f : A → List B) (xs ys : List A) → flat_map f (xs ++ ys) ≡ flat_map f xs ++ flat_map f ys
flat_join f [] ys = refl
flat_join f (x ∷ xs) ys = ap (λ zs. f x ++ zs) (flat_join f xs ys) ∙ sym (append_assoc (f x) (flat_map f xs) (flat_map f ys))

abbrev pub walk : Forest → List Leaver
walk f = flat_map leavers (children_first f)

first_join : (f g : Forest) → children_first (join f g) ≡ children_first f ++ children_first g
first_join no_pieces g = refl
first_join (piece p f) g = ap (λ a. last_in p ++ a) (first_join f g) ∙ sym (append_assoc (last_in p) (children_first f) (children_first g))

walk_join : (f g : Forest) → walk (join f g) ≡ walk f ++ walk g
walk_join f g = ap (flat_map leavers) (first_join f g) ∙ flat_join leavers (children_first f) (children_first g)

walk_comment : (p : Path) (f : Forest) → walk (r.or_comment p f) ≡ walk f
walk_comment p f = walk_join f _ ∙ (ap (λ a. walk f ++ a) (by (r.has_node f)) ∙ append-nil (walk f)) where
  by : (b : Bool) → walk (if b then no_pieces else single (r.comment_node (empty ∷ p) [])) ≡ []
  by true = refl
  by false = refl

walk_branch : (p : Path) (f : Forest) → walk (single (r.branch p f)) ≡ walk f
walk_branch p f = flat_join leavers (children_first f) [] ∙ append-nil (walk f)

walk_item : (p : Path) (v : Rattle.gl_meaning.specs.Path.V) (i : ℕ) (f g : Forest) → walk (piece (r.item_region p v i f) g) ≡ walk f ++ walk g
walk_item p v i f g = flat_join leavers (children_first f) (children_first g)

walk_component : (p : Path) (s : Scope) (f : Forest) → walk (single (r.component p s f)) ≡ walk f ++ instance_leaves p ∷ []
walk_component p s f = flat_join leavers (children_first f ++ r.component p s f ∷ []) [] ∙ (append-nil (flat_map leavers (children_first f ++ r.component p s f ∷ [])) ∙ flat_join leavers (children_first f) (r.component p s f ∷ []))

-- positions don't leave
abbrev IsPosition : Piece → Type 0
IsPosition (position p vs) = Unit {0}
IsPosition _ = ⊥

abbrev ArePositions : List Piece → Type 0
ArePositions [] = Unit {0}
ArePositions (p ∷ ps) = IsPosition p × ArePositions ps

walk_positions : (ps : List Piece) (f : Forest) → ArePositions ps → walk (join (forest_of ps) f) ≡ walk f
walk_positions [] f h = refl
walk_positions (position p vs ∷ ps) f h = walk_positions ps f h.1
walk_positions (_ ∷ ps) f h = absurd h.0

positions_join : (ps qs : List Piece) → ArePositions ps → ArePositions qs → ArePositions (ps ++ qs)
positions_join [] qs h g = g
positions_join (p ∷ ps) qs h g = (h.0, positions_join ps qs h.1 g)

attrs_are : (f : Text → Piece) → ((n : Text) → IsPosition (f n)) → (ns : List Text) → ArePositions (map f ns)
attrs_are f h [] = tt
attrs_are f h (n ∷ ns) = (h n, attrs_are f h ns)

mods_are : (ms : List Modifier) → ArePositions (r.modifier_positions ms)
mods_are [] = tt
mods_are (m ∷ ms) = (tt, mods_are ms)

walk_element : (qs : List Piece) (p : Path) (tag : Text) (attrs : Attrs) (mods : List Modifier) (f : Forest) → ArePositions qs → walk (join (forest_of qs) (single (r.element_node p tag attrs mods f))) ≡ walk f ++ map (λ m. modifier_leaves m.path) mods
walk_element qs p tag attrs mods f h =
    let el = r.element_node p tag attrs mods f in
    walk_positions qs (single el) h
    ∙ (flat_join leavers (children_first f ++ el ∷ []) []
    ∙ (append-nil (flat_map leavers (children_first f ++ el ∷ [])) ∙ (flat_join leavers (children_first f) (el ∷ []) ∙ ap (λ a. walk f ++ a) (append-nil (map (λ m. modifier_leaves m.path) mods)))))

abbrev left_by : List Place → List Leaver
left_by xs = flat_map leaver_of xs

left_join : (xs ys : List Place) (us vs : List Leaver) → left_by xs ≡ us → left_by ys ≡ vs → left_by (xs ++ ys) ≡ us ++ vs
left_join xs ys us vs e f = flat_join leaver_of xs ys ∙ ap₂ (λ a b. a ++ b) e f

module _ (app : App) (σ τ : Store) (look : Id → Option Thing) where
  mods_walk : (p : Path) (made : List Id) (n : ℕ) (s : Scope) (ms : MScope) (ws : Scope → List (WrittenModifier Scope)) (i : ℕ) (ds : List (WrittenModifier Scope)) (zs : List ModSpot) → ModsStand app σ τ look made n s ms ws i ds zs
      → left_by (mods_leaving p i zs) ≡ map (λ m. modifier_leaves m.path) (modifiers_of app σ p i ds)
  mods_walk p made n s ms ws i [] [] h = refl
  mods_walk p made n s ms ws i (d ∷ ds) (z ∷ zs) h = ap (λ a. modifier_leaves (modifier_at i ∷ p) ∷ a) (mods_walk p made n s ms (λ s'. tail_of (ws s')) (suc i) ds zs h.4)
  mods_walk p made n s ms ws i [] (z ∷ zs) h = absurd h
  mods_walk p made n s ms ws i (d ∷ ds) [] h = absurd h

  yields_by : (d : Components) (u : Passed) (n : Text) (vs : List Pair) (p : Path)
      → yields_of app σ d u n vs p ≡ r.in_block (block_named n (slots_in u)) (λ b. render_body app σ d (yields_of app σ d (passed_of (writer u))) (with_locals (bind b.params vs) (writer u)) (slot n ∷ p) 0 b.body)
  yields_by d nothing_passed n vs p = refl
  yields_by d (passed ps bs (scope i a l w)) n vs p = refl

  abbrev inner : ℕ → Components
  inner m = components_at m app σ

  abbrev body_of : ℕ → Passed → Scope → Path → ℕ → t.Body → Forest
  body_of m u w p i c = render_body app σ (inner m) (yields_of app σ (inner m) u) w p i c

  abbrev Walks : List Place → Forest → Type 0
  Walks xs f = left_by xs ≡ walk f

  if_walks : (p : Path) (unless u : Bool) (v : Pair) (F G : Forest) (xs : List Place) → takes_first unless v.value ≡ u → Walks xs (if u then r.region_at (main ∷ p) F else r.region_at (otherwise ∷ p) G) → Walks xs (r.if_of p unless v F G)
  if_walks p unless u v F G xs e h = subst (λ b. Walks xs (if b then r.region_at (main ∷ p) F else r.region_at (otherwise ∷ p) G)) (sym e) h

  region_walks : (p : Path) (f : Forest) (xs : List Place) → Walks xs f → Walks xs (r.region_at p f)
  region_walks p f xs h = h ∙ sym (walk_branch p (r.or_comment p f) ∙ walk_comment p f)

  list_walks : (p : Path) (xs : List Place) (v : Pair) (F : Values Path → Forest) (G : Forest) (P : Values Path → Type 0) (us : Values Path) → values_listed v.value ≡ us → WhereValues us P ⊥ → ((us : Values Path) → P us → Walks xs (F us))
      → Walks xs (r.each_of p v F G)
  list_walks p xs v F G P no_values f h g = absurd h
  list_walks p xs v F G P (value x us) f h g = subst (λ y. Walks xs (piece (position p (v ∷ [])) (r.items_or_else p y F G))) (sym f) (g (value x us) h ∙ sym (walk_branch (items ∷ p) (F (value x us))))

  else_walks : (p : Path) (xs : List Place) (v : Pair) (F : Values Path → Forest) (G : Forest) (Q : Type 0) (us : Values Path) → values_listed v.value ≡ us → WhereValues us (λ z. ⊥) Q → (Q → Walks xs G) → Walks xs (r.each_of p v F G)
  else_walks p xs v F G Q (value x us) f h g = absurd h
  else_walks p xs v F G Q no_values f h g = subst (λ y. Walks xs (piece (position p (v ∷ [])) (r.items_or_else p y F G))) (sym f) (region_walks (otherwise ∷ p) G xs (g h))

  block_walks : (p : Path) (o : Option Block) (F : Block → Forest) (P : Block → Type 0) (ls : Lives) → ((c : Block) → P c → Walks (leaving_in p 0 ls) (F c)) → WhereBlock o P (ls ≡ Live.no_lives) → Walks (leaving_in p 0 ls) (r.in_block o F)
  block_walks p None F P ls g h = subst (λ y. Walks (leaving_in p 0 y) no_pieces) (sym h) refl
  block_walks p (Some c) F P ls g h = g c h

  mutual
    walked : (m b : ℕ) (w : Scope) (ms : MScope) (u : Passed) (p : Path) (x : t.Stmt) (l : Live) → passed_of w ≡ u → SameScope ms w → Stands app σ τ look m b w ms p x l
        → Walks (leaving p l) (render_stmt app σ (inner m) (yields_of app σ (inner m) u) w p x)
    walked m b w ms u p (t.text_stmt z) (Live.still n) e s h = refl
    walked m b w ms u p (t.comment_stmt z) (Live.still n) e s h = refl
    walked m b w ms u p (t.put z) (Live.put_live n k) e s h = refl
    walked m b w ms u p (t.element tag ps d) (Live.element_live n made xs zs ls) e s h =
        let vs = attrs_by ps w in
        let mods = modifiers_of app σ p 0 (mods_by ps w) in
        let f = body_of m u w p 0 d in
        left_join (leaving_in p 0 ls) (mods_leaving p 0 zs) (walk f) (map (λ m. modifier_leaves m.path) mods) (walked_in m b w ms u p 0 d ls e s h.3) (mods_walk p made n w ms (mods_by ps) 0 (mods_by ps w) zs h.2)
        ∙ sym (walk_element (r.attr_positions p vs (taken_pairs app σ vs) ++ r.modifier_positions mods) p tag _ mods f
        (positions_join (r.attr_positions p vs (taken_pairs app σ vs)) (r.modifier_positions mods) (attrs_are _ (λ n. tt) _) (mods_are mods)))
    walked m b w ms u p (t.if_stmt z unless c d) (Live.branch_live k true y ls) e s h =
        if_walks p unless true (eval app σ w z) (body_of m u w (main ∷ p) 0 c) (body_of m u w (otherwise ∷ p) 0 d) (leaving_in (main ∷ p) 0 ls) h.1 (region_walks (main ∷ p) (body_of m u w (main ∷ p) 0 c) (leaving_in (main ∷ p) 0 ls) (walked_in m b w ms u (main ∷ p) 0 c ls e s h.3))
    walked m b w ms u p (t.if_stmt z unless c d) (Live.branch_live k false y ls) e s h =
        if_walks p unless false (eval app σ w z) (body_of m u w (main ∷ p) 0 c) (body_of m u w (otherwise ∷ p) 0 d) (leaving_in (otherwise ∷ p) 0 ls) h.1
        (region_walks (otherwise ∷ p) (body_of m u w (otherwise ∷ p) 0 d) (leaving_in (otherwise ∷ p) 0 ls) (walked_in m b w ms u (otherwise ∷ p) 0 d ls e s h.3))
    walked m b w ms u p (t.each z key ns c d) (Live.listed k is) e s h =
        list_walks p (leaving_items (items ∷ p) is) (eval app σ w z) (λ us. r.render_entries (λ q x. body_of m u (with_locals (bind ns (entry_pairs q x)) w) q 0 c) (items ∷ p) (entries key 0 [] us)) (body_of m u w (otherwise ∷ p) 0 d)
        (ListStands app σ τ look m b w ms p key ns c is) (values_listed (eval app σ w z).value) refl h.1 (λ us hi. walked_items m b w ms u (items ∷ p) ns c (entries key 0 [] us) is e s hi)
    walked m b w ms u p (t.each z key ns c d) (Live.unlisted k y ls) e s h =
        else_walks p (leaving_in (otherwise ∷ p) 0 ls) (eval app σ w z) (λ us. r.render_entries (λ q x. body_of m u (with_locals (bind ns (entry_pairs q x)) w) q 0 c) (items ∷ p) (entries key 0 [] us)) (body_of m u w (otherwise ∷ p) 0 d)
        (ElseStands app σ τ look m b w ms p d y ls) (values_listed (eval app σ w z).value) refl h.1 (λ hi. walked_in m b w ms u (otherwise ∷ p) 0 d ls e s hi.1)
    walked m b w ms u p (t.let_stmt es ns c) (Live.let_live made rs ls) e s h =
        walked_in m _ (with_locals (bind ns (eval_all app σ w es)) w) (with_names (named_as ns rs) ms) u (main ∷ p) 0 c ls (locals_passed (bind ns (eval_all app σ w es)) w ∙ e) (same_named ms w (named_as ns rs) (bind ns (eval_all app σ w es)) s) h.3
    walked (suc m) b w ms u p (t.component_stmt c ps given bs) (Live.component_live i made gm args (Some k) ls) e s h =
        let q = into c ∷ p in
        let v = scope q (eval_given app σ w given) [] (passed ps bs w) in
        let f = body_of m (passed ps bs w) v q 0 (class_at app q).template in
        let g = walked_in m _ v (mscope i args [] (mpassed k ps bs ms)) (passed ps bs w) q 0 (class_at app q).template ls refl (refl, s) h.7 in
        left_join (leaving_in i.path 0 ls) (instance_place i.path i ∷ []) (walk f) (instance_leaves q ∷ []) (subst (λ j. Walks (leaving_in j 0 ls) f) (sym h.2) g) (ap (λ j. instance_leaves j ∷ []) h.2) ∙ sym (walk_component q v f)
    walked zero b w ms u p (t.component_stmt c ps given bs) (Live.deep_live q) e s h = refl
    walked m b w ms u p (t.yield es n) (Live.yield_live k made rs ls) e s h =
        let v = passed_of w in
        let sp = same_in ms w s in
        let F : Block → Forest = λ c. body_of m (passed_of (writer v)) (with_locals (bind c.params (eval_all app σ w es)) (writer v)) (slot n ∷ p) 0 c.body in
        let g = block_walks (slot n ∷ p) (block_named n (mslots (passed_in ms))) F (BlockStands app σ τ look m b w ms p es n made rs ls) ls
        (λ c hi. walked_in m _ (with_locals (bind c.params (eval_all app σ w es)) (writer v)) (with_names (named_as c.params rs) (mwriter (passed_in ms))) (passed_of (writer v)) (slot n ∷ p) 0 c.body ls
        (locals_passed (bind c.params (eval_all app σ w es)) (writer v)) (same_named (mwriter (passed_in ms)) (writer v) (named_as c.params rs) (bind c.params (eval_all app σ w es)) (same_writer (passed_in ms) v sp)) hi.3) h.1 in
        let g1 : Walks (leaving_in (slot n ∷ p) 0 ls) (yields_of app σ (inner m) u n (eval_all app σ w es) p) =
        subst (λ y. Walks (leaving_in (slot n ∷ p) 0 ls) (yields_of app σ (inner m) y n (eval_all app σ w es) p)) e
        (subst (Walks (leaving_in (slot n ∷ p) 0 ls)) (sym (yields_by (inner m) v n (eval_all app σ w es) p)) (subst (λ y. Walks (leaving_in (slot n ∷ p) 0 ls) (r.in_block (block_named n y) F)) (sym (same_slots (passed_in ms) v sp)) g)) in
        subst (λ j. Walks (leaving_in (slot j ∷ p) 0 ls) (yields_of app σ (inner m) u n (eval_all app σ w es) p)) (sym h.0) g1
    walked m b w ms u p _ _ e s h = absurd h

    walked_in : (m b : ℕ) (w : Scope) (ms : MScope) (u : Passed) (p : Path) (i : ℕ) (c : t.Body) (ls : Lives) → passed_of w ≡ u → SameScope ms w → StandIn app σ τ look m b w ms p i c ls → Walks (leaving_in p i ls) (body_of m u w p i c)
    walked_in m b w ms u p i t.end Live.no_lives e s h = refl
    walked_in m b w ms u p i (t.stmt x d) (Live.live_and l ls) e s h =
        let f = render_stmt app σ (inner m) (yields_of app σ (inner m) u) w (at i ∷ p) x in
        let g = body_of m u w p (suc i) d in
        left_join (leaving (at i ∷ p) l) (leaving_in p (suc i) ls) (walk f) (walk g) (walked m b w ms u (at i ∷ p) x l e s h.0) (walked_in m b w ms u p (suc i) d ls e s h.1) ∙ sym (walk_join f g)
    walked_in m b w ms u p i _ _ e s h = absurd h

    walked_items : (m b : ℕ) (w : Scope) (ms : MScope) (u : Passed) (p : Path) (ns : List Text) (c : t.Body) (xs : List Entry) (is : Items) → passed_of w ≡ u → SameScope ms w → ItemsStand app σ τ look m b w ms p ns c xs is
        → Walks (leaving_items p is) (r.render_entries (λ q x. body_of m u (with_locals (bind ns (entry_pairs q x)) w) q 0 c) p xs)
    walked_items m b w ms u p ns c [] Live.no_items e s h = refl
    walked_items m b w ms u p ns c (x ∷ xs) (Live.item_live z k ls is) e s h =
        let q = item x.key x.occurrence ∷ p in
        let here : item z.key z.occurrence ∷ p ≡ q = ap₂ (λ y n. item y n ∷ p) h.0.0 h.0.1 in
        let w' = with_locals (bind ns (entry_pairs q x)) w in
        let f = body_of m u w' q 0 c in
        let rest = r.render_entries (λ q x. body_of m u (with_locals (bind ns (entry_pairs q x)) w) q 0 c) p xs in
        let g = walked_in m _ w' (with_names (item_names ns z) ms) u q 0 c ls (locals_passed (bind ns (entry_pairs q x)) w ∙ e) (same_named ms w (item_names ns z) (bind ns (entry_pairs q x)) s) h.4 in
        left_join (leaving_in (item z.key z.occurrence ∷ p) 0 ls) (leaving_items p is) (walk f) (walk rest) (subst (λ j. Walks (leaving_in j 0 ls) f) (sym here) g) (walked_items m b w ms u p ns c xs is e s h.5)
        ∙ sym (walk_item q x.value x.index (r.or_comment q f) rest ∙ ap (λ a. a ++ walk rest) (walk_comment q f))
    walked_items m b w ms u p ns c _ _ e s h = absurd h

  root_walked : (m : ℕ) (l : Live) → RootStands app σ τ look m l → Walks (leaving [] l) (components_at m app σ [] [] nothing_passed)
  root_walked (suc m) (Live.component_live i made gm args None ls) h =
      let f = body_of m nothing_passed no_place [] 0 (class_at app []).template in
      let g = walked_in m _ no_place (mscope i args [] mnothing) nothing_passed [] 0 (class_at app []).template ls refl tt h.5 in
      left_join (leaving_in i.path 0 ls) (instance_place i.path i ∷ []) (walk f) (instance_leaves [] ∷ []) (subst (λ j. Walks (leaving_in j 0 ls) f) (sym h.1) g) (ap (λ j. instance_leaves j ∷ []) h.1) ∙ sym (walk_component [] no_place f)
  root_walked zero (Live.deep_live q) h = refl
  root_walked _ _ h = absurd h

pub tree_walked : (app : App) (σ τ : Store) (st : State) (l : Live) → StandsFor app σ τ st l → flat_map leaver_of (leaving [] l) ≡ walk (draw app σ)
tree_walked app σ τ st l h = root_walked app σ τ st.look app.limit l h.stands
