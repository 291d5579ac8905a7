-- The lists of a tree that stands are those of the rendering.
use Rattle.std.proofs.Common.{◌≡◌, ℕ, zero, suc, List, [], ◌∷◌, ◌++◌, map, Bool, true, false, Option, Some, None, refl, sym, ap, ap₂, ◌∙◌, subst}
use Rattle.std.specs.Prelude.{filter, filter_map, if◌then◌else◌}
use Rattle.std.proofs.lemmas.List.{append-nil}
use Rattle.gl_base.specs.Texts.{Text}
use Rattle.gl_value.specs.Value.{Values, no_values, value}
use Rattle.gl_ast.specs.Template as t
use Rattle.gl_ast.specs.ExprCode.{owned}
use Rattle.gl_meaning.specs.App.{App}
use Rattle.gl_meaning.specs.Path.{at, main, otherwise, items, item, into, slot, attribute_at, empty, Path}
use Rattle.gl_meaning.specs.Scope.{Pair, Scope, scope, Passed, nothing_passed, passed, passed_of, with_locals, bind}
use Rattle.gl_meaning.specs.Eval.{Store, class_at, eval, eval_all, eval_given, takes_first}
use Rattle.gl_meaning.specs.Parts.{Modifier, WrittenValue, modifiers_of, taken_pairs, attrs_from, distinct_names, taken_values, some_live}
use Rattle.gl_meaning.specs.Render.{Forest, Piece, element_node, comment_node, branch, position, no_pieces, piece, single, join, forest_of, has_node, or_comment, region_at, if_of, each_of, items_or_else, attr_positions, modifier_positions, Entry, entries, entry_pairs, render_entries, values_listed, Block, block_named, in_block, Components, render_stmt, render_body, yields_of, components_at, draw}
use Rattle.gl_meaning.specs.Changes.{pieces, Item}
use Rattle.gl_meaning.proofs.Pieces.{filter_map_append, pieces_join}
use Rattle.gl_plain.specs.Ids.{Id}
use Rattle.gl_plain.specs.State.{MScope, mscope, mpassed, mnothing, passed_in, mslots, mwriter, writer, named_as, with_names, Thing}
use Rattle.gl_plain.specs.Live.{item_names, Live, Lives, Items}
use Rattle.gl_plain.specs.Live
use Rattle.gl_plain.specs.Stands.{attrs_by, mods_by, WhereValues, WhereBlock, Stands, StandIn, ItemsStand, BlockStands, ListStands, ElseStands}
use Rattle.gl_plain.specs.Machine.{no_place, RootStands}
use Rattle.gl_plain.specs.Renew.{renew_app}
use Rattle.gl_plain.proofs.Roots.{updated_stands}
use Rattle.gl_each.specs.Key.{Key}
use Rattle.gl_each.specs.Moved.{items_at}
use Rattle.gl_turns.proofs.Agrees.{SameScope, slots_in, same_in, same_slots, same_writer, same_named, locals_passed}
use Rattle.gl_kept.specs.Listed.{direct_items, list_in, item_keys, keys_of_list, spot_keys, tree_lists, tree_lists_items, tree_lists_in, ArePlans}
use Rattle.gl_kept.specs.Laws.{TreeListsAreThere, UpdatedMoves}
use Rattle.gl_kept.proofs.Listed.{Body, comment_body, body_body, yields_body, components_body, entries_direct}
use Rattle.gl_kept.proofs.Planned.{moved_by_plans}

-- the keys of the lists of some pieces
abbrev Keyed : List Piece → List (Path × List Key)
Keyed qs = map keys_of_list (filter_map list_in qs)

keyed_map : (xs ys : List (Path × List Item)) → map keys_of_list (xs ++ ys) ≡ map keys_of_list xs ++ map keys_of_list ys
keyed_map [] ys = refl
keyed_map (x ∷ xs) ys = ap (λ zs. keys_of_list x ∷ zs) (keyed_map xs ys)

keyed_append : (xs ys : List Piece) → Keyed (xs ++ ys) ≡ Keyed xs ++ Keyed ys
keyed_append xs ys = ap (map keys_of_list) (filter_map_append list_in xs ys) ∙ keyed_map (filter_map list_in xs) (filter_map list_in ys)

keyed_join : (f g : Forest) → Keyed (pieces (join f g)) ≡ Keyed (pieces f) ++ Keyed (pieces g)
keyed_join f g = ap Keyed (pieces_join f g) ∙ keyed_append (pieces f) (pieces g)

at_end : (xs : List Piece) → Keyed (xs ++ []) ≡ Keyed xs
at_end xs = ap Keyed (append-nil xs)

keyed_comment : (p : Path) (f : Forest) → Keyed (pieces (or_comment p f)) ≡ Keyed (pieces f)
keyed_comment p f = keyed_join f (if has_node f then no_pieces else single (comment_node (empty ∷ p) [])) ∙ (ap (λ ks. Keyed (pieces f) ++ ks) (by (has_node f)) ∙ append-nil (Keyed (pieces f))) where
  by : (b : Bool) → Keyed (pieces (if b then no_pieces else single (comment_node (empty ∷ p) []))) ≡ []
  by true = refl
  by false = refl

-- positions have no list
keyed_positions : {A : Type 0} (g : A → Path) (h : A → List Pair) (xs : List A) (rest : List Piece) → Keyed (pieces (forest_of rest)) ≡ [] → Keyed (pieces (forest_of (map (λ x. position (g x) (h x)) xs ++ rest))) ≡ []
keyed_positions g h [] rest k = k
keyed_positions g h (x ∷ xs) rest k = keyed_positions g h xs rest k

keyed_parts : (app : App) (σ : Store) (p : Path) (vs : List (WrittenValue Scope)) (ms : List Modifier) → Keyed (pieces (forest_of (attr_positions p vs (taken_pairs app σ vs) ++ modifier_positions ms))) ≡ []
keyed_parts app σ p vs ms =
    keyed_positions (λ n. attribute_at n ∷ p) (taken_pairs app σ vs) (filter (λ n. some_live (taken_values n vs)) (distinct_names vs)) (modifier_positions ms)
    (ap (λ qs. Keyed (pieces (forest_of qs))) (sym (append-nil (modifier_positions ms))) ∙ keyed_positions (λ (m : Modifier). m.path) (λ (m : Modifier). m.args ++ map (λ n. n.1) m.names) ms [] refl)

-- a branch of which no item is one by itself
keyed_arm : (p q : Path) (vs : List Pair) (f : Forest) (ks : List (Path × List Key)) → Body f → ks ≡ Keyed (pieces f) → (q, []) ∷ ks ≡ Keyed (pieces (piece (position p vs) (region_at q f)))
keyed_arm p q vs f ks b e =
    ap₂ (λ is zs. (q, item_keys is) ∷ zs) (sym (comment_body q f b).none) (e ∙ (sym (keyed_comment q f) ∙ sym (at_end (pieces (or_comment q f)))))

module _ (look : Id → Option Thing) (app : App) (σ τ : Store) where
  abbrev inner : ℕ → Components
  inner m = components_at m app σ

  abbrev body_of : ℕ → Passed → Scope → Path → ℕ → t.Body → Forest
  body_of m u w p i c = render_body app σ (inner m) (yields_of app σ (inner m) u) w p i c

  body_is : (m : ℕ) (u : Passed) (w : Scope) (p : Path) (c : t.Body) → Body (body_of m u w p 0 c)
  body_is m u w p c = body_body app σ (inner m) (yields_of app σ (inner m) u) (components_body app σ m) (yields_body app σ (inner m) (components_body app σ m) u) c w p 0

  abbrev Same : Path → Live → Forest → Type 0
  Same p l f = tree_lists p l ≡ Keyed (pieces f)

  abbrev SameIn : Path → ℕ → Lives → Forest → Type 0
  SameIn p i ls f = tree_lists_in p i ls ≡ Keyed (pieces f)

  if_same : (p : Path) (unless u : Bool) (v : Pair) (F G : Forest) (l : Live) → takes_first unless v.value ≡ u → Same p l (piece (position p (v ∷ [])) (if u then region_at (main ∷ p) F else region_at (otherwise ∷ p) G)) → Same p l (if_of p unless v F G)
  if_same p unless u v F G l e h = subst (λ b. Same p l (piece (position p (v ∷ [])) (if b then region_at (main ∷ p) F else region_at (otherwise ∷ p) G))) (sym e) h

  list_same : (p : Path) (l : Live) (v : Pair) (F : Values Path → Forest) (G : Forest) (P : Values Path → Type 0) (us : Values Path) → values_listed v.value ≡ us → WhereValues us P ⊥
      → ((us : Values Path) → P us → Same p l (piece (position p (v ∷ [])) (single (branch (items ∷ p) (F us))))) → Same p l (each_of p v F G)
  list_same p l v F G P no_values f h g = absurd h
  list_same p l v F G P (value x us) f h g = subst (λ y. Same p l (piece (position p (v ∷ [])) (items_or_else p y F G))) (sym f) (g (value x us) h)

  else_same : (p : Path) (l : Live) (v : Pair) (F : Values Path → Forest) (G : Forest) (Q : Type 0) (us : Values Path) → values_listed v.value ≡ us → WhereValues us (λ z. ⊥) Q
      → (Q → Same p l (piece (position p (v ∷ [])) (region_at (otherwise ∷ p) G))) → Same p l (each_of p v F G)
  else_same p l v F G Q (value x us) f h g = absurd h
  else_same p l v F G Q no_values f h g = subst (λ y. Same p l (piece (position p (v ∷ [])) (items_or_else p y F G))) (sym f) (g h)

  block_same : (p : Path) (o : Option Block) (F : Block → Forest) (P : Block → Type 0) (ls : Lives) → ((c : Block) → P c → SameIn p 0 ls (F c)) → WhereBlock o P (ls ≡ Live.no_lives) → SameIn p 0 ls (in_block o F)
  block_same p None F P ls g h = subst (λ y. SameIn p 0 y no_pieces) (sym h) refl
  block_same p (Some c) F P ls g h = g c h

  yields_by : (d : Components) (u : Passed) (n : Text) (vs : List Pair) (p : Path)
      → yields_of app σ d u n vs p ≡ in_block (block_named n (slots_in u)) (λ b. render_body app σ d (yields_of app σ d (passed_of (writer u))) (with_locals (bind b.params vs) (writer u)) (slot n ∷ p) 0 b.body)
  yields_by d nothing_passed n vs p = refl
  yields_by d (passed ps bs (scope i a l w)) n vs p = refl

  keys_same : (m b : ℕ) (w : Scope) (ms : MScope) (p : Path) (ns : List Text) (c : t.Body) (xs : List Entry) (is : Items) → ItemsStand app σ τ look m b w ms p ns c xs is → spot_keys is ≡ item_keys (items_at p xs)
  keys_same m b w ms p ns c [] Live.no_items h = refl
  keys_same m b w ms p ns c (x ∷ xs) (Live.item_live z k ls is) h = ap₂ (λ y ys. y ∷ ys) (ap₂ (λ a n. (owned a, n)) h.0.0 h.0.1) (keys_same m b w ms p ns c xs is h.5)
  keys_same m b w ms p ns c _ _ h = absurd h

  mutual
    same : (m b : ℕ) (w : Scope) (ms : MScope) (u : Passed) (p : Path) (x : t.Stmt) (l : Live) → passed_of w ≡ u → SameScope ms w → Stands app σ τ look m b w ms p x l
        → Same p l (render_stmt app σ (inner m) (yields_of app σ (inner m) u) w p x)
    same m b w ms u p (t.text_stmt z) (Live.still n) e s h = refl
    same m b w ms u p (t.comment_stmt z) (Live.still n) e s h = refl
    same m b w ms u p (t.put z) (Live.put_live n k) e s h = refl
    same m b w ms u p (t.element tag ps d) (Live.element_live n made xs zs ls) e s h =
        let vs = attrs_by ps w in
        let mods = modifiers_of app σ p 0 (mods_by ps w) in
        let f = body_of m u w p 0 d in
        let el = element_node p tag (attrs_from vs (taken_pairs app σ vs)) mods f in
        let parts = forest_of (attr_positions p vs (taken_pairs app σ vs) ++ modifier_positions mods) in
        same_in_body m b w ms u p 0 d ls e s h.3 ∙ sym (keyed_join parts (single el) ∙ (ap (λ ks. ks ++ Keyed (pieces (single el))) (keyed_parts app σ p vs mods) ∙ at_end (pieces f)))
    same m b w ms u p (t.if_stmt z unless c d) (Live.branch_live k true y ls) e s h =
        if_same p unless true (eval app σ w z) (body_of m u w (main ∷ p) 0 c) (body_of m u w (otherwise ∷ p) 0 d) (Live.branch_live k true y ls) h.1
        (keyed_arm p (main ∷ p) (eval app σ w z ∷ []) (body_of m u w (main ∷ p) 0 c) (tree_lists_in (main ∷ p) 0 ls) (body_is m u w (main ∷ p) c) (same_in_body m b w ms u (main ∷ p) 0 c ls e s h.3))
    same m b w ms u p (t.if_stmt z unless c d) (Live.branch_live k false y ls) e s h =
        if_same p unless false (eval app σ w z) (body_of m u w (main ∷ p) 0 c) (body_of m u w (otherwise ∷ p) 0 d) (Live.branch_live k false y ls) h.1
        (keyed_arm p (otherwise ∷ p) (eval app σ w z ∷ []) (body_of m u w (otherwise ∷ p) 0 d) (tree_lists_in (otherwise ∷ p) 0 ls) (body_is m u w (otherwise ∷ p) d) (same_in_body m b w ms u (otherwise ∷ p) 0 d ls e s h.3))
    same m b w ms u p (t.each z key ns c d) (Live.listed k is) e s h =
        let one : Path → Entry → Forest = λ q x. body_of m u (with_locals (bind ns (entry_pairs q x)) w) q 0 c in
        let F : Values Path → Forest = λ us. render_entries one (items ∷ p) (entries key 0 [] us) in
        list_same p (Live.listed k is) (eval app σ w z) F (body_of m u w (otherwise ∷ p) 0 d) (ListStands app σ τ look m b w ms p key ns c is) (values_listed (eval app σ w z).value) refl h.1
        (λ us hi. ap₂ (λ ks zs. (items ∷ p, ks) ∷ zs) (keys_same m b w ms (items ∷ p) ns c (entries key 0 [] us) is hi ∙ ap item_keys (sym (entries_direct one (items ∷ p) (entries key 0 [] us))))
        (same_items m b w ms u (items ∷ p) ns c (entries key 0 [] us) is e s hi ∙ sym (at_end (pieces (F us)))))
    same m b w ms u p (t.each z key ns c d) (Live.unlisted k y ls) e s h =
        let F : Values Path → Forest = λ us. render_entries (λ q x. body_of m u (with_locals (bind ns (entry_pairs q x)) w) q 0 c) (items ∷ p) (entries key 0 [] us) in
        else_same p (Live.unlisted k y ls) (eval app σ w z) F (body_of m u w (otherwise ∷ p) 0 d) (ElseStands app σ τ look m b w ms p d y ls) (values_listed (eval app σ w z).value) refl h.1
        (λ hi. keyed_arm p (otherwise ∷ p) (eval app σ w z ∷ []) (body_of m u w (otherwise ∷ p) 0 d) (tree_lists_in (otherwise ∷ p) 0 ls) (body_is m u w (otherwise ∷ p) d) (same_in_body m b w ms u (otherwise ∷ p) 0 d ls e s hi.1))
    same m b w ms u p (t.let_stmt es ns c) (Live.let_live made rs ls) e s h =
        same_in_body m _ (with_locals (bind ns (eval_all app σ w es)) w) (with_names (named_as ns rs) ms) u (main ∷ p) 0 c ls (locals_passed (bind ns (eval_all app σ w es)) w ∙ e)
        (same_named ms w (named_as ns rs) (bind ns (eval_all app σ w es)) s) h.3
    same (suc m) b w ms u p (t.component_stmt c ps given bs) (Live.component_live i made gm args (Some k) ls) e s h =
        let q = into c ∷ p in
        let inside = scope q (eval_given app σ w given) [] (passed ps bs w) in
        let f = body_of m (passed ps bs w) inside q 0 (class_at app q).template in
        let g = same_in_body m _ inside (mscope i args [] (mpassed k ps bs ms)) (passed ps bs w) q 0 (class_at app q).template ls refl (refl, s) h.7 in
        subst (λ j. SameIn j 0 ls f) (sym h.2) g ∙ sym (at_end (pieces f))
    same zero b w ms u p (t.component_stmt c ps given bs) (Live.deep_live q) e s h = refl
    same m b w ms u p (t.yield es n) (Live.yield_live k made rs ls) e s h =
        let v = passed_of w in
        let sp = same_in ms w s in
        let F : Block → Forest = λ c. body_of m (passed_of (writer v)) (with_locals (bind c.params (eval_all app σ w es)) (writer v)) (slot n ∷ p) 0 c.body in
        let g = block_same (slot n ∷ p) (block_named n (mslots (passed_in ms))) F (BlockStands app σ τ look m b w ms p es n made rs ls) ls
        (λ c hi. same_in_body m _ (with_locals (bind c.params (eval_all app σ w es)) (writer v)) (with_names (named_as c.params rs) (mwriter (passed_in ms))) (passed_of (writer v)) (slot n ∷ p) 0 c.body ls
        (locals_passed (bind c.params (eval_all app σ w es)) (writer v)) (same_named (mwriter (passed_in ms)) (writer v) (named_as c.params rs) (bind c.params (eval_all app σ w es)) (same_writer (passed_in ms) v sp)) hi.3) h.1 in
        let g1 : SameIn (slot n ∷ p) 0 ls (yields_of app σ (inner m) u n (eval_all app σ w es) p) =
        subst (λ y. SameIn (slot n ∷ p) 0 ls (yields_of app σ (inner m) y n (eval_all app σ w es) p)) e
        (subst (SameIn (slot n ∷ p) 0 ls) (sym (yields_by (inner m) v n (eval_all app σ w es) p)) (subst (λ y. SameIn (slot n ∷ p) 0 ls (in_block (block_named n y) F)) (sym (same_slots (passed_in ms) v sp)) g)) in
        subst (λ j. SameIn (slot j ∷ p) 0 ls (yields_of app σ (inner m) u n (eval_all app σ w es) p)) (sym h.0) g1
    same m b w ms u p _ _ e s h = absurd h

    same_in_body : (m b : ℕ) (w : Scope) (ms : MScope) (u : Passed) (p : Path) (i : ℕ) (c : t.Body) (ls : Lives) → passed_of w ≡ u → SameScope ms w → StandIn app σ τ look m b w ms p i c ls → SameIn p i ls (body_of m u w p i c)
    same_in_body m b w ms u p i t.end Live.no_lives e s h = refl
    same_in_body m b w ms u p i (t.stmt x d) (Live.live_and l ls) e s h =
        ap₂ (λ y z. y ++ z) (same m b w ms u (at i ∷ p) x l e s h.0) (same_in_body m b w ms u p (suc i) d ls e s h.1)
        ∙ sym (keyed_join (render_stmt app σ (inner m) (yields_of app σ (inner m) u) w (at i ∷ p) x) (body_of m u w p (suc i) d))
    same_in_body m b w ms u p i _ _ e s h = absurd h

    same_items : (m b : ℕ) (w : Scope) (ms : MScope) (u : Passed) (p : Path) (ns : List Text) (c : t.Body) (xs : List Entry) (is : Items) → passed_of w ≡ u → SameScope ms w → ItemsStand app σ τ look m b w ms p ns c xs is
        → tree_lists_items p is ≡ Keyed (pieces (render_entries (λ q x. body_of m u (with_locals (bind ns (entry_pairs q x)) w) q 0 c) p xs))
    same_items m b w ms u p ns c [] Live.no_items e s h = refl
    same_items m b w ms u p ns c (x ∷ xs) (Live.item_live z k ls is) e s h =
        let q = item x.key x.occurrence ∷ p in
        let w' = with_locals (bind ns (entry_pairs q x)) w in
        let f = body_of m u w' q 0 c in
        let rest = render_entries (λ q x. body_of m u (with_locals (bind ns (entry_pairs q x)) w) q 0 c) p xs in
        let g = same_in_body m _ w' (with_names (item_names ns z) ms) u q 0 c ls (locals_passed (bind ns (entry_pairs q x)) w ∙ e) (same_named ms w (item_names ns z) (bind ns (entry_pairs q x)) s) h.4 in
        let here : item z.key z.occurrence ∷ p ≡ q = ap₂ (λ a n. item a n ∷ p) h.0.0 h.0.1 in
        ap₂ (λ y z. y ++ z) (ap (λ j. tree_lists_in j 0 ls) here ∙ (g ∙ sym (keyed_comment q f))) (same_items m b w ms u p ns c xs is e s h.5)
        ∙ sym (keyed_append (pieces (or_comment q f)) (pieces rest))
    same_items m b w ms u p ns c _ _ e s h = absurd h

  root_same : (m : ℕ) (l : Live) → RootStands app σ τ look m l → Same [] l (components_at m app σ [] [] nothing_passed)
  root_same (suc m) (Live.component_live i made gm args None ls) h =
      let f = body_of m nothing_passed no_place [] 0 (class_at app []).template in
      subst (λ j. SameIn j 0 ls f) (sym h.1) (same_in_body m _ no_place (mscope i args [] mnothing) nothing_passed [] 0 (class_at app []).template ls refl tt h.5) ∙ sym (at_end (pieces f))
  root_same zero (Live.deep_live q) h = refl
  root_same _ _ h = absurd h

pub tree_lists_are_there : TreeListsAreThere
tree_lists_are_there app σ τ st l s = root_same st.look app σ τ app.limit l s.stands

pub updated_moves : UpdatedMoves
updated_moves app σ τ sets st l plans s only h =
    let r = renew_app app τ l st in
    moved_by_plans app σ τ sets plans
    (subst (λ olds. ArePlans olds (Rattle.gl_kept.specs.Listed.keyed_lists (draw app τ)) plans) (tree_lists_are_there app σ τ st l s)
    (subst (λ news. ArePlans (tree_lists [] l) news plans) (tree_lists_are_there app τ τ r.1 r.0 (updated_stands app σ τ st l s only)) h))
