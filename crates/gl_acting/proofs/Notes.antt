-- A tree that stands has the nodes of the rendering, with the same modifiers.
use Rattle.std.proofs.Common.{◌≡◌, ℕ, zero, suc, List, [], ◌∷◌, ◌++◌, map, Bool, true, false, Option, Some, None, refl, sym, ap₂, ◌∙◌, subst, ap}
use Rattle.std.specs.Prelude.{if◌then◌else◌}
use Rattle.gl_base.specs.Texts.{Text}
use Rattle.gl_value.specs.Value.{Values, no_values, value}
use Rattle.gl_ast.specs.Template as t
use Rattle.gl_meaning.specs.App.{App}
use Rattle.gl_meaning.specs.Path.{at, main, otherwise, items, item, into, slot, Path}
use Rattle.gl_meaning.specs.Scope.{Pair, Scope, scope, Passed, nothing_passed, passed, passed_of, with_locals, bind}
use Rattle.gl_meaning.specs.Eval.{Store, class_at, eval, eval_all, eval_given, takes_first}
use Rattle.gl_meaning.specs.Parts.{WrittenModifier, modifiers_of, taken_pairs}
use Rattle.gl_meaning.specs.Changes.{pieces}
use Rattle.gl_meaning.specs.Render as r
use Rattle.gl_meaning.specs.Render.{Forest, no_pieces, piece, single, position, Entry, entries, entry_pairs, values_listed, Block, block_named, Components, render_stmt, render_body, yields_of, components_at}
use Rattle.gl_plain.specs.Ids.{Id, modifier_id}
use Rattle.gl_plain.specs.State.{MScope, mscope, mnothing, mpassed, passed_in, mslots, mwriter, writer, named_as, with_names, Thing}
use Rattle.gl_plain.specs.Live
use Rattle.gl_plain.specs.Live.{ModSpot, item_names, Live, Lives, Items, have_node}
use Rattle.gl_plain.specs.Stands.{attrs_by, mods_by, tail_of, WhereValues, WhereBlock, ModsStand, CommentStands, Stands, StandIn, ItemsStand, BlockStands, ListStands, ElseStands}
use Rattle.gl_plain.specs.Machine.{no_place, RootStands}
use Rattle.gl_turns.specs.Places.{Place, node_place, position_place, item_place, instance_place, comment_places, places, places_items, places_in}
use Rattle.gl_turns.proofs.Agrees.{SameScope, slots_in, same_in, same_slots, same_writer, same_named, locals_passed, shown_in}
use Rattle.gl_acting.specs.Heard.{spots_in, spots_of_items, spots_among}
use Rattle.gl_acting.specs.Laws.{told_modifier}
use Rattle.gl_acting.proofs.Noted.{told_kept, parts_untold, Notes, notes_none, notes_forests, notes_leaf, notes_position, notes_branch, notes_component, notes_arm, notes_item, notes_element}

module _ (app : App) (σ τ : Store) (look : Id → Option Thing) where
  modifiers_told : (p : Path) (made : List Id) (n : ℕ) (s : Scope) (ms : MScope) (ws : Scope → List (WrittenModifier Scope)) (i : ℕ) (ds : List (WrittenModifier Scope)) (zs : List ModSpot) → ModsStand app σ τ look made n s ms ws i ds zs
      → map (λ z. told_kept (look (modifier_id z.id))) zs ≡ map told_modifier (modifiers_of app σ p i ds)
  modifiers_told p made n s ms ws i [] [] h = refl
  modifiers_told p made n s ms ws i (d ∷ ds) (z ∷ zs) h = ap₂ (λ a b. a ∷ b) (ap told_kept h.0) (modifiers_told p made n s ms (λ s'. tail_of (ws s')) (suc i) ds zs h.4)
  modifiers_told p made n s ms ws i [] (z ∷ zs) h = absurd h
  modifiers_told p made n s ms ws i (d ∷ ds) [] h = absurd h

  abbrev At : List Place → (ℕ → List ModSpot) → Forest → Type 0
  At xs ss f = Notes look xs ss (pieces f)

  yields_by : (d : Components) (u : Passed) (n : Text) (vs : List Pair) (p : Path)
      → yields_of app σ d u n vs p ≡ r.in_block (block_named n (slots_in u)) (λ b. render_body app σ d (yields_of app σ d (passed_of (writer u))) (with_locals (bind b.params vs) (writer u)) (slot n ∷ p) 0 b.body)
  yields_by d nothing_passed n vs p = refl
  yields_by d (passed ps bs (scope i a l w)) n vs p = refl

  abbrev inner : ℕ → Components
  inner m = components_at m app σ

  abbrev body_of : ℕ → Passed → Scope → Path → ℕ → t.Body → Forest
  body_of m u w p i c = render_body app σ (inner m) (yields_of app σ (inner m) u) w p i c

  if_noted : (p : Path) (unless u : Bool) (v : Pair) (n : ℕ) (F G : Forest) (xs : List Place) (ss : ℕ → List ModSpot) → takes_first unless v.value ≡ u → At xs ss (if u then r.region_at (main ∷ p) F else r.region_at (otherwise ∷ p) G)
      → At (position_place p n ∷ xs) ss (r.if_of p unless v F G)
  if_noted p unless u v n F G xs ss e h = notes_position look p n (v ∷ []) xs ss _ (subst (λ b. At xs ss (if b then r.region_at (main ∷ p) F else r.region_at (otherwise ∷ p) G)) (sym e) h)

  list_noted : (p : Path) (n : ℕ) (xs : List Place) (ss : ℕ → List ModSpot) (v : Pair) (F : Values Path → Forest) (G : Forest) (P : Values Path → Type 0) (us : Values Path) → values_listed v.value ≡ us → WhereValues us P ⊥ → ((us : Values Path) → P us → At xs ss (F us))
      → At (position_place p n ∷ xs) ss (r.each_of p v F G)
  list_noted p n xs ss v F G P no_values f h g = absurd h
  list_noted p n xs ss v F G P (value x us) f h g =
      notes_position look p n (v ∷ []) xs ss _ (subst (λ y. At xs ss (r.items_or_else p y F G)) (sym f) (notes_branch look (items ∷ p) xs ss (F (value x us)) (g (value x us) h)))

  else_noted : (p : Path) (n : ℕ) (xs : List Place) (ss : ℕ → List ModSpot) (v : Pair) (F : Values Path → Forest) (G : Forest) (Q : Type 0) (us : Values Path) → values_listed v.value ≡ us → WhereValues us (λ z. ⊥) Q → (Q → At xs ss (r.region_at (otherwise ∷ p) G))
      → At (position_place p n ∷ xs) ss (r.each_of p v F G)
  else_noted p n xs ss v F G Q (value x us) f h g = absurd h
  else_noted p n xs ss v F G Q no_values f h g = notes_position look p n (v ∷ []) xs ss _ (subst (λ y. At xs ss (r.items_or_else p y F G)) (sym f) (g h))

  block_noted : (p : Path) (o : Option Block) (F : Block → Forest) (P : Block → Type 0) (ls : Lives) → ((c : Block) → P c → At (places_in p 0 ls) (λ k. spots_among k ls) (F c)) → WhereBlock o P (ls ≡ Live.no_lives)
      → At (places_in p 0 ls) (λ k. spots_among k ls) (r.in_block o F)
  block_noted p None F P ls g h = subst (λ y. At (places_in p 0 y) (λ k. spots_among k y) no_pieces) (sym h) (notes_none look)
  block_noted p (Some c) F P ls g h = g c h

  -- the body of a branch, with its comment
  arm_noted : (q : Path) (o : Option ℕ) (ls : Lives) (f : Forest) → r.has_node f ≡ have_node ls → CommentStands app σ τ look o ls → At (places_in q 0 ls) (λ k. spots_among k ls) f
      → At (places_in q 0 ls ++ comment_places q o) (λ k. spots_among k ls) (r.region_at q f)
  arm_noted q o ls f e c h = notes_branch look q (places_in q 0 ls ++ comment_places q o) (λ k. spots_among k ls) (r.or_comment q f) (notes_arm look app σ τ q o (places_in q 0 ls) (λ k. spots_among k ls) ls f e c h)

  mutual
    noted : (m b : ℕ) (w : Scope) (ms : MScope) (u : Passed) (p : Path) (x : t.Stmt) (l : Live) → passed_of w ≡ u → SameScope ms w → Stands app σ τ look m b w ms p x l
        → At (places p l) (λ k. spots_in k l) (render_stmt app σ (inner m) (yields_of app σ (inner m) u) w p x)
    noted m b w ms u p (t.text_stmt z) (Live.still n) e s h = notes_leaf look p n _ refl
    noted m b w ms u p (t.comment_stmt z) (Live.still n) e s h = notes_leaf look p n _ refl
    noted m b w ms u p (t.put z) (Live.put_live n k) e s h = notes_position look p k.ref (eval app σ w z ∷ []) (node_place p n ∷ []) (λ k. []) _ (notes_leaf look p n _ refl)
    noted m b w ms u p (t.element tag ps d) (Live.element_live n made xs zs ls) e s h =
        let vs = attrs_by ps w in
        let mods = modifiers_of app σ p 0 (mods_by ps w) in
        notes_element look p n xs zs (places_in p 0 ls) (λ k. spots_among k ls) (r.attr_positions p vs (taken_pairs app σ vs) ++ r.modifier_positions mods) tag _ mods (body_of m u w p 0 d)
        (parts_untold p vs (taken_pairs app σ vs) mods) (modifiers_told p made n w ms (mods_by ps) 0 (mods_by ps w) zs h.2) (noted_in m b w ms u p 0 d ls e s h.3)
    noted m b w ms u p (t.if_stmt z unless c d) (Live.branch_live k true y ls) e s h =
        if_noted p unless true (eval app σ w z) k.ref (body_of m u w (main ∷ p) 0 c) (body_of m u w (otherwise ∷ p) 0 d) (places_in (main ∷ p) 0 ls ++ comment_places (main ∷ p) y) (λ k. spots_among k ls) h.1
        (arm_noted (main ∷ p) y ls (body_of m u w (main ∷ p) 0 c) (shown_in look app σ τ m b w ms u (main ∷ p) 0 c ls e s h.3).there h.2 (noted_in m b w ms u (main ∷ p) 0 c ls e s h.3))
    noted m b w ms u p (t.if_stmt z unless c d) (Live.branch_live k false y ls) e s h =
        if_noted p unless false (eval app σ w z) k.ref (body_of m u w (main ∷ p) 0 c) (body_of m u w (otherwise ∷ p) 0 d) (places_in (otherwise ∷ p) 0 ls ++ comment_places (otherwise ∷ p) y) (λ k. spots_among k ls) h.1
        (arm_noted (otherwise ∷ p) y ls (body_of m u w (otherwise ∷ p) 0 d) (shown_in look app σ τ m b w ms u (otherwise ∷ p) 0 d ls e s h.3).there h.2 (noted_in m b w ms u (otherwise ∷ p) 0 d ls e s h.3))
    noted m b w ms u p (t.each z key ns c d) (Live.listed k is) e s h =
        list_noted p k.ref (places_items (items ∷ p) is) (λ k. spots_of_items k is) (eval app σ w z) (λ us. r.render_entries (λ q x. body_of m u (with_locals (bind ns (entry_pairs q x)) w) q 0 c) (items ∷ p) (entries key 0 [] us)) (body_of m u w (otherwise ∷ p) 0 d)
        (ListStands app σ τ look m b w ms p key ns c is) (values_listed (eval app σ w z).value) refl h.1 (λ us hi. noted_items m b w ms u (items ∷ p) ns c (entries key 0 [] us) is e s hi)
    noted m b w ms u p (t.each z key ns c d) (Live.unlisted k y ls) e s h =
        else_noted p k.ref (places_in (otherwise ∷ p) 0 ls ++ comment_places (otherwise ∷ p) y) (λ k. spots_among k ls) (eval app σ w z) (λ us. r.render_entries (λ q x. body_of m u (with_locals (bind ns (entry_pairs q x)) w) q 0 c) (items ∷ p) (entries key 0 [] us))
        (body_of m u w (otherwise ∷ p) 0 d) (ElseStands app σ τ look m b w ms p d y ls) (values_listed (eval app σ w z).value) refl h.1
        (λ hi. arm_noted (otherwise ∷ p) y ls (body_of m u w (otherwise ∷ p) 0 d) (shown_in look app σ τ m b w ms u (otherwise ∷ p) 0 d ls e s hi.1).there hi.0 (noted_in m b w ms u (otherwise ∷ p) 0 d ls e s hi.1))
    noted m b w ms u p (t.let_stmt es ns c) (Live.let_live made rs ls) e s h =
        noted_in m _ (with_locals (bind ns (eval_all app σ w es)) w) (with_names (named_as ns rs) ms) u (main ∷ p) 0 c ls (locals_passed (bind ns (eval_all app σ w es)) w ∙ e) (same_named ms w (named_as ns rs) (bind ns (eval_all app σ w es)) s) h.3
    noted (suc m) b w ms u p (t.component_stmt c ps given bs) (Live.component_live i made gm args (Some k) ls) e s h =
        let q = into c ∷ p in
        let v = scope q (eval_given app σ w given) [] (passed ps bs w) in
        let f = body_of m (passed ps bs w) v q 0 (class_at app q).template in
        let g = noted_in m _ v (mscope i args [] (mpassed k ps bs ms)) (passed ps bs w) q 0 (class_at app q).template ls refl (refl, s) h.7 in
        subst (λ j. At (instance_place j i ∷ places_in j 0 ls) (λ k. spots_among k ls) (single (r.component q v f))) (sym h.2) (notes_component look q q i v (places_in q 0 ls) (λ k. spots_among k ls) f g)
    noted zero b w ms u p (t.component_stmt c ps given bs) (Live.deep_live q) e s h = record { noted = []; nodes = refl; by_number = λ k. refl; told = refl }
    noted m b w ms u p (t.yield es n) (Live.yield_live k made rs ls) e s h =
        let v = passed_of w in
        let sp = same_in ms w s in
        let here = places_in (slot n ∷ p) 0 ls in
        let spots : ℕ → List ModSpot = λ k. spots_among k ls in
        let F : Block → Forest = λ c. body_of m (passed_of (writer v)) (with_locals (bind c.params (eval_all app σ w es)) (writer v)) (slot n ∷ p) 0 c.body in
        let g = block_noted (slot n ∷ p) (block_named n (mslots (passed_in ms))) F (BlockStands app σ τ look m b w ms p es n made rs ls) ls
        (λ c hi. noted_in m _ (with_locals (bind c.params (eval_all app σ w es)) (writer v)) (with_names (named_as c.params rs) (mwriter (passed_in ms))) (passed_of (writer v)) (slot n ∷ p) 0 c.body ls
        (locals_passed (bind c.params (eval_all app σ w es)) (writer v)) (same_named (mwriter (passed_in ms)) (writer v) (named_as c.params rs) (bind c.params (eval_all app σ w es)) (same_writer (passed_in ms) v sp)) hi.3) h.1 in
        let g1 : At here spots (yields_of app σ (inner m) u n (eval_all app σ w es) p) =
        subst (λ y. At here spots (yields_of app σ (inner m) y n (eval_all app σ w es) p)) e
        (subst (At here spots) (sym (yields_by (inner m) v n (eval_all app σ w es) p)) (subst (λ y. At here spots (r.in_block (block_named n y) F)) (sym (same_slots (passed_in ms) v sp)) g)) in
        subst (λ j. At (places_in (slot j ∷ p) 0 ls) spots (yields_of app σ (inner m) u n (eval_all app σ w es) p)) (sym h.0) g1
    noted m b w ms u p _ _ e s h = absurd h

    noted_in : (m b : ℕ) (w : Scope) (ms : MScope) (u : Passed) (p : Path) (i : ℕ) (c : t.Body) (ls : Lives) → passed_of w ≡ u → SameScope ms w → StandIn app σ τ look m b w ms p i c ls
        → At (places_in p i ls) (λ k. spots_among k ls) (body_of m u w p i c)
    noted_in m b w ms u p i t.end Live.no_lives e s h = notes_none look
    noted_in m b w ms u p i (t.stmt x d) (Live.live_and l ls) e s h =
        notes_forests look (places (at i ∷ p) l) (places_in p (suc i) ls) (λ k. spots_in k l) (λ k. spots_among k ls) (render_stmt app σ (inner m) (yields_of app σ (inner m) u) w (at i ∷ p) x) (body_of m u w p (suc i) d)
        (noted m b w ms u (at i ∷ p) x l e s h.0) (noted_in m b w ms u p (suc i) d ls e s h.1)
    noted_in m b w ms u p i _ _ e s h = absurd h

    noted_items : (m b : ℕ) (w : Scope) (ms : MScope) (u : Passed) (p : Path) (ns : List Text) (c : t.Body) (xs : List Entry) (is : Items) → passed_of w ≡ u → SameScope ms w → ItemsStand app σ τ look m b w ms p ns c xs is
        → At (places_items p is) (λ k. spots_of_items k is) (r.render_entries (λ q x. body_of m u (with_locals (bind ns (entry_pairs q x)) w) q 0 c) p xs)
    noted_items m b w ms u p ns c [] Live.no_items e s h = notes_none look
    noted_items m b w ms u p ns c (x ∷ xs) (Live.item_live z k ls is) e s h =
        let q = item x.key x.occurrence ∷ p in
        let here : item z.key z.occurrence ∷ p ≡ q = ap₂ (λ y n. item y n ∷ p) h.0.0 h.0.1 in
        let w' = with_locals (bind ns (entry_pairs q x)) w in
        let f = body_of m u w' q 0 c in
        let rest = r.render_entries (λ q x. body_of m u (with_locals (bind ns (entry_pairs q x)) w) q 0 c) p xs in
        let same = locals_passed (bind ns (entry_pairs q x)) w ∙ e in
        let scopes = same_named ms w (item_names ns z) (bind ns (entry_pairs q x)) s in
        let g = noted_in m _ w' (with_names (item_names ns z) ms) u q 0 c ls same scopes h.4 in
        let a = notes_arm look app σ τ q k (places_in q 0 ls) (λ k. spots_among k ls) ls f (shown_in look app σ τ m _ w' (with_names (item_names ns z) ms) u q 0 c ls same scopes h.4).there h.3 g in
        subst (λ j. At (item_place j z ∷ ((places_in j 0 ls ++ comment_places j k) ++ places_items p is)) (λ k. spots_among k ls ++ spots_of_items k is) (piece (r.item_region q x.value x.index (r.or_comment q f)) rest)) (sym here)
        (notes_item look q z x.value x.index (places_in q 0 ls ++ comment_places q k) (places_items p is) (λ k. spots_among k ls) (λ k. spots_of_items k is) (r.or_comment q f) rest a (noted_items m b w ms u p ns c xs is e s h.5))
    noted_items m b w ms u p ns c _ _ e s h = absurd h

  pub root_noted : (m : ℕ) (l : Live) → RootStands app σ τ look m l → At (places [] l) (λ k. spots_in k l) (components_at m app σ [] [] nothing_passed)
  root_noted (suc m) (Live.component_live i made gm args None ls) h =
      let f = body_of m nothing_passed no_place [] 0 (class_at app []).template in
      let g = noted_in m _ no_place (mscope i args [] mnothing) nothing_passed [] 0 (class_at app []).template ls refl tt h.5 in
      subst (λ j. At (instance_place j i ∷ places_in j 0 ls) (λ k. spots_among k ls) (single (r.component [] no_place f))) (sym h.1) (notes_component look [] [] i no_place (places_in [] 0 ls) (λ k. spots_among k ls) f g)
  root_noted zero (Live.deep_live q) h = record { noted = []; nodes = refl; by_number = λ k. refl; told = refl }
  root_noted _ _ h = absurd h
