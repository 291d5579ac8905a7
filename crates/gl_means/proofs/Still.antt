-- What each position of a tree that stands means over the cells of now keeps the Pairs that the rendering has there.
use Rattle.std.proofs.Common.{◌≡◌, ℕ, zero, suc, max, true, false, List, [], ◌∷◌, ◌++◌, map, Some, None, refl, sym, ap, ap₂, ◌∙◌, subst, arith, inl, inr}
use Rattle.std.specs.Prelude.{if◌then◌else◌}
use Rattle.gl_base.specs.Texts.{Text}
use Rattle.gl_value.specs.Value.{Values, no_values, value}
use Rattle.gl_ast.specs.Template as t
use Rattle.gl_meaning.specs.App.{App}
use Rattle.gl_meaning.specs.Path.{main, otherwise, items, item, slot, Path}
use Rattle.gl_meaning.specs.Path as path
use Rattle.gl_meaning.specs.Scope.{Pair, Scope, scope, Passed, nothing_passed, passed, passed_of, with_locals, bind}
use Rattle.gl_meaning.specs.Eval.{Store, class_at, eval, eval_all, eval_given}
use Rattle.gl_meaning.specs.Parts.{WrittenModifier, taken_pairs, modifiers_of}
use Rattle.gl_meaning.specs.Laws.{KeepsAll, keeps_none, keeps_more}
use Rattle.gl_meaning.specs.Render as r
use Rattle.gl_meaning.specs.Render.{Forest, Piece, no_pieces, piece, single, join, forest_of, position, Entry, entries, entry_pairs, values_listed, Block, block_named, Components, render_stmt, render_body, yields_of, components_at}
use Rattle.gl_meaning.proofs.Frame.{keeps_itself, eval_all_keeps, eval_named_keeps}
use Rattle.gl_meaning.proofs.Alike
use Rattle.gl_plain.specs.Ids.{Id, ref, occurs}
use Rattle.gl_plain.specs.State.{Names, names_by, Inst, MScope, mscope, mnothing, mpassed, scope_by, passed_in, mslots, mwriter, writer, named_as, with_names, State, pair_of}
use Rattle.gl_plain.specs.Binding.{Spot}
use Rattle.gl_plain.specs.Live.{AttrSpot, ModSpot, item_made, item_names, Live, Lives, Items, times, times_in, times_items}
use Rattle.gl_plain.specs.Live
use Rattle.gl_plain.specs.Renew.{spot_ids}
use Rattle.gl_plain.specs.Stands.{top, SpottedIn, one_expr, exprs_by, attrs_by, mods_by, head_of, tail_of, pairs_for, modifier_pairs, WhereValues, AttrsStand, ModsStand, Stands, StandIn, ItemsStand, BlockStands, ListStands, ElseStands, CellsStand, NamesBelow, Owned}
use Rattle.gl_plain.specs.Machine.{no_place, RootStands, OnlyTouched}
use Rattle.gl_plain.proofs.Moves.{left_owned, right_owned}
use Rattle.gl_plain.proofs.Pairs.{obeys_pairs}
use Rattle.gl_plain.proofs.Binding.{in_top}
use Rattle.gl_plain.proofs.Cells.{cells_at}
use Rattle.gl_plain.proofs.Shown.{scope_itself}
use Rattle.gl_plain.proofs.Rereads.{Cold}
use Rattle.gl_plain.proofs.Renewing.{Ready, made_old, let_ready, component_ready}
use Rattle.gl_plain.proofs.Renews.{yield_scopes}
use Rattle.gl_plain.proofs.Syncs.{item_ready}
use Rattle.gl_turns.specs.Places.{Place, node_place, position_place, item_place, modifier_place, comment_places, attr_places, mod_places, places, places_items, places_in}
use Rattle.gl_turns.proofs.Agrees.{SameScope, slots_in, same_in, same_slots, same_writer, same_named, locals_passed}
use Rattle.gl_means.proofs.Along.{Has, has_none, has_join, has_branch, has_position, has_arm, has_element, has_item, has_block}

module _ (app : App) (σ τ : Store) (st : State) where
  -- the piece's Pairs are the same as what is meant now, each of which no source was touched
  pub record IsStill (z : Path × ℕ) (x : Piece) : Type 0 where
    pub pairs : List Pair
    pub is : x ≡ position z.0 pairs
    pub keeps : KeepsAll (Cold st) pairs (map (pair_of st.look) (spot_ids (st.look (ref z.1))))

  abbrev pub Still : List Place → Forest → Type 0
  Still xs f = Has IsStill xs f

  spot_still : (ms : MScope) (more : List Id) (p : Path) (k : Spot) (E : Store → (ℕ → Pair) → List Pair) (old new : List Pair) (b : ℕ) (v w : Scope) (xs : List Place) (f : Forest)
      → Ready app σ τ b st ms v w → SpottedIn app st.look ms more k E old → E τ (pair_of st.look) ≡ new → KeepsAll (Cold st) old new → Still xs f
      → Still (position_place p k.ref ∷ xs) (piece (position p old) f)
  spot_still ms more p k E old new b v w xs f ready s e keeps h =
      has_position IsStill p k.ref (position p old) xs f
      (record { pairs = old; is = refl; keeps = subst (KeepsAll (Cold st) old) (sym (s.is.1 (pair_of st.look) τ (obeys_pairs st.look (more ++ k.made)) ready.scope.cells ∙ e)) keeps }) h

  -- a position over one expression
  one_still : (ms : MScope) (p : Path) (k : Spot) (e : t.Expr) (b : ℕ) (v w : Scope) (xs : List Place) (f : Forest)
      → Ready app σ τ b st ms v w → SpottedIn app st.look ms [] k (exprs_by app ms (one_expr e)) (eval_all app σ v (one_expr e)) → Still xs f
      → Still (position_place p k.ref ∷ xs) (piece (position p (eval_all app σ v (one_expr e))) f)
  one_still ms p k e b v w xs f ready s h =
      spot_still ms [] p k (exprs_by app ms (one_expr e)) (eval_all app σ v (one_expr e)) (eval_all app τ w (one_expr e)) b v w xs f ready s
      (ap (λ u. eval_all app τ u (one_expr e)) ready.scope.is) (eval_all_keeps (Cold st) app σ τ ready.cells ready.keeps (one_expr e)) h

  module _ (b : ℕ) (v w : Scope) (ms : MScope) (ready : Ready app σ τ b st ms v w) where
    attrs_still : (p : Path) (made : List Id) (ps : List t.Part) (ns : List Text) (xs : List AttrSpot) → AttrsStand app σ τ st.look made v ms (attrs_by ps) ns xs
        → Still (attr_places p xs) (forest_of (map (λ n. position (path.attribute_at n ∷ p) (taken_pairs app σ (attrs_by ps v) n)) ns))
    attrs_still p made ps [] [] h = has_none IsStill _
    attrs_still p made ps (n ∷ ns) (a ∷ xs) h =
        subst (λ k. Still (position_place (path.attribute_at k ∷ p) a.spot.ref ∷ attr_places p xs) (forest_of (map (λ j. position (path.attribute_at j ∷ p) (taken_pairs app σ (attrs_by ps v) j)) (n ∷ ns)))) (sym h.0)
        (spot_still ms made (path.attribute_at n ∷ p) a.spot (λ ρ f. taken_pairs app ρ (attrs_by ps (scope_by f ms)) n) (taken_pairs app σ (attrs_by ps v) n) (taken_pairs app τ (attrs_by ps w) n) b v w (attr_places p xs) _ ready h.1
        (ap (λ y. taken_pairs app τ (attrs_by ps y) n) ready.scope.is)
        (Alike.keeps-values (Cold st) app σ τ ready.cells (Alike.keeps-taken (Cold st) app σ τ ready.cells (Alike.keeps-attributes (Cold st) app σ τ ready.cells (Alike.keeps-written (Cold st) app σ τ ready.cells ready.keeps ps)) n))
        (attrs_still p made ps ns xs h.2))
    attrs_still p made ps _ _ h = absurd h

    mods_still : (p : Path) (made : List Id) (n : ℕ) (ws : Scope → List (WrittenModifier Scope)) (i : ℕ) (ds es : List (WrittenModifier Scope)) (zs : List ModSpot) → ws w ≡ es
        → Alike.KeepsModifiers (Cold st) app σ τ ready.cells ds es → ModsStand app σ τ st.look made n v ms ws i ds zs
        → Still (mod_places p i zs) (forest_of (r.modifier_positions (modifiers_of app σ p i ds)))
    mods_still p made n ws i ds es [] e Alike.modifiers_none h = has_none IsStill _
    mods_still p made n ws i ds es (z ∷ zs) e Alike.modifiers_none h = absurd h
    mods_still p made n ws i ds es [] e (Alike.modifiers_more g gs) h = absurd h
    mods_still p made n ws i ds es (z ∷ zs) e (Alike.modifiers_more {n = x} {es = xs} {ns = ks} {v = v'} {w = w'} {xs = ds'} {ys = es'} g gs) h =
        let old : WrittenModifier Scope = record { name = x; args = xs; names = ks; by = v' } in
        let new : WrittenModifier Scope = record { name = x; args = xs; names = ks; by = w' } in
        spot_still ms made (path.modifier_at i ∷ p) z.spot (λ ρ f. pairs_for app ρ (head_of (ws (scope_by f ms)))) (modifier_pairs app σ old) (modifier_pairs app τ new) b v w (modifier_place (path.modifier_at i ∷ p) z.id ∷ mod_places p (suc i) zs) _ ready h.3
        (ap (λ y. pairs_for app τ (head_of (ws y))) ready.scope.is ∙ ap (λ y. pairs_for app τ (head_of y)) e)
        (Alike.all-append (Cold st) app σ τ ready.cells (eval_all_keeps (Cold st) app σ τ ready.cells g xs) (Alike.all-names (Cold st) app σ τ ready.cells (eval_named_keeps (Cold st) app σ τ ready.cells g ks)))
        (record { each = (mods_still p made n (λ s'. tail_of (ws s')) (suc i) ds' es' zs (ap tail_of e) gs h.4).each })

  yields_by : (d : Components) (u : Passed) (n : Text) (vs : List Pair) (p : Path)
      → yields_of app σ d u n vs p ≡ r.in_block (block_named n (slots_in u)) (λ b. render_body app σ d (yields_of app σ d (passed_of (writer u))) (with_locals (bind b.params vs) (writer u)) (slot n ∷ p) 0 b.body)
  yields_by d nothing_passed n vs p = refl
  yields_by d (passed ps bs (scope i a l w)) n vs p = refl

  abbrev inner : ℕ → Components
  inner m = components_at m app σ

  abbrev body_of : ℕ → Passed → Scope → Path → ℕ → t.Body → Forest
  body_of m u v p i c = render_body app σ (inner m) (yields_of app σ (inner m) u) v p i c

  list_still : (p : Path) (xs : List Place) (v : Pair) (F : Values Path → Forest) (G : Forest) (us : Values Path) → values_listed v.value ≡ us → (P : Values Path → Type 0) → WhereValues us P ⊥
      → ((us : Values Path) → P us → Still xs (piece (position p (v ∷ [])) (single (r.branch (items ∷ p) (F us))))) → Still xs (r.each_of p v F G)
  list_still p xs v F G no_values f P h g = absurd h
  list_still p xs v F G (value x us) f P h g = subst (λ y. Still xs (piece (position p (v ∷ [])) (r.items_or_else p y F G))) (sym f) (g (value x us) h)

  else_still : (p : Path) (xs : List Place) (v : Pair) (F : Values Path → Forest) (G : Forest) (us : Values Path) → values_listed v.value ≡ us → (Q : Type 0) → WhereValues us (λ z. ⊥) Q
      → (Q → Still xs (piece (position p (v ∷ [])) (r.region_at (otherwise ∷ p) G))) → Still xs (r.each_of p v F G)
  else_still p xs v F G (value x us) f Q h g = absurd h
  else_still p xs v F G no_values f Q h g = subst (λ y. Still xs (piece (position p (v ∷ [])) (r.items_or_else p y F G))) (sym f) (g h)

  mutual
    is_still : (m b : ℕ) (v w : Scope) (ms : MScope) (u : Passed) (p : Path) (x : t.Stmt) (l : Live) → passed_of v ≡ u → SameScope ms v → Owned st (λ q. times q l) → Stands app σ τ st.look m b v ms p x l → Ready app σ τ b st ms v w
        → Still (places p l) (render_stmt app σ (inner m) (yields_of app σ (inner m) u) v p x)
    is_still m b v w ms u p (t.text_stmt y) (Live.still n) e s o h ready = record { each = λ z w. absurd w }
    is_still m b v w ms u p (t.comment_stmt y) (Live.still n) e s o h ready = record { each = λ z w. absurd w }
    is_still m b v w ms u p (t.put y) (Live.put_live n k) e s o h ready = one_still ms p k y b v w (node_place p n ∷ []) _ ready h.1 (record { each = λ z w. absurd w })
    is_still m b v w ms u p (t.element tag ps d) (Live.element_live n made xs zs ls) e s o h ready =
        let oa : Owned st (λ q. times_in q ls) = record { once = λ q. let i = o.once q in omega (arith, i); old = λ q le. let i = o.old q le in omega (arith, i) } in
        has_element IsStill p n (attr_places p xs) (places_in p 0 ls) (mod_places p 0 zs) _ _ _ (body_of m u v p 0 d) (λ x i. inl (inr i))
        (attrs_still b v w ms ready p made ps _ xs h.1) (in_still m b v w ms u p 0 d ls e s oa h.3 ready)
        (mods_still b v w ms ready p made n (mods_by ps) 0 (mods_by ps v) (mods_by ps w) zs refl (Alike.keeps-modifiers (Cold st) app σ τ ready.cells (Alike.keeps-written (Cold st) app σ τ ready.cells ready.keeps ps)) h.2)
    is_still m b v w ms u p (t.if_stmt y unless c d) (Live.branch_live k true a ls) e s o h ready =
        let oa : Owned st (λ q. times_in q ls) = record { once = λ q. let i = o.once q in omega (arith, i); old = λ q le. let i = o.old q le in omega (arith, i) } in
        let f = body_of m u v (main ∷ p) 0 c in
        subst (λ g. Still (position_place p k.ref ∷ (places_in (main ∷ p) 0 ls ++ comment_places (main ∷ p) a)) (piece (position p (eval app σ v y ∷ [])) (if g then r.region_at (main ∷ p) f else r.region_at (otherwise ∷ p) (body_of m u v (otherwise ∷ p) 0 d)))) (sym h.1)
        (one_still ms p k y b v w _ _ ready h.0 (has_branch IsStill _ (main ∷ p) _ (has_arm IsStill (places_in (main ∷ p) 0 ls) (main ∷ p) a f _ (in_still m b v w ms u (main ∷ p) 0 c ls e s oa h.3 ready))))
    is_still m b v w ms u p (t.if_stmt y unless c d) (Live.branch_live k false a ls) e s o h ready =
        let oa : Owned st (λ q. times_in q ls) = record { once = λ q. let i = o.once q in omega (arith, i); old = λ q le. let i = o.old q le in omega (arith, i) } in
        let f = body_of m u v (otherwise ∷ p) 0 d in
        subst (λ g. Still (position_place p k.ref ∷ (places_in (otherwise ∷ p) 0 ls ++ comment_places (otherwise ∷ p) a)) (piece (position p (eval app σ v y ∷ [])) (if g then r.region_at (main ∷ p) (body_of m u v (main ∷ p) 0 c) else r.region_at (otherwise ∷ p) f))) (sym h.1)
        (one_still ms p k y b v w _ _ ready h.0 (has_branch IsStill _ (otherwise ∷ p) _ (has_arm IsStill (places_in (otherwise ∷ p) 0 ls) (otherwise ∷ p) a f _ (in_still m b v w ms u (otherwise ∷ p) 0 d ls e s oa h.3 ready))))
    is_still m b v w ms u p (t.each y key ns c d) (Live.listed k is) e s o h ready =
        let oa = right_owned st (λ q. occurs q k.made) (λ q. times_items q is) o in
        let F : Values Path → Forest = λ us. r.render_entries (λ q x. body_of m u (with_locals (bind ns (entry_pairs q x)) v) q 0 c) (items ∷ p) (entries key 0 [] us) in
        list_still p (places p (Live.listed k is)) (eval app σ v y) F (body_of m u v (otherwise ∷ p) 0 d) (values_listed (eval app σ v y).value) refl (ListStands app σ τ st.look m b v ms p key ns c is) h.1
        (λ us hi. one_still ms p k y b v w _ _ ready h.0 (has_branch IsStill _ (items ∷ p) (F us) (items_still m b v w ms u (items ∷ p) ns c (entries key 0 [] us) is e s oa hi ready)))
    is_still m b v w ms u p (t.each y key ns c d) (Live.unlisted k a ls) e s o h ready =
        let oa : Owned st (λ q. times_in q ls) = record { once = λ q. let i = o.once q in omega (arith, i); old = λ q le. let i = o.old q le in omega (arith, i) } in
        let f = body_of m u v (otherwise ∷ p) 0 d in
        else_still p (places p (Live.unlisted k a ls)) (eval app σ v y) (λ us. r.render_entries (λ q x. body_of m u (with_locals (bind ns (entry_pairs q x)) v) q 0 c) (items ∷ p) (entries key 0 [] us)) f (values_listed (eval app σ v y).value) refl
        (ElseStands app σ τ st.look m b v ms p d a ls) h.1
        (λ hi. one_still ms p k y b v w _ _ ready h.0 (has_branch IsStill _ (otherwise ∷ p) _ (has_arm IsStill (places_in (otherwise ∷ p) 0 ls) (otherwise ∷ p) a f _ (in_still m b v w ms u (otherwise ∷ p) 0 d ls e s oa hi.1 ready))))
    is_still m b v w ms u p (t.let_stmt es ns c) (Live.let_live made names ls) e s o h ready =
        let oa = left_owned st (λ q. occurs q made) (λ q. times_in q ls) o in
        let ob = right_owned st (λ q. occurs q made) (λ q. times_in q ls) o in
        in_still m _ _ _ (with_names (named_as ns names) ms) u (main ∷ p) 0 c ls (locals_passed (bind ns (eval_all app σ v es)) v ∙ e) (same_named ms v (named_as ns names) (bind ns (eval_all app σ v es)) s) ob h.3
        (let_ready app σ τ b st ms v w es ns made (named_as ns names) ready oa h.0 h.1)
    is_still (suc m) b v w ms u p (t.component_stmt c ps given bs) (Live.component_live i made gm args (Some k) ls) e s o h ready =
        let oa = left_owned st (λ q. occurs q made) (λ q. times_in q ls) o in
        let ob = right_owned st (λ q. occurs q made) (λ q. times_in q ls) o in
        let q = path.into c ∷ p in
        let g = in_still m _ _ _ (mscope i args [] (mpassed k ps bs ms)) (passed ps bs v) q 0 (class_at app q).template ls refl (refl, s) ob h.7
        (component_ready app σ τ b st ms v w q ps given bs i made gm args k ready oa h.2 h.3.2 h.4 h.5) in
        let f = body_of m (passed ps bs v) (scope q (eval_given app σ v given) [] (passed ps bs v)) q 0 (class_at app q).template in
        let g1 : Still (places_in i.path 0 ls) f = subst (λ j. Still (places_in j 0 ls) f) (sym h.2) g in
        record { each = λ z w. let y = g1.each z w in (y.0, inl (inr y.1), y.2) }
    is_still zero b v w ms u p (t.component_stmt c ps given bs) (Live.deep_live q) e s o h ready = has_none IsStill _
    is_still m b v w ms u p (t.yield es n) (Live.yield_live k made names ls) e s o h ready =
        let oa = left_owned st (λ q. occurs q made) (λ q. times_in q ls) o in
        let ob = right_owned st (λ q. occurs q made) (λ q. times_in q ls) o in
        let y = passed_of v in
        let sp = same_in ms v s in
        let F : Block → Forest = λ c. body_of m (passed_of (writer y)) (with_locals (bind c.params (eval_all app σ v es)) (writer y)) (slot n ∷ p) 0 c.body in
        let g = has_block IsStill (slot n ∷ p) (block_named n (mslots (passed_in ms))) (BlockStands app σ τ st.look m b v ms p es n made names ls) F (λ a. r.in_block a F) ls (λ c. refl)
        (λ c f hi. in_still m _ _ _ (with_names (named_as c.params names) (mwriter (passed_in ms))) (passed_of (writer y)) (slot n ∷ p) 0 c.body ls
        (locals_passed (bind c.params (eval_all app σ v es)) (writer y)) (same_named (mwriter (passed_in ms)) (writer y) (named_as c.params names) (bind c.params (eval_all app σ v es)) (same_writer (passed_in ms) y sp)) ob hi.3
        (yield_scopes app σ τ b st ms v w es n c made (named_as c.params names) f ready oa hi.0 hi.1)) h.1 in
        let f = yields_of app σ (inner m) u n (eval_all app σ v es) p in
        let g1 : Still (places_in (slot n ∷ p) 0 ls) f =
        subst (λ a. Still (places_in (slot n ∷ p) 0 ls) (yields_of app σ (inner m) a n (eval_all app σ v es) p)) e
        (subst (Still (places_in (slot n ∷ p) 0 ls)) (sym (yields_by (inner m) y n (eval_all app σ v es) p)) (subst (λ a. Still (places_in (slot n ∷ p) 0 ls) (r.in_block (block_named n a) F)) (sym (same_slots (passed_in ms) y sp)) g)) in
        subst (λ j. Still (places_in (slot j ∷ p) 0 ls) f) (sym h.0) g1
    is_still m b v w ms u p _ _ e s o h ready = absurd h

    in_still : (m b : ℕ) (v w : Scope) (ms : MScope) (u : Passed) (p : Path) (i : ℕ) (c : t.Body) (ls : Lives) → passed_of v ≡ u → SameScope ms v → Owned st (λ q. times_in q ls) → StandIn app σ τ st.look m b v ms p i c ls → Ready app σ τ b st ms v w
        → Still (places_in p i ls) (body_of m u v p i c)
    in_still m b v w ms u p i t.end Live.no_lives e s o h ready = has_none IsStill _
    in_still m b v w ms u p i (t.stmt x d) (Live.live_and l ls) e s o h ready =
        has_join IsStill (places (path.at i ∷ p) l) (places_in p (suc i) ls) _ _
        (is_still m b v w ms u (path.at i ∷ p) x l e s (left_owned st (λ q. times q l) (λ q. times_in q ls) o) h.0 ready)
        (in_still m b v w ms u p (suc i) d ls e s (right_owned st (λ q. times q l) (λ q. times_in q ls) o) h.1 ready)
    in_still m b v w ms u p i _ _ e s o h ready = absurd h

    items_still : (m b : ℕ) (v w : Scope) (ms : MScope) (u : Passed) (p : Path) (ns : List Text) (c : t.Body) (xs : List Entry) (is : Items) → passed_of v ≡ u → SameScope ms v → Owned st (λ q. times_items q is) → ItemsStand app σ τ st.look m b v ms p ns c xs is → Ready app σ τ b st ms v w
        → Still (places_items p is) (r.render_entries (λ q x. body_of m u (with_locals (bind ns (entry_pairs q x)) v) q 0 c) p xs)
    items_still m b v w ms u p ns c [] Live.no_items e s o h ready = has_none IsStill _
    items_still m b v w ms u p ns c (x ∷ xs) (Live.item_live z k ls is) e s o h ready =
        let q = item x.key x.occurrence ∷ p in
        let oi : Owned st (λ n. occurs n (item_made z)) = record { once = λ n. let a = o.once n in omega (arith, a); old = λ n le. let a = o.old n le in omega (arith, a) } in
        let ol : Owned st (λ n. times_in n ls) = record { once = λ n. let a = o.once n in omega (arith, a); old = λ n le. let a = o.old n le in omega (arith, a) } in
        let or : Owned st (λ n. times_items n is) = record { once = λ n. let a = o.once n in omega (arith, a); old = λ n le. let a = o.old n le in omega (arith, a) } in
        let v' = with_locals (bind ns (entry_pairs q x)) v in
        let f = body_of m u v' q 0 c in
        let body = in_still m _ v' _ (with_names (item_names ns z) ms) u q 0 c ls (locals_passed (bind ns (entry_pairs q x)) v ∙ e) (same_named ms v (item_names ns z) (bind ns (entry_pairs q x)) s) ol h.4
        (item_ready app σ τ b st ms v w q ns x x z ready oi h.0 h.1 (keeps_more (keeps_itself (Cold st) _) (keeps_more (keeps_itself (Cold st) _) keeps_none))) in
        let arm = has_arm IsStill (places_in q 0 ls) q k f (if r.has_node f then no_pieces else single (r.comment_node (path.empty ∷ q) [])) body in
        let rest = items_still m b v w ms u p ns c xs is e s or h.5 ready in
        let all : Still (places_items p (Live.item_live z k ls is)) (r.render_entries (λ q x. body_of m u (with_locals (bind ns (entry_pairs q x)) v) q 0 c) p (x ∷ xs)) =
        subst (λ j. Still (item_place j z ∷ ((places_in j 0 ls ++ comment_places j k) ++ places_items p is)) (r.render_entries (λ q x. body_of m u (with_locals (bind ns (entry_pairs q x)) v) q 0 c) p (x ∷ xs))) (sym (ap₂ (λ a n. item a n ∷ p) h.0.0 h.0.1))
        (record { each = (has_item IsStill (places_in q 0 ls ++ comment_places q k) (places_items p is) (r.item_region q x.value x.index (r.or_comment q f)) (r.or_comment q f) _ (λ y w. inl (inr w)) arm rest).each }) in
        all
    items_still m b v w ms u p ns c _ _ e s o h ready = absurd h

  -- the root's scope
  root_ready : (i : Inst) (made : List Id) (args : Names) → Owned st (λ q. occurs q made) → i.path ≡ [] → args ≡ [] → CellsStand app σ τ st.look i made → OnlyTouched app σ τ st
      → Ready app σ τ (max 0 (top made)) st (mscope i args [] mnothing) no_place no_place
  root_ready i made args o path none held cells = record {
    low = made_old app σ τ 0 st made (omega arith) o;
    scope = record {
      low = ((λ x e. let h = in_top _ made (held x e).0 in omega (arith, h)), subst (λ y. NamesBelow (max 0 (top made)) y) (sym none) tt, tt, tt);
      is = ap₂ (λ x y. scope x (names_by (pair_of st.look) y) [] nothing_passed) path none;
      cells = (cells_at app σ τ st.look i made held, tt);
    };
    keeps = scope_itself (Cold st) no_place;
    cells = cells;
  }

  pub app_still : (m : ℕ) (l : Live) → Owned st (λ q. times q l) → RootStands app σ τ st.look m l → OnlyTouched app σ τ st → Still (places [] l) (components_at m app σ [] [] nothing_passed)
  app_still (suc m) (Live.component_live i made gm args None ls) o h cells =
      let ready = root_ready i made args (left_owned st (λ q. occurs q made) (λ q. times_in q ls) o) h.1 h.2 h.3 cells in
      let f = body_of m nothing_passed no_place [] 0 (class_at app []).template in
      let g = in_still m (max 0 (top made)) no_place no_place (mscope i args [] mnothing) nothing_passed [] 0 (class_at app []).template ls refl tt (right_owned st (λ q. occurs q made) (λ q. times_in q ls) o) h.5 ready in
      let g1 : Still (places_in i.path 0 ls) f = subst (λ j. Still (places_in j 0 ls) f) (sym h.1) g in
      record { each = λ z w. let y = g1.each z w in (y.0, inl (inr y.1), y.2) }
  app_still zero (Live.deep_live q) o h cells = has_none IsStill _
  app_still _ _ o h cells = absurd h
