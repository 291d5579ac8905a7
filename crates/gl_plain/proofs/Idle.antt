-- Where no position is stale an update changes nothing at all: so what a guard skips need not be updated.
use Rattle.std.proofs.Common.{◌≡◌, ℕ, zero, suc, ◌+◌, true, false, List, [], ◌∷◌, Option, Some, None, cond, refl, sym, ◌∙◌, ap, arith}
use Rattle.std.specs.Prelude.{if◌then◌else◌}
use Rattle.std.proofs.lemmas.Bool.Decides.{Decides-eqb}
use Rattle.gl_base.specs.Texts.{Text}
use Rattle.gl_value.specs.Value.{Values, no_values, value, count_value, same as val_same}
use Rattle.gl_ast.specs.Template.{Exprs}
use Rattle.gl_ast.specs.Template as t
use Rattle.gl_meaning.specs.App.{App}
use Rattle.gl_meaning.specs.Path.{at, main, otherwise, items, item, into, slot, Path, V, path_eq, no_owners}
use Rattle.gl_meaning.specs.Scope.{item_value, item_index, Pair, Scope, with_locals, bind}
use Rattle.gl_meaning.specs.Eval.{Store, class_at, takes_first, eval_all}
use Rattle.gl_meaning.specs.Render.{Entry, entries, values_listed, Block, block_named}
use Rattle.gl_meaning.specs.Laws.{keeps_none, keeps_more}
use Rattle.gl_meaning.proofs.Frame.{eval_all_keeps, keeps_itself}
use Rattle.gl_meaning.proofs.Equal.{same_itself, no_owners-Decides, both_true}
use Rattle.gl_plain.specs.Ids.{Id, ref, node, modifier_id, occurs}
use Rattle.gl_meaning.specs.Parts.{attribute_value}
use Rattle.gl_meaning.specs.Eval.{values_in}
use Rattle.gl_value.specs.Value.{text_of}
use Rattle.gl_plain.specs.State.{MScope, mscope, mpassed, with_names, mslots, mwriter, passed_in, State, held_value, put_thing, note_updated, touch, dropped, content, text_content, modifier_row, named_as}
use Rattle.gl_plain.specs.Binding.{Spot, first_value}
use Rattle.gl_plain.specs.Live
use Rattle.gl_plain.specs.Live.{AttrSpot, ModSpot, ItemSpot, item_made, Live, Lives, Items, times, times_in, times_items, times_comment, item_names}
use Rattle.gl_plain.specs.Grow.{branch_from, listed_from, unlisted_from, or_comment, grow_entries}
use Rattle.gl_plain.specs.Renew.{spot_pairs, evaluate, changed_attr, refreshed, fresh_body, reread, renew_attrs, renew_mods, give, Handle, taken, with_front, sync, sync_one, is_of, where_values, where_block, fresh_items, renew, renew_body, handles}
use Rattle.gl_plain.specs.Stands.{Spotted, exprs_by, one_expr, WhereValues, WhereBlock, BlockStands, ListStands, ElseStands, Stands, StandIn, ItemsStand, Owned}
use Rattle.gl_plain.specs.Guards.{IsFresh, AttrsFresh, ModsFresh, NoneStale, NoneStaleIn, NoneStaleItems}
use Rattle.gl_plain.proofs.Moves.{left_owned, right_owned}
use Rattle.gl_plain.proofs.Rereads.{Cold, stale_pairs, cold_pairs}
use Rattle.gl_plain.proofs.Renewing.{Ready, let_ready, component_ready}
use Rattle.gl_plain.proofs.Renews.{yield_scopes}
use Rattle.gl_plain.proofs.Syncs.{item_ready, path-Decides}

-- nothing is done to a position
attrs_idle : (n : ℕ) (xs : List AttrSpot) (st : State) → AttrsFresh st xs → renew_attrs n xs st ≡ st
attrs_idle n [] st h = refl
attrs_idle n (a ∷ xs) st h = ap (λ b. renew_attrs n xs (if b then put_thing (node n) (content (changed_attr a.name (attribute_value (spot_pairs st a.spot.ref)) (st.look (node n)))) (evaluate a.spot.ref st) else st)) h.0 ∙ attrs_idle n xs st h.1

mods_idle : (zs : List ModSpot) (st : State) → ModsFresh st zs → renew_mods zs st ≡ st
mods_idle [] st h = refl
mods_idle (z ∷ zs) st h = ap (λ b. renew_mods zs (if b then note_updated z.id (put_thing (modifier_id z.id) (modifier_row (refreshed z (values_in (spot_pairs st z.spot.ref)) (st.look (modifier_id z.id)))) (evaluate z.spot.ref st)) else st)) h.0 ∙ mods_idle zs st h.1

reread_idle : (z : Spot) (st : State) → IsFresh st z → reread z.ref st ≡ st
reread_idle z st h = ap (λ b. if b then evaluate z.ref st else st) h

module _ (app : App) (σ τ : Store) (st : State) where
  -- what was read is what would be read
  same_pairs : (b : ℕ) (ms : MScope) (v w : Scope) (z : Spot) (es : Exprs) → Ready app σ τ b st ms v w → Spotted app st.look ms z (exprs_by app ms es) (eval_all app σ v es) → IsFresh st z
      → spot_pairs st z.ref ≡ eval_all app σ v es
  same_pairs b ms v w z es r h f =
      stale_pairs app τ ms z (exprs_by app ms es) (eval_all app σ v es) (eval_all app τ w es) st h r.scope.cells (ap (λ y. eval_all app τ y es) r.scope.is)
      ∙ sym (cold_pairs app ms z (exprs_by app ms es) (eval_all app σ v es) (eval_all app τ w es) st h (eval_all_keeps (Cold st) app σ τ r.cells r.keeps es) f)

  give_idle : (r : ℕ) (x : Rattle.gl_meaning.specs.Scope.Source) (v : V) → held_value (st.look (ref r)) ≡ v → give r x v st ≡ st
  give_idle r x v e = ap (λ b. if b then st else touch r x v st) (ap (λ u. val_same path_eq u v) e ∙ same_itself Path path_eq path-Decides v)

  abbrev Idle : ℕ → t.Body → Lives → Type 0
  Idle m c ls =
      (b : ℕ) (v w : Scope) (ms : MScope) (p : Path) (i : ℕ) → Owned st (λ q. times_in q ls) → StandIn app σ τ st.look m b v ms p i c ls → Ready app σ τ b st ms v w → NoneStaleIn st ls
      → renew_body app τ m ms p i c ls st ≡ (ls, st)

  list_idle : (vs : Values Path) (P : Values Path → Type 0) (F : Values Path → Live × State) (G y : Live × State) → ((us : Values Path) → P us → F us ≡ y) → WhereValues vs P ⊥ → where_values vs F G ≡ y
  list_idle no_values P F G y g h = absurd h
  list_idle (value x us) P F G y g h = g (value x us) h

  else_idle : (vs : Values Path) (Q : Type 0) (F : Values Path → Live × State) (G y : Live × State) → (Q → G ≡ y) → WhereValues vs (λ us. ⊥) Q → where_values vs F G ≡ y
  else_idle no_values Q F G y g h = g h
  else_idle (value x us) Q F G y g h = absurd h

  block_idle : (o : Option Block) → {o' : Option Block} → o' ≡ o → (P : Block → Type 0) (ls : Lives) (F : Block → Lives × State) → ((c : Block) → o' ≡ Some c → P c → F c ≡ (ls, st)) → WhereBlock o P (ls ≡ Live.no_lives)
      → where_block o F (ls, st) ≡ (ls, st)
  block_idle None e P ls F g h = refl
  block_idle (Some c) e P ls F g h = g c e h

  mutual
    pub renew_idle : (m b : ℕ) (v w : Scope) (ms : MScope) (p : Path) (x : t.Stmt) (l : Live) → Owned st (λ q. times q l) → Stands app σ τ st.look m b v ms p x l → Ready app σ τ b st ms v w → NoneStale st l
        → renew app τ m ms p x l st ≡ (l, st)
    renew_idle m b v w ms p (t.text_stmt z) (Live.still n) o h r f = refl
    renew_idle m b v w ms p (t.comment_stmt z) (Live.still n) o h r f = refl
    renew_idle m b v w ms p (t.put e) (Live.put_live n z) o h r f = ap (λ c. (Live.put_live n z, if c then put_thing (node n) (content (text_content (text_of (first_value (spot_pairs st z.ref))))) (evaluate z.ref st) else st)) f
    renew_idle m b v w ms p (t.element tag ps c) (Live.element_live n made xs zs ls) o h r f =
        let oa : Owned st (λ q. times_in q ls) = record { once = λ q. let i = o.once q in omega (arith, i); old = λ q le. let i = o.old q le in omega (arith, i) } in
        ap (λ s. let y = renew_body app τ m ms p 0 c ls s in (Live.element_live n made xs zs y.0, renew_mods zs y.1)) (attrs_idle n xs st f.0)
        ∙ (ap (λ (y : Lives × State). (Live.element_live n made xs zs y.0, renew_mods zs y.1)) (body_idle m c ls b v w ms p 0 oa h.3 r f.2)
        ∙ ap (λ s. (Live.element_live n made xs zs ls, s)) (mods_idle zs st f.1))
    renew_idle m b v w ms p (t.if_stmt e unless c d) (Live.branch_live z true k ls) o h r f =
        let oa : Owned st (λ q. times_in q ls) = record { once = λ q. let i = o.once q in omega (arith, i); old = λ q le. let i = o.old q le in omega (arith, i) } in
        let cr : Id → ℕ = λ q. times_in q ls + times_comment q k in
        let A : State → Live × State = λ s. branch_from z true (let y = renew_body app τ m ms (main ∷ p) 0 c ls s in record { comment = k; lives = y.0; state = y.1 }) in
        let B : State → Live × State = λ s. branch_from z false (or_comment (fresh_body app τ m ms (otherwise ∷ p) d (dropped cr s))) in
        ap (λ s. cond {A = Live × State} (takes_first unless (first_value (spot_pairs s z.ref))) (A s) (B s)) (reread_idle z st f.0)
        ∙ (ap (λ u. cond {A = Live × State} u (A st) (B st)) (ap (λ y. takes_first unless (first_value y)) (same_pairs b ms v w z (one_expr e) r h.0 f.0) ∙ h.1)
        ∙ ap (λ (y : Lives × State). branch_from z true (record { comment = k; lives = y.0; state = y.1 })) (body_idle m c ls b v w ms (main ∷ p) 0 oa h.3 r f.1))
    renew_idle m b v w ms p (t.if_stmt e unless c d) (Live.branch_live z false k ls) o h r f =
        let oa : Owned st (λ q. times_in q ls) = record { once = λ q. let i = o.once q in omega (arith, i); old = λ q le. let i = o.old q le in omega (arith, i) } in
        let cr : Id → ℕ = λ q. times_in q ls + times_comment q k in
        let A : State → Live × State = λ s. branch_from z true (or_comment (fresh_body app τ m ms (main ∷ p) c (dropped cr s))) in
        let B : State → Live × State = λ s. branch_from z false (let y = renew_body app τ m ms (otherwise ∷ p) 0 d ls s in record { comment = k; lives = y.0; state = y.1 }) in
        ap (λ s. cond {A = Live × State} (takes_first unless (first_value (spot_pairs s z.ref))) (A s) (B s)) (reread_idle z st f.0)
        ∙ (ap (λ u. cond {A = Live × State} u (A st) (B st)) (ap (λ y. takes_first unless (first_value y)) (same_pairs b ms v w z (one_expr e) r h.0 f.0) ∙ h.1)
        ∙ ap (λ (y : Lives × State). branch_from z false (record { comment = k; lives = y.0; state = y.1 })) (body_idle m d ls b v w ms (otherwise ∷ p) 0 oa h.3 r f.1))
    renew_idle m b v w ms p (t.each e key ns c d) (Live.listed z is) o h r f =
        let oi = right_owned st (λ q. occurs q z.made) (λ q. times_items q is) o in
        let A : Values Path → State → Live × State = λ vs s. listed_from z (sync (fresh_items app τ m ms ns c) ns ms (items ∷ p) (entries key 0 [] vs) (handles app τ m c is) s) in
        let B : State → Live × State = λ s. unlisted_from z (or_comment (fresh_body app τ m ms (otherwise ∷ p) d (dropped (λ q. times_items q is) s))) in
        ap (λ s. where_values (values_listed (first_value (spot_pairs s z.ref))) (λ vs. A vs s) (B s)) (reread_idle z st f.0)
        ∙ (ap (λ y. where_values (values_listed (first_value y)) (λ vs. A vs st) (B st)) (same_pairs b ms v w z (one_expr e) r h.0 f.0)
        ∙ list_idle (values_listed (first_value (eval_all app σ v (one_expr e)))) (ListStands app σ τ st.look m b v ms p key ns c is) (λ vs. A vs st) (B st) (Live.listed z is, st)
        (λ vs hi. ap (listed_from z) (items_idle m b v w ms (items ∷ p) ns c (entries key 0 [] vs) is oi hi r f.1)) h.1)
    renew_idle m b v w ms p (t.each e key ns c d) (Live.unlisted z k ls) o h r f =
        let oa : Owned st (λ q. times_in q ls) = record { once = λ q. let i = o.once q in omega (arith, i); old = λ q le. let i = o.old q le in omega (arith, i) } in
        let cr : Id → ℕ = λ q. times_in q ls + times_comment q k in
        let A : Values Path → State → Live × State = λ vs s. listed_from z (grow_entries (fresh_items app τ m ms ns c) (items ∷ p) (entries key 0 [] vs) (dropped cr s)) in
        let B : State → Live × State = λ s. unlisted_from z (let y = renew_body app τ m ms (otherwise ∷ p) 0 d ls s in record { comment = k; lives = y.0; state = y.1 }) in
        ap (λ s. where_values (values_listed (first_value (spot_pairs s z.ref))) (λ vs. A vs s) (B s)) (reread_idle z st f.0)
        ∙ (ap (λ y. where_values (values_listed (first_value y)) (λ vs. A vs st) (B st)) (same_pairs b ms v w z (one_expr e) r h.0 f.0)
        ∙ else_idle (values_listed (first_value (eval_all app σ v (one_expr e)))) (ElseStands app σ τ st.look m b v ms p d k ls) (λ vs. A vs st) (B st) (Live.unlisted z k ls, st)
        (λ hi. ap (λ (y : Lives × State). unlisted_from z (record { comment = k; lives = y.0; state = y.1 })) (body_idle m d ls b v w ms (otherwise ∷ p) 0 oa hi.1 r f.1)) h.1)
    renew_idle m b v w ms p (t.let_stmt es ns c) (Live.let_live made rs ls) o h r f =
        let oa = left_owned st (λ q. occurs q made) (λ q. times_in q ls) o in
        let ob = right_owned st (λ q. occurs q made) (λ q. times_in q ls) o in
        ap (λ (y : Lives × State). (Live.let_live made rs y.0, y.1)) (body_idle m c ls _ _ _ (with_names (named_as ns rs) ms) (main ∷ p) 0 ob h.3 (let_ready app σ τ b st ms v w es ns made (named_as ns rs) r oa h.0 h.1) f)
    renew_idle (suc m) b v w ms p (t.component_stmt c ps given bs) (Live.component_live i made gm args (Some k) ls) o h r f =
        let oa = left_owned st (λ q. occurs q made) (λ q. times_in q ls) o in
        let ob = right_owned st (λ q. occurs q made) (λ q. times_in q ls) o in
        ap (λ (y : Lives × State). (Live.component_live i made gm args (Some k) y.0, y.1))
        (body_idle m (class_at app (into c ∷ p)).template ls _ _ _ (mscope i args [] (mpassed k ps bs ms)) (into c ∷ p) 0 ob h.7 (component_ready app σ τ b st ms v w (into c ∷ p) ps given bs i made gm args k r oa h.2 h.3.2 h.4 h.5) f)
    renew_idle zero b v w ms p (t.component_stmt c ps given bs) (Live.deep_live q) o h r f = refl
    renew_idle m b v w ms p (t.yield es n) (Live.yield_live k made names ls) o h r f =
        let oa = left_owned st (λ q. occurs q made) (λ q. times_in q ls) o in
        let ob = right_owned st (λ q. occurs q made) (λ q. times_in q ls) o in
        ap (λ (y : Lives × State). (Live.yield_live k made names y.0, y.1))
        (block_idle (block_named n (mslots (passed_in ms))) refl (BlockStands app σ τ st.look m b v ms p es n made names ls) ls (λ c. renew_body app τ m (with_names (named_as c.params names) (mwriter (passed_in ms))) (slot n ∷ p) 0 c.body ls st)
        (λ c e g. body_idle m c.body ls _ _ _ (with_names (named_as c.params names) (mwriter (passed_in ms))) (slot n ∷ p) 0 ob g.3 (yield_scopes app σ τ b st ms v w es n c made (named_as c.params names) e r oa g.0 g.1) f) h.1)
    renew_idle m b v w ms p _ _ o h r f = absurd h

    pub body_idle : (m : ℕ) (c : t.Body) (ls : Lives) → Idle m c ls
    body_idle m t.end Live.no_lives b v w ms p i o h r f = refl
    body_idle m (t.stmt x c) (Live.live_and l ls) b v w ms p i o h r f =
        ap (λ (y : Live × State). let z = renew_body app τ m ms p (suc i) c ls y.1 in (Live.live_and y.0 z.0, z.1)) (renew_idle m b v w ms (at i ∷ p) x l (left_owned st (λ q. times q l) (λ q. times_in q ls) o) h.0 r f.0)
        ∙ ap (λ (z : Lives × State). (Live.live_and l z.0, z.1)) (body_idle m c ls b v w ms p (suc i) (right_owned st (λ q. times q l) (λ q. times_in q ls) o) h.1 r f.1)
    body_idle m _ _ b v w ms p i o h r f = absurd h

    pub items_idle : (m b : ℕ) (v w : Scope) (ms : MScope) (p : Path) (ns : List Text) (c : t.Body) (xs : List Entry) (is : Items) → Owned st (λ q. times_items q is)
        → ItemsStand app σ τ st.look m b v ms p ns c xs is → Ready app σ τ b st ms v w → NoneStaleItems st is
        → sync (fresh_items app τ m ms ns c) ns ms p xs (handles app τ m c is) st ≡ (is, st)
    items_idle m b v w ms p ns c [] Live.no_items o h r f = refl
    items_idle m b v w ms p ns c (x ∷ xs) (Live.item_live z k ls is) o h r f =
        let q = item x.key x.occurrence ∷ p in
        let one = fresh_items app τ m ms ns c in
        let go : MScope → Path → State → Lives × State = λ ms' q' s. renew_body app τ m ms' q' 0 c ls s in
        let first : Handle = record { spot = z; comment = k; lives = ls; go = go } in
        let hs = handles app τ m c is in
        let is_first : is_of x first ≡ true =
        both_true _ _ (ap (val_same no_owners x.key) h.0.0 ∙ same_itself ⊥ no_owners no_owners-Decides x.key) ((Decides-eqb x.occurrence z.occurrence).1 (sym h.0.1)) in
        let S : Option (Handle × List Handle) → Items × State =
        λ o'. let g = sync_one one ns ms q x (first ∷ hs) o' st in let y = sync one ns ms p xs g.1 g.0.arm.state in (Live.item_live g.0.spot g.0.arm.comment g.0.arm.lives y.0, y.1) in
        let T : Lives × State → Items × State = λ y. let u = sync one ns ms p xs hs y.1 in (Live.item_live z k y.0 u.0, u.1) in
        let given : give z.index (item_index q) (count_value x.index) (give z.value (item_value q) x.value st) ≡ st =
        ap (give z.index (item_index q) (count_value x.index)) (give_idle z.value (item_value q) x.value (ap held_value h.0.2)) ∙ give_idle z.index (item_index q) (count_value x.index) (ap held_value h.0.3) in
        let oi : Owned st (λ n. occurs n (item_made z)) = record { once = λ n. let a = o.once n in omega (arith, a); old = λ n le. let a = o.old n le in omega (arith, a) } in
        let ol : Owned st (λ n. times_in n ls) = record { once = λ n. let a = o.once n in omega (arith, a); old = λ n le. let a = o.old n le in omega (arith, a) } in
        let or : Owned st (λ n. times_items n is) = record { once = λ n. let a = o.once n in omega (arith, a); old = λ n le. let a = o.old n le in omega (arith, a) } in
        let ready = item_ready app σ τ b st ms v w q ns x x z r oi h.0 h.1 (keeps_more (keeps_itself (Cold st) _) (keeps_more (keeps_itself (Cold st) _) keeps_none)) in
        ap (λ d. S (if d then Some (first, hs) else with_front first (taken x hs))) is_first
        ∙ (ap (λ s. T (go (with_names (item_names ns z) ms) q s)) given
        ∙ (ap T (body_idle m c ls _ _ _ (with_names (item_names ns z) ms) q 0 ol h.4 ready f.0)
        ∙ ap (λ (y : Items × State). (Live.item_live z k ls y.0, y.1)) (items_idle m b v w ms p ns c xs is or h.5 r f.1)))
    items_idle m b v w ms p ns c _ _ o h r f = absurd h
