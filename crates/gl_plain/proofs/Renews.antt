-- What is updated stands for what is rendered now.
use Rattle.std.proofs.Common.{◌≡◌, ℕ, zero, suc, max, ◌+◌, ◌≤◌, Bool, true, false, List, [], ◌∷◌, Option, Some, None, cond, refl, sym, ◌∙◌, ap, ap₂, subst, arith}
use Rattle.std.specs.Prelude.{if◌then◌else◌, ◌||◌, ◌&&◌, nat_eq}
use Rattle.gl_base.specs.Texts.{Text}
use Rattle.gl_value.specs.Value.{Values, no_values, value, text_of, same as val_same}
use Rattle.gl_meaning.proofs.Equal.{same_means, same_itself, no_owners-Decides, both_left, both_right, both_true}
use Rattle.std.proofs.lemmas.Bool.Decides.{Decides-eqb}
use Rattle.gl_ast.specs.Template.{Exprs, AttrValue, Part, Slots}
use Rattle.gl_ast.specs.Template as t
use Rattle.gl_meaning.specs.App.{App}
use Rattle.gl_meaning.specs.Path.{at, main, otherwise, items, item, into, slot, Path, V, no_owners}
use Rattle.gl_meaning.specs.Scope.{Scope, scope, passed, passed_of, with_locals, bind}
use Rattle.gl_meaning.specs.Eval.{Store, class_at, takes_first, eval_all, eval_given}
use Rattle.gl_meaning.specs.Render.{Entry, entries, values_listed, Block, block_named}
use Rattle.gl_meaning.proofs.Frame.{eval_all_keeps}
use Rattle.gl_plain.specs.Ids.{a_ref, Id, ref, node, block_id, instance_id, hit, occurs}
use Rattle.gl_plain.specs.State.{Names, names_by, Inst, MScope, mscope, mpassed, mnothing, passed_in, mslots, mwriter, writer, with_names, text_content, content, Thing, State, put_thing, dropped, named_as}
use Rattle.gl_plain.specs.Binding.{Spot, first_value}
use Rattle.gl_plain.specs.Live.{ItemSpot, item_made, Live, Lives, Items, times, times_in, times_items, times_comment, has_node, have_node, item_names}
use Rattle.gl_plain.specs.Live
use Rattle.gl_plain.specs.Grow.{Arm, grow_entries, branch_from, unlisted_from, listed_from, grow_components, grow_yields}
use Rattle.gl_plain.specs.Renew.{spot_pairs, is_stale, evaluate, reread, Handle, times_handles, taken, sync, where_values, where_block, fresh_items, renew, renew_body, handles}
use Rattle.gl_plain.specs.Stands.{Gives, top, NamesBelow, From, Spotted, exprs_by, one_expr, WhereValues, WhereBlock, Stands, StandIn, ItemsStand, BlockStands, ListStands, ElseStands, Owned}
use Rattle.gl_plain.specs.Keeps.{New, same_key, WhereTrue, Keeps, KeepIn, KeptBy}
use Rattle.gl_plain.proofs.Keeping.{new_less, keep_less, kept_less, each_item}
use Rattle.gl_plain.proofs.Moves.{Moves, both_move, then_move, recount, before_it, beside, left_owned, right_owned, next_owned, same_owned, owned_after, hit_self, unhit, id_itself}
use Rattle.gl_plain.proofs.Stay.{Same, stay, stay_in, stay_items, comment_stays, cells_stay, gives_stays, spot_stays, left_above, right_above}
use Rattle.gl_plain.proofs.Grows.{entries_grow}
use Rattle.gl_plain.proofs.Layers.{all_grow, yields_grow, components_grow}
use Rattle.gl_plain.proofs.Rereads.{reads_same, Cold, put_moves, same_moves, noted_move, drop_moves, stale_pairs, cold_pairs, evaluated_spot, cold_spot}
use Rattle.gl_plain.proofs.Renewing.{Ready, ready_goes, Renewed, RenewedIn, ArmRenewed, idle_before, idle_same, from_left, from_right, from_after, made_old, flipped, flipped_new, next_more, new_is_new, kept_arm, let_ready, yield_ready, component_ready, spot_then}
use Rattle.gl_meaning.proofs.Once.{Later, Distinct, distinct}
use Rattle.gl_plain.proofs.Syncs.{EachHandle, AllRight, ItemRenewed, ItemsRenewed, items_count, sync_is, sync_keeps, Absent, EachAbsent, AllKept, front_other, front_none}

module _ (app : App) (σ τ : Store) where
  -- A text mustache

  put_by : (m b : ℕ) (v w : Scope) (ms : MScope) (p : Path) (e : t.Expr) (n : ℕ) (z : Spot) (st : State) → Owned st (λ q. times q (Live.put_live n z)) → Ready app σ τ b st ms v w
      → Stands app σ τ st.look m b v ms p (t.put e) (Live.put_live n z) → (u : Bool) → is_stale st z.ref ≡ u
      → Renewed app σ τ m b w ms p (t.put e) st (Live.put_live n z)
      (Live.put_live n z, if u then put_thing (node n) (content (text_content (text_of (first_value (spot_pairs st z.ref))))) (evaluate z.ref st) else st)
  put_by m b v w ms p e n z st o r h true s =
      let old = eval_all app σ v (one_expr e) in
      let new = eval_all app τ w (one_expr e) in
      let E = exprs_by app ms (one_expr e) in
      let count : Id → ℕ = λ q. times q (Live.put_live n z) in
      let is = stale_pairs app τ ms z E old new st h.1 r.scope.cells (ap (λ y. eval_all app τ y (one_expr e)) r.scope.is) in
      let st1 = evaluate z.ref st in
      let x = content (text_content (text_of (first_value (spot_pairs st z.ref)))) in
      let m1 = noted_move st _ count count z.ref (put_moves st count (ref z.ref) _ o (right_above _ _ h.1.own) (reads_same st z.ref _ h.1.is.0)) in
      let m2 = put_moves st1 count (node n) x (owned_after st st1 count count m1) (left_above _ _ (hit_self (node n))) (λ l i e. tt) in
      let same : Same st1.look (put_thing (node n) x st1).look (λ q. occurs q z.made) =
      (λ q a. let k = o.once q in ap (λ c. if c then Some x else st1.look q) (unhit q (node n) (omega (arith, k, a)))) in
      record {
        moves = then_move st st1 (put_thing (node n) x st1) count count count m1 m2;
        stands = (
          ap (λ c. if c then Some x else st1.look (node n)) (id_itself (node n)) ∙ ap (λ y. Some (content (text_content (text_of (first_value y))))) is,
          spot_stays app st1.look (put_thing (node n) x st1).look ms z E new same (evaluated_spot app ms z E old new st h.1 is),
        );
        nodes = refl;
        keeps = (refl, refl);
      }
  put_by m b v w ms p e n z st o r h false s =
      let E = exprs_by app ms (one_expr e) in
      let is = cold_pairs app ms z E (eval_all app σ v (one_expr e)) (eval_all app τ w (one_expr e)) st h.1 (eval_all_keeps (Cold st) app σ τ r.cells r.keeps (one_expr e)) s in
      record {
        moves = same_moves st (λ q. times q (Live.put_live n z)) o;
        stands = (h.0 ∙ ap (λ y. Some (content (text_content (text_of (first_value y))))) is, cold_spot app ms z E _ _ st.look h.1 is);
        nodes = refl;
        keeps = (refl, refl);
      }

  -- nothing is kept of nothing
  keep_itself : (next : Rattle.gl_plain.specs.Ids.Kind → ℕ) (ls : Lives) → ls ≡ Live.no_lives → KeepIn next ls ls
  keep_itself next ls e = subst (λ y. KeepIn next y y) (sym e) tt

  -- Branches

  -- the position, and then one of the bodies
  arm_on_spot : (b : ℕ) (w : Scope) (ms : MScope) (z : Spot) (es : Exprs) (st st1 : State) (count : Id → ℕ) (a : Arm) → let after : Id → ℕ = λ q. times_in q a.lives + times_comment q a.comment in
      Owned st (λ q. occurs q z.made + count q) → Moves st st1 (λ q. occurs q z.made) (λ q. occurs q z.made) → Moves st1 a.state count after
      → Spotted app st1.look ms z (exprs_by app ms es) (eval_all app τ w es)
      → Moves st a.state (λ q. occurs q z.made + count q) (λ q. occurs q z.made + after q) × Spotted app a.state.look ms z (exprs_by app ms es) (eval_all app τ w es)
  arm_on_spot b w ms z es st st1 count a o m1 m2 h =
      let after : Id → ℕ = λ q. times_in q a.lives + times_comment q a.comment in (
        both_move st st1 a.state (λ q. occurs q z.made) (λ q. occurs q z.made) count after o m1 m2,
        spot_stays app st1.look a.state.look ms z (exprs_by app ms es) (eval_all app τ w es) (before_it st st1 a.state (λ q. occurs q z.made) (λ q. occurs q z.made) count after o m1 m2) h,
      )

  branch_by : (m b : ℕ) (w : Scope) (ms : MScope) (p : Path) (e : t.Expr) (unless : Bool) (c d : t.Body) (z : Spot) (u0 : Bool) (k : Option ℕ) (ls : Lives) (st st1 : State)
      → Owned st (λ q. occurs q z.made + (times_in q ls + times_comment q k)) → Moves st st1 (λ q. occurs q z.made) (λ q. occurs q z.made)
      → Spotted app st1.look ms z (exprs_by app ms (one_expr e)) (eval_all app τ w (one_expr e))
      → (u : Bool) → takes_first unless (first_value (eval_all app τ w (one_expr e))) ≡ u → (f g : Arm)
      → ArmRenewed app σ τ m b w ms (main ∷ p) c st1 (λ q. times_in q ls + times_comment q k) f → ArmRenewed app σ τ m b w ms (otherwise ∷ p) d st1 (λ q. times_in q ls + times_comment q k) g
      → Keeps st.next (Live.branch_live z u0 k ls) (Live.branch_live z true f.comment f.lives) → Keeps st.next (Live.branch_live z u0 k ls) (Live.branch_live z false g.comment g.lives)
      → Renewed app σ τ m b w ms p (t.if_stmt e unless c d) st (Live.branch_live z u0 k ls) (cond {A = Live × State} u (branch_from z true f) (branch_from z false g))
  branch_by m b w ms p e unless c d z u0 k ls st st1 o m1 h true is f g hf hg kf kg =
      let s = arm_on_spot b w ms z (one_expr e) st st1 (λ q. times_in q ls + times_comment q k) f o m1 hf.moves h in
      record { moves = s.0; stands = (s.1, is, hf.comment, hf.stands); nodes = refl; keeps = kf }
  branch_by m b w ms p e unless c d z u0 k ls st st1 o m1 h false is f g hf hg kf kg =
      let s = arm_on_spot b w ms z (one_expr e) st st1 (λ q. times_in q ls + times_comment q k) g o m1 hg.moves h in
      record { moves = s.0; stands = (s.1, is, hg.comment, hg.stands); nodes = refl; keeps = kg }

  -- Lists

  list_by : (m b : ℕ) (w : Scope) (ms : MScope) (p : Path) (e : t.Expr) (key : Text) (ns : List Text) (c d : t.Body) (z : Spot) (l : Live) (count : Id → ℕ) (st st1 : State)
      → ((q : Id) → times q l ≡ occurs q z.made + count q) → has_node l ≡ true
      → Owned st (λ q. occurs q z.made + count q) → Moves st st1 (λ q. occurs q z.made) (λ q. occurs q z.made)
      → Spotted app st1.look ms z (exprs_by app ms (one_expr e)) (eval_all app τ w (one_expr e))
      → (vs : Values Path) → values_listed (first_value (eval_all app τ w (one_expr e))) ≡ vs → (F : Values Path → Items × State) (g : Arm)
      → ((us : Values Path) → ItemsRenewed app σ τ m b ms (items ∷ p) ns c w (entries key 0 [] us) st1 count (F us))
      → ArmRenewed app σ τ m b w ms (otherwise ∷ p) d st1 count g
      → ((u : V) (us : Values Path) → vs ≡ value u us → Keeps st.next l (Live.listed z (F (value u us)).0)) → Keeps st.next l (Live.unlisted z g.comment g.lives)
      → Renewed app σ τ m b w ms p (t.each e key ns c d) st l (where_values vs (λ us. listed_from z (F us)) (unlisted_from z g))
  list_by m b w ms p e key ns c d z l count st st1 eq node_there o m1 h no_values is F g hf hg kf kg =
      let s = arm_on_spot b w ms z (one_expr e) st st1 count g o m1 hg.moves h in
      let after : Id → ℕ = λ q. occurs q z.made + (times_in q g.lives + times_comment q g.comment) in
      record {
        moves = recount st g.state (λ q. times q l) (λ q. occurs q z.made + count q) after after eq (λ q. refl) s.0;
        stands = (s.1, subst (λ us. WhereValues us (λ y. ⊥) (ElseStands app τ τ g.state.look m b w ms p d g.comment g.lives)) (sym is) (hg.comment, hg.stands));
        nodes = sym node_there;
        keeps = kg;
      }
  list_by m b w ms p e key ns c d z l count st st1 eq node_there o m1 h (value u us) is F g hf hg kf kg =
      let r = F (value u us) in
      let k = hf (value u us) in
      let ca : Id → ℕ = λ q. occurs q z.made in
      let ci : Id → ℕ = λ q. times_items q r.0 in
      record {
        moves = recount st r.1 (λ q. times q l) (λ q. ca q + count q) (λ q. ca q + ci q) (λ q. ca q + ci q) eq (λ q. refl) (both_move st st1 r.1 ca ca count ci o m1 k.moves);
        stands = (
          spot_stays app st1.look r.1.look ms z (exprs_by app ms (one_expr e)) (eval_all app τ w (one_expr e)) (before_it st st1 r.1 ca ca count ci o m1 k.moves) h,
          subst (λ y. WhereValues y (ListStands app τ τ r.1.look m b w ms p key ns c r.0) ⊥) (sym is) k.stands,
        );
        nodes = sym node_there;
        keeps = kf u us refl;
      }

  -- new items
  one_fresh : (m b : ℕ) (v w : Scope) (ms : MScope) (p : Path) (ns : List Text) (c : t.Body) (x : Entry) (st : State) → Ready app σ τ b st ms v w
      → ItemRenewed app σ τ m b ms p ns c w x st (λ q. 0) (fresh_items app τ m ms ns c (item x.key x.occurrence ∷ p) x st)
  one_fresh m b v w (mscope i a l u) p ns c x st r =
      let d = grow_components m app τ in
      let y = grow_yields app d u in
      let hd = components_grow app τ m in
      let hy = yields_grow app τ m d hd u in
      let g = entries_grow app τ m d y u hd hy c (all_grow app τ m d y u hd hy c) b w i a l p ns (x ∷ []) st r.low r.scope in
      let z = fresh_items app τ m (mscope i a l u) ns c (item x.key x.occurrence ∷ p) x st in
      let after : Id → ℕ = λ q. occurs q (item_made z.spot) + (times_in q z.arm.lives + times_comment q z.arm.comment) in
      record {
        moves = recount st z.arm.state (λ q. 0) (λ q. 0) after (λ q. after q + 0) (λ q. refl) (λ q. omega arith) g.moves;
        stands = g.stands.0;
        low = g.stands.1;
        from = g.stands.2;
        comment = g.stands.3;
        inside = g.stands.4;
      }

  fresh_list : (m b : ℕ) (v w : Scope) (ms : MScope) (p : Path) (ns : List Text) (c : t.Body) (xs : List Entry) (st : State) (count : Id → ℕ) → Ready app σ τ b st ms v w → From b count
      → ItemsRenewed app σ τ m b ms p ns c w xs st count (grow_entries (fresh_items app τ m ms ns c) p xs (dropped count st))
  fresh_list m b v w (mscope i a l u) p ns c xs st count r from =
      let d = grow_components m app τ in
      let y = grow_yields app d u in
      let hd = components_grow app τ m in
      let hy = yields_grow app τ m d hd u in
      let st1 = dropped count st in
      let dm = drop_moves st count in
      let r1 = ready_goes app σ τ b st st1 (mscope i a l u) v w count (λ q. 0) r dm from in
      let g = entries_grow app τ m d y u hd hy c (all_grow app τ m d y u hd hy c) b w i a l p ns xs st1 r1.low r1.scope in
      let z = grow_entries (fresh_items app τ m (mscope i a l u) ns c) p xs st1 in
      record { moves = then_move st st1 z.1 count (λ q. 0) (λ q. times_items q z.0) dm g.moves; stands = g.stands }

  fresh_list_new : (m b : ℕ) (v w : Scope) (ms : MScope) (p : Path) (ns : List Text) (c : t.Body) (xs : List Entry) (st : State) (count : Id → ℕ) → Ready app σ τ b st ms v w → From b count
      → New st.next (λ q. times_items q (grow_entries (fresh_items app τ m ms ns c) p xs (dropped count st)).0)
  fresh_list_new m b v w (mscope i a l u) p ns c xs st count r from =
      let d = grow_components m app τ in
      let y = grow_yields app d u in
      let hd = components_grow app τ m in
      let hy = yields_grow app τ m d hd u in
      let st1 = dropped count st in
      let r1 = ready_goes app σ τ b st st1 (mscope i a l u) v w count (λ q. 0) r (drop_moves st count) from in
      let g = entries_grow app τ m d y u hd hy c (all_grow app τ m d y u hd hy c) b w i a l p ns xs st1 r1.low r1.scope in
      let z = grow_entries (fresh_items app τ m (mscope i a l u) ns c) p xs st1 in
      new_is_new app σ τ st1 z.1 (λ q. times_items q z.0) g.moves

  -- Old items

  pub handles_count : (m : ℕ) (c : t.Body) (is : Items) (q : Id) → times_handles q (handles app τ m c is) ≡ times_items q is
  handles_count m c Live.no_items q = refl
  handles_count m c (Live.item_live z o ls is) q = ap (λ n. (occurs q (item_made z) + (times_in q ls + times_comment q o)) + n) (handles_count m c is q)

  handles_stand : (m b : ℕ) (v : Scope) (ms : MScope) (p : Path) (ns : List Text) (c : t.Body) (look : Id → Option Thing) (xs : List Entry) (is : Items)
      → ItemsStand app σ τ look m b v ms p ns c xs is → EachHandle app σ τ m b ms p ns c v look (handles app τ m c is)
  handles_stand m b v ms p ns c look [] Live.no_items h = tt
  handles_stand m b v ms p ns c look (x ∷ xs) (Live.item_live z o ls is) h = (
    record { entry = x; is = record { stands = h.0; low = h.1; from = h.2; comment = h.3; inside = h.4 } },
    handles_stand m b v ms p ns c look xs is h.5,
  )
  handles_stand m b v ms p ns c look _ _ h = absurd h

  -- which old items are kept

  handles_absent : (m b : ℕ) (ms : MScope) (p : Path) (ns : List Text) (c : t.Body) (is : Items) (x : Entry) → taken x (handles app τ m c is) ≡ None → Absent app σ τ m b ms p ns c is x
  handles_absent m b ms p ns c Live.no_items x e = λ next z k ls f g h. h
  handles_absent m b ms p ns c (Live.item_live y j us is) x e = λ next z k ls f g h.
      let hs = handles app τ m c is in
      let first : Handle = record { spot = y; comment = j; lives = us; go = λ ms' q st. renew_body app τ m ms' q 0 c us st } in
      let other : same_key y z ≡ false = ap₂ (λ a n. val_same no_owners a y.key && nat_eq n y.occurrence) f g ∙ front_other app σ τ m b ms p ns c x first hs e in
      subst (λ d. WhereTrue d ((z ≡ y) × (k ≡ j) × KeepIn next us ls) (KeptBy next is z k ls)) (sym other)
      (handles_absent m b ms p ns c is x (front_none app σ τ m b ms p ns c x first hs e) next z k ls f g h)

  each_absent : (m b : ℕ) (ms : MScope) (p : Path) (ns : List Text) (c : t.Body) (is : Items) (xs : List Entry) → EachAbsent app σ τ m b ms p ns c is xs (handles app τ m c is)
  each_absent m b ms p ns c is [] = tt
  each_absent m b ms p ns c is (x ∷ xs) = (handles_absent m b ms p ns c is x, each_absent m b ms p ns c is xs)

  -- an item before the others, whose key they don't have
  kept_wider : (m b : ℕ) (v : Scope) (ms : MScope) (p : Path) (ns : List Text) (c : t.Body) (look : Id → Option Thing) (x : Entry) (y : ItemSpot) (j : Option ℕ) (us : Lives) (base : Items)
      → y.key ≡ x.key → y.occurrence ≡ x.occurrence → (xs : List Entry) (is : Items) → ItemsStand app σ τ look m b v ms p ns c xs is → Later x.key (suc x.occurrence) xs
      → AllKept app σ τ m b ms p ns c base (handles app τ m c is) → AllKept app σ τ m b ms p ns c (Live.item_live y j us base) (handles app τ m c is)
  kept_wider m b v ms p ns c look x y j us base f g [] Live.no_items h l a = tt
  kept_wider m b v ms p ns c look x y j us base f g (x' ∷ xs) (Live.item_live z k ls is) h l a = (
    (λ next ls' e. subst (λ d. WhereTrue d ((z ≡ y) × (k ≡ j) × KeepIn next us ls') (KeptBy next base z k ls')) (sym (by (same_key y z) refl)) (a.0 next ls' e)),
    kept_wider m b v ms p ns c look x y j us base f g xs is h.5 l.1 a.1,
  )
    where
      by : (d : Bool) → same_key y z ≡ d → same_key y z ≡ false
      by false e = e
      by true e =
          let key : z.key ≡ y.key = same_means ⊥ no_owners no_owners-Decides z.key y.key (both_left _ _ e) in
          let place : z.occurrence ≡ y.occurrence = (Decides-eqb z.occurrence y.occurrence).0 (both_right (val_same no_owners z.key y.key) _ e) in
          let n = l.0 (sym h.0.0 ∙ (key ∙ f)) in
          let i = h.0.1 in
          absurd (omega (arith, n, i, place, g))
  kept_wider m b v ms p ns c look x y j us base f g [] (Live.item_live z k ls is) h l a = absurd h
  kept_wider m b v ms p ns c look x y j us base f g (x' ∷ xs) Live.no_items h l a = absurd h

  all_kept : (m b : ℕ) (v : Scope) (ms : MScope) (p : Path) (ns : List Text) (c : t.Body) (look : Id → Option Thing) (xs : List Entry) (is : Items)
      → ItemsStand app σ τ look m b v ms p ns c xs is → Distinct xs → AllKept app σ τ m b ms p ns c is (handles app τ m c is)
  all_kept m b v ms p ns c look [] Live.no_items h d = tt
  all_kept m b v ms p ns c look (x ∷ xs) (Live.item_live z k ls is) h d =
      let own : same_key z z ≡ true = both_true _ _ (same_itself ⊥ no_owners no_owners-Decides z.key) ((Decides-eqb z.occurrence z.occurrence).1 refl) in (
        (λ next ls' e. subst (λ q. WhereTrue q ((z ≡ z) × (k ≡ k) × KeepIn next ls ls') (KeptBy next is z k ls')) (sym own) (refl, refl, e)),
        kept_wider m b v ms p ns c look x z k ls is h.0.0 h.0.1 xs is h.5 d.0 (all_kept m b v ms p ns c look xs is h.5 d.1),
      )
  all_kept m b v ms p ns c look [] (Live.item_live z k ls is) h d = absurd h
  all_kept m b v ms p ns c look (x ∷ xs) Live.no_items h d = absurd h

  -- A block that is yielded

  block_by : (m b : ℕ) (v w : Scope) (ms : MScope) (p : Path) (es : Exprs) (n k : Text) (made : List Id) (names : List ℕ) (ls : Lives) (st : State) (o : Option Block) → block_named n (mslots (passed_in ms)) ≡ o
      → Owned st (λ q. occurs q made + times_in q ls) → b ≤ st.next a_ref → k ≡ n
      → WhereBlock o (BlockStands app σ τ st.look m b v ms p es n made names ls) (ls ≡ Live.no_lives)
      → (F : Block → Lives × State)
      → ((c : Block) → o ≡ Some c → BlockStands app σ τ st.look m b v ms p es n made names ls c
      → RenewedIn app σ τ m (max b (top made)) (with_locals (bind c.params (eval_all app τ w es)) (writer (passed_of w))) (with_names (named_as c.params names) (mwriter (passed_in ms))) (slot n ∷ p) 0 c.body st ls (F c))
      → let r = where_block o F (ls, st) in
      Renewed app σ τ m b w ms p (t.yield es n) st (Live.yield_live k made names ls) (Live.yield_live k made names r.0, r.1)
  block_by m b v w ms p es n k made names ls st None e o le same h F body = record {
    moves = same_moves st (λ q. occurs q made + times_in q ls) o;
    stands = (same, subst (λ y. WhereBlock y (BlockStands app τ τ st.look m b w ms p es n made names ls) (ls ≡ Live.no_lives)) (sym e) h);
    nodes = refl;
    keeps = (refl, refl, refl, keep_itself st.next ls h);
  }
  block_by m b v w ms p es n k made names ls st (Some c) e o le same h F body =
      let g = body c refl h in
      let r = F c in
      let ca : Id → ℕ = λ q. occurs q made in
      let cb : Id → ℕ = λ q. times_in q ls in
      let cz : Id → ℕ = λ q. times_in q r.0 in
      let kept = idle_same app σ τ st r.1 ca cb cz o g.moves in
      record {
        moves = idle_before app σ τ st r.1 ca cb cz o g.moves;
        stands = (
          same,
          subst (λ y. WhereBlock y (BlockStands app τ τ r.1.look m b w ms p es n made names r.0) (r.0 ≡ Live.no_lives)) (sym e) (
            gives_stays app st.look r.1.look made ms _ _ kept h.0,
            h.1,
            from_after app σ τ (max b (top made)) st r.1 cb cz (made_old app σ τ b st made le (left_owned st ca cb o)) h.2 g.moves,
            g.stands,
          ),
        );
        nodes = g.nodes;
        keeps = (refl, refl, refl, g.keeps);
      }

  -- A component

  component_by : (m b : ℕ) (v w : Scope) (ms : MScope) (p : Path) (c : Text) (ps : List Part) (given : List (Text × AttrValue)) (bs : Slots) (i : Inst) (made gm : List Id) (args : Names) (k : ℕ) (ls : Lives) (st : State) (r : Lives × State)
      → Owned st (λ q. occurs q made + times_in q ls) → b ≤ st.next a_ref
      → Stands app σ τ st.look (suc m) b v ms p (t.component_stmt c ps given bs) (Live.component_live i made gm args (Some k) ls)
      → RenewedIn app σ τ m (max b (top made)) (scope (into c ∷ p) (eval_given app τ w given) [] (passed ps bs w)) (mscope i args [] (mpassed k ps bs ms)) (into c ∷ p) 0 (class_at app (into c ∷ p)).template st ls r
      → Renewed app σ τ (suc m) b w ms p (t.component_stmt c ps given bs) st (Live.component_live i made gm args (Some k) ls) (Live.component_live i made gm args (Some k) r.0, r.1)
  component_by m b v w ms p c ps given bs i made gm args k ls st r o le h g =
      let ca : Id → ℕ = λ q. occurs q made in
      let cb : Id → ℕ = λ q. times_in q ls in
      let cz : Id → ℕ = λ q. times_in q r.0 in
      let kept = idle_same app σ τ st r.1 ca cb cz o g.moves in
      record {
        moves = idle_before app σ τ st r.1 ca cb cz o g.moves;
        stands = (
          (h.0.0, kept (block_id k) (h.3.0 (block_id k) h.0.0) ∙ h.0.1),
          (h.1.0, kept (instance_id i.id) h.1.0 ∙ h.1.1),
          h.2,
          (h.3.0, h.3.1, gives_stays app st.look r.1.look gm ms _ _ (λ q e. kept q (h.3.0 q e)) h.3.2),
          cells_stay app st.look r.1.look τ τ i made kept h.4,
          h.5,
          from_after app σ τ (max b (top made)) st r.1 cb cz (made_old app σ τ b st made le (left_owned st ca cb o)) h.6 g.moves,
          g.stands,
        );
        nodes = g.nodes;
        keeps = (refl, refl, refl, refl, g.keeps);
      }

  let_by : (m b : ℕ) (v w : Scope) (ms : MScope) (p : Path) (es : Exprs) (ns : List Text) (c : t.Body) (made : List Id) (names : List ℕ) (ls : Lives) (st : State) (r : Lives × State)
      → Owned st (λ q. occurs q made + times_in q ls) → b ≤ st.next a_ref
      → Stands app σ τ st.look m b v ms p (t.let_stmt es ns c) (Live.let_live made names ls)
      → RenewedIn app σ τ m (max b (top made)) (with_locals (bind ns (eval_all app τ w es)) w) (with_names (named_as ns names) ms) (main ∷ p) 0 c st ls r
      → Renewed app σ τ m b w ms p (t.let_stmt es ns c) st (Live.let_live made names ls) (Live.let_live made names r.0, r.1)
  let_by m b v w ms p es ns c made names ls st r o le h g =
      let ca : Id → ℕ = λ q. occurs q made in
      let cb : Id → ℕ = λ q. times_in q ls in
      let cz : Id → ℕ = λ q. times_in q r.0 in
      let kept = idle_same app σ τ st r.1 ca cb cz o g.moves in
      record {
        moves = idle_before app σ τ st r.1 ca cb cz o g.moves;
        stands = (
          gives_stays app st.look r.1.look made ms _ _ kept h.0,
          h.1,
          from_after app σ τ (max b (top made)) st r.1 cb cz (made_old app σ τ b st made le (left_owned st ca cb o)) h.2 g.moves,
          g.stands,
        );
        nodes = g.nodes;
        keeps = (refl, refl, g.keeps);
      }

  -- where there are values, and where there are none
  values_there : (vs : Values Path) (P : Values Path → Type 0) → WhereValues vs P ⊥ → (us : Values Path) × P us
  values_there no_values P h = absurd h
  values_there (value v vs) P h = (value v vs, h)

  values_gone : (vs : Values Path) (Q : Type 0) → WhereValues vs (λ us. ⊥) Q → Q
  values_gone no_values Q h = h
  values_gone (value v vs) Q h = absurd h

  -- The parts of a yielded block: there is a scope that wrote it.
  pub yield_scopes : (b : ℕ) (st : State) (ms : MScope) (v w : Scope) (es : Exprs) (n : Text) (c : Block) (made : List Id) (names : Names) → block_named n (mslots (passed_in ms)) ≡ Some c
      → Ready app σ τ b st ms v w → Owned st (λ q. occurs q made)
      → Gives app st.look made ms (λ f. names_by f names) (λ ρ f. bind c.params (exprs_by app ms es ρ f)) → NamesBelow (max b (top made)) names
      → Ready app σ τ (max b (top made)) st (with_names names (mwriter (passed_in ms))) (with_locals (bind c.params (eval_all app σ v es)) (writer (passed_of v))) (with_locals (bind c.params (eval_all app τ w es)) (writer (passed_of w)))
  yield_scopes b st (mscope i a l mnothing) v w es n c made names e r o g low = absurd cc
  yield_scopes b st (mscope i a l (mpassed k ps bs inner)) v w es n c made names e r o g low = yield_ready app σ τ b st i a l k ps bs inner v w es c.params made names r o g low

  -- The induction

  abbrev pub BodyRenews : ℕ → t.Body → Lives → Type 0
  BodyRenews m c ls =
      (b : ℕ) (v w : Scope) (ms : MScope) (p : Path) (i : ℕ) (st : State) → Owned st (λ q. times_in q ls) → From b (λ q. times_in q ls)
      → StandIn app σ τ st.look m b v ms p i c ls → Ready app σ τ b st ms v w → RenewedIn app σ τ m b w ms p i c st ls (renew_body app τ m ms p i c ls st)

  module _ (element_renews : (m b : ℕ) (v w : Scope) (ms : MScope) (p : Path) (tag : Text) (ps : List Part) (c : t.Body) (n : ℕ) (made : List Id) (xs : List Live.AttrSpot) (zs : List Live.ModSpot) (ls : Lives) (st : State)
      → Owned st (λ q. times q (Live.element_live n made xs zs ls)) → From b (λ q. times q (Live.element_live n made xs zs ls))
      → Stands app σ τ st.look m b v ms p (t.element tag ps c) (Live.element_live n made xs zs ls) → Ready app σ τ b st ms v w
      → BodyRenews m c ls
      → Renewed app σ τ m b w ms p (t.element tag ps c) st (Live.element_live n made xs zs ls) (renew app τ m ms p (t.element tag ps c) (Live.element_live n made xs zs ls) st)) where
    mutual
      pub renew_is : (m b : ℕ) (v w : Scope) (ms : MScope) (p : Path) (x : t.Stmt) (l : Live) (st : State) → Owned st (λ q. times q l) → From b (λ q. times q l)
          → Stands app σ τ st.look m b v ms p x l → Ready app σ τ b st ms v w → Renewed app σ τ m b w ms p x st l (renew app τ m ms p x l st)
      renew_is m b v w ms p (t.text_stmt z) (Live.still n) st o f h r = record { moves = same_moves st (λ q. times q (Live.still n)) o; stands = h; nodes = refl; keeps = refl }
      renew_is m b v w ms p (t.comment_stmt z) (Live.still n) st o f h r = record { moves = same_moves st (λ q. times q (Live.still n)) o; stands = h; nodes = refl; keeps = refl }
      renew_is m b v w ms p (t.put e) (Live.put_live n z) st o f h r = put_by m b v w ms p e n z st o r h (is_stale st z.ref) refl
      renew_is m b v w ms p (t.element tag ps c) (Live.element_live n made xs zs ls) st o f h r =
          element_renews m b v w ms p tag ps c n made xs zs ls st o f h r (body_renews m c ls)
      renew_is m b v w ms p (t.if_stmt e unless c d) (Live.branch_live z true k ls) st o f h r =
          let ca : Id → ℕ = λ q. occurs q z.made in
          let cl : Id → ℕ = λ q. times_in q ls in
          let ck : Id → ℕ = λ q. times_comment q k in
          let cr : Id → ℕ = λ q. cl q + ck q in
          let st1 = reread z.ref st in
          let s = spot_then app σ τ b st ms v w z (one_expr e) r cr o (from_left app σ τ b ca cr f) h.0 in
          let fr = from_right app σ τ b ca cr f in
          let inside = stay_in app st.look st1.look σ τ m b v ms (main ∷ p) 0 c ls (λ q a. s.5 q (left_above _ _ a)) h.3 in
          let g = body_renews m c ls b v w ms (main ∷ p) 0 st1 (left_owned st1 cl ck s.4) (from_left app σ τ b cl ck fr) inside s.1 in
          branch_by m b w ms p e unless c d z true k ls st st1 o s.0 s.2 (takes_first unless (first_value (spot_pairs st1 z.ref))) (sym (ap (λ y. takes_first unless (first_value y)) s.3)) _ _
          (kept_arm app σ τ m b w ms (main ∷ p) c st1 k ls _ s.4 (comment_stays app st.look st1.look σ τ k ls (λ q a. s.5 q (right_above _ _ a)) h.2) g)
          (flipped app σ τ m b v w ms (otherwise ∷ p) d st1 cr s.1 fr)
          (refl, refl, keep_less st.next st1.next (next_more app σ τ st st1 ca ca s.0) ls _ g.keeps)
          (refl, new_less st.next st1.next (next_more app σ τ st st1 ca ca s.0) _ (flipped_new app σ τ m b v w ms (otherwise ∷ p) d st1 cr s.1 fr))
      renew_is m b v w ms p (t.if_stmt e unless c d) (Live.branch_live z false k ls) st o f h r =
          let ca : Id → ℕ = λ q. occurs q z.made in
          let cl : Id → ℕ = λ q. times_in q ls in
          let ck : Id → ℕ = λ q. times_comment q k in
          let cr : Id → ℕ = λ q. cl q + ck q in
          let st1 = reread z.ref st in
          let s = spot_then app σ τ b st ms v w z (one_expr e) r cr o (from_left app σ τ b ca cr f) h.0 in
          let fr = from_right app σ τ b ca cr f in
          let inside = stay_in app st.look st1.look σ τ m b v ms (otherwise ∷ p) 0 d ls (λ q a. s.5 q (left_above _ _ a)) h.3 in
          let g = body_renews m d ls b v w ms (otherwise ∷ p) 0 st1 (left_owned st1 cl ck s.4) (from_left app σ τ b cl ck fr) inside s.1 in
          branch_by m b w ms p e unless c d z false k ls st st1 o s.0 s.2 (takes_first unless (first_value (spot_pairs st1 z.ref))) (sym (ap (λ y. takes_first unless (first_value y)) s.3)) _ _
          (flipped app σ τ m b v w ms (main ∷ p) c st1 cr s.1 fr)
          (kept_arm app σ τ m b w ms (otherwise ∷ p) d st1 k ls _ s.4 (comment_stays app st.look st1.look σ τ k ls (λ q a. s.5 q (right_above _ _ a)) h.2) g)
          (refl, new_less st.next st1.next (next_more app σ τ st st1 ca ca s.0) _ (flipped_new app σ τ m b v w ms (main ∷ p) c st1 cr s.1 fr))
          (refl, refl, keep_less st.next st1.next (next_more app σ τ st st1 ca ca s.0) ls _ g.keeps)
      renew_is m b v w ms p (t.each e key ns c d) (Live.listed z is) st o f h r =
          let ca : Id → ℕ = λ q. occurs q z.made in
          let cr : Id → ℕ = λ q. times_items q is in
          let st1 = reread z.ref st in
          let s = spot_then app σ τ b st ms v w z (one_expr e) r cr o (from_left app σ τ b ca cr f) h.0 in
          let fr = from_right app σ τ b ca cr f in
          let old = values_there _ (ListStands app σ τ st.look m b v ms p key ns c is) h.1 in
          let inside = stay_items app st.look st1.look σ τ m b v ms (items ∷ p) ns c (entries key 0 [] old.0) is s.5 old.1 in
          let hs = handles app τ m c is in
          let ch : Id → ℕ = λ q. times_handles q hs in
          let same : (q : Id) → times_handles q hs ≡ times_items q is = handles_count m c is in
          let back : (q : Id) → times_items q is ≡ times_handles q hs = (λ q. sym (same q)) in
          list_by m b w ms p e key ns c d z (Live.listed z is) cr st st1 (λ q. refl) refl o s.0 s.2 (values_listed (first_value (spot_pairs st1 z.ref))) (sym (ap (λ y. values_listed (first_value y)) s.3)) _ _
          (λ us. items_count app σ τ m b ms (items ∷ p) ns c w (entries key 0 [] us) st1 ch cr (sync (fresh_items app τ m ms ns c) ns ms (items ∷ p) (entries key 0 [] us) hs st1) back
          (sync_is app σ τ m b ms (items ∷ p) ns c v w (fresh_items app τ m ms ns c) (λ x st' r'. one_fresh m b v w ms (items ∷ p) ns c x st' r') (entries key 0 [] us) hs st1
          (same_owned st1 cr ch back s.4) (λ q lt. same (ref q) ∙ fr q lt) (handles_stand m b v ms (items ∷ p) ns c st1.look (entries key 0 [] old.0) is inside) (items_right m c is b ms (items ∷ p) ns) s.1))
          (flipped app σ τ m b v w ms (otherwise ∷ p) d st1 cr s.1 fr)
          (λ x us' e'. (
            refl,
            each_item st.next st1.next (next_more app σ τ st st1 ca ca s.0) (KeptBy st1.next is) (KeptBy st.next is) (λ y j ls' g. kept_less st.next st1.next (next_more app σ τ st st1 ca ca s.0) is y j ls' g) (sync (fresh_items app τ m ms ns c) ns ms (items ∷ p) (entries key 0 [] (value x us')) hs st1).0
                (sync_keeps app σ τ m b ms (items ∷ p) ns c is v w (fresh_items app τ m ms ns c) (λ x st' r'. one_fresh m b v w ms (items ∷ p) ns c x st' r') (entries key 0 [] (value x us')) hs st1
                (same_owned st1 cr ch back s.4) (λ q lt. same (ref q) ∙ fr q lt) (handles_stand m b v ms (items ∷ p) ns c st1.look (entries key 0 [] old.0) is inside) (items_right m c is b ms (items ∷ p) ns) s.1
                (distinct key 0 [] (value x us')) (all_kept m b v ms (items ∷ p) ns c st1.look (entries key 0 [] old.0) is inside (distinct key 0 [] old.0)) (each_absent m b ms (items ∷ p) ns c is (entries key 0 [] (value x us')))),
          ))
          (refl, new_less st.next st1.next (next_more app σ τ st st1 ca ca s.0) _ (flipped_new app σ τ m b v w ms (otherwise ∷ p) d st1 cr s.1 fr))
      renew_is m b v w ms p (t.each e key ns c d) (Live.unlisted z k ls) st o f h r =
          let ca : Id → ℕ = λ q. occurs q z.made in
          let cl : Id → ℕ = λ q. times_in q ls in
          let ck : Id → ℕ = λ q. times_comment q k in
          let cr : Id → ℕ = λ q. cl q + ck q in
          let st1 = reread z.ref st in
          let s = spot_then app σ τ b st ms v w z (one_expr e) r cr o (from_left app σ τ b ca cr f) h.0 in
          let fr = from_right app σ τ b ca cr f in
          let old = values_gone _ (ElseStands app σ τ st.look m b v ms p d k ls) h.1 in
          let inside = stay_in app st.look st1.look σ τ m b v ms (otherwise ∷ p) 0 d ls (λ q a. s.5 q (left_above _ _ a)) old.1 in
          let g = body_renews m d ls b v w ms (otherwise ∷ p) 0 st1 (left_owned st1 cl ck s.4) (from_left app σ τ b cl ck fr) inside s.1 in
          list_by m b w ms p e key ns c d z (Live.unlisted z k ls) cr st st1 (λ q. refl) refl o s.0 s.2 (values_listed (first_value (spot_pairs st1 z.ref))) (sym (ap (λ y. values_listed (first_value y)) s.3)) _ _
          (λ us. fresh_list m b v w ms (items ∷ p) ns c (entries key 0 [] us) st1 cr s.1 fr)
          (kept_arm app σ τ m b w ms (otherwise ∷ p) d st1 k ls _ s.4 (comment_stays app st.look st1.look σ τ k ls (λ q a. s.5 q (right_above _ _ a)) old.0) g)
          (λ x us' e'. (refl, new_less st.next st1.next (next_more app σ τ st st1 ca ca s.0) _ (fresh_list_new m b v w ms (items ∷ p) ns c (entries key 0 [] (value x us')) st1 cr s.1 fr)))
          (refl, refl, keep_less st.next st1.next (next_more app σ τ st st1 ca ca s.0) ls _ g.keeps)
      renew_is m b v w ms p (t.let_stmt es ns c) (Live.let_live made names ls) st o f h r =
          let ca : Id → ℕ = λ q. occurs q made in
          let cb : Id → ℕ = λ q. times_in q ls in
          let r' = let_ready app σ τ b st ms v w es ns made (named_as ns names) r (left_owned st ca cb o) h.0 h.1 in
          let_by m b v w ms p es ns c made names ls st _ o r.low h (body_renews m c ls _ _ _ (with_names (named_as ns names) ms) (main ∷ p) 0 st (right_owned st ca cb o) h.2 h.3 r')
      renew_is (suc m) b v w ms p (t.component_stmt c ps given bs) (Live.component_live i made gm args (Some k) ls) st o f h r =
          let ca : Id → ℕ = λ q. occurs q made in
          let cb : Id → ℕ = λ q. times_in q ls in
          let r' = component_ready app σ τ b st ms v w (into c ∷ p) ps given bs i made gm args k r (left_owned st ca cb o) h.2 h.3.2 h.4 h.5 in
          component_by m b v w ms p c ps given bs i made gm args k ls st _ o r.low h
          (body_renews m (class_at app (into c ∷ p)).template ls _ _ _ (mscope i args [] (mpassed k ps bs ms)) (into c ∷ p) 0 st (right_owned st ca cb o) h.6 h.7 r')
      renew_is zero b v w ms p (t.component_stmt c ps given bs) (Live.deep_live q) st o f h r = record { moves = same_moves st (λ q'. 0) o; stands = h; nodes = refl; keeps = refl }
      renew_is m b v w ms p (t.yield es n) (Live.yield_live k made names ls) st o f h r =
          let ca : Id → ℕ = λ q. occurs q made in
          let cb : Id → ℕ = λ q. times_in q ls in
          block_by m b v w ms p es n k made names ls st (block_named n (mslots (passed_in ms))) refl o r.low h.0 h.1
          (λ c. renew_body app τ m (with_names (named_as c.params names) (mwriter (passed_in ms))) (slot n ∷ p) 0 c.body ls st)
          (λ c e g. body_renews m c.body ls _ _ _ (with_names (named_as c.params names) (mwriter (passed_in ms))) (slot n ∷ p) 0 st (right_owned st ca cb o) g.2 g.3
          (yield_scopes b st ms v w es n c made (named_as c.params names) e r (left_owned st ca cb o) g.0 g.1))
      renew_is m b v w ms p _ _ st o f h r = absurd h

      pub body_renews : (m : ℕ) (c : t.Body) (ls : Lives) → BodyRenews m c ls
      body_renews m t.end Live.no_lives b v w ms p i st o f h r = record { moves = same_moves st (λ q. 0) o; stands = tt; nodes = refl; keeps = tt }
      body_renews m (t.stmt x c) (Live.live_and l ls) b v w ms p i st o f h r =
          let ca : Id → ℕ = λ q. times q l in
          let cb : Id → ℕ = λ q. times_in q ls in
          let g = renew_is m b v w ms (at i ∷ p) x l st (left_owned st ca cb o) (from_left app σ τ b ca cb f) h.0 r in
          let y = renew app τ m ms (at i ∷ p) x l st in
          let ca' : Id → ℕ = λ q. times q y.0 in
          let inside = stay_in app st.look y.1.look σ τ m b v ms p (suc i) c ls (beside st y.1 ca ca' cb o g.moves) h.1 in
          let r1 = ready_goes app σ τ b st y.1 ms v w ca ca' r g.moves (from_left app σ τ b ca cb f) in
          let k = body_renews m c ls b v w ms p (suc i) y.1 (next_owned st y.1 ca ca' cb o g.moves) (from_right app σ τ b ca cb f) inside r1 in
          let z = renew_body app τ m ms p (suc i) c ls y.1 in
          let cb' : Id → ℕ = λ q. times_in q z.0 in
          record {
            moves = both_move st y.1 z.1 ca ca' cb cb' o g.moves k.moves;
            stands = (stay app y.1.look z.1.look τ τ m b w ms (at i ∷ p) x y.0 (before_it st y.1 z.1 ca ca' cb cb' o g.moves k.moves) g.stands, k.stands);
            nodes = ap₂ (λ n n'. n || n') g.nodes k.nodes;
            keeps = (g.keeps, keep_less st.next y.1.next (next_more app σ τ st y.1 ca ca' g.moves) ls z.0 k.keeps);
          }
      body_renews m _ _ b v w ms p i st o f h r = absurd h

      items_right : (m : ℕ) (c : t.Body) (is : Items) (b : ℕ) (ms : MScope) (p : Path) (ns : List Text) → AllRight app σ τ m b ms p ns c (handles app τ m c is)
      items_right m c Live.no_items b ms p ns = tt
      items_right m c (Live.item_live z k ls is) b ms p ns =
          ((λ b' v w ms' q st o f h r. body_renews m c ls b' v w ms' q 0 st o f h r), items_right m c is b ms p ns)
