-- What is appended stands for what is rendered.
use Rattle.std.proofs.Common.{◌≡◌, ℕ, suc, max, ◌+◌, ◌≤◌, Bool, true, false, List, [], ◌∷◌, ◌++◌, Option, Some, None, cond, refl, sym, ◌∙◌, ap, ap₂, subst, arith}
use Rattle.std.specs.Prelude.{if◌then◌else◌}
use Rattle.gl_base.specs.Texts.{Text}
use Rattle.gl_value.specs.Value.{Values, no_values, value, text_of, count_value}
use Rattle.gl_ast.specs.Template.{Plain, Exprs, AttrValue, Slots, Part}
use Rattle.gl_ast.specs.Template as t
use Rattle.gl_meaning.specs.App.{App}
use Rattle.gl_meaning.specs.Path.{at, main, otherwise, items, item, into, Path}
use Rattle.gl_meaning.specs.Scope.{Scope, with_locals, bind, item_value, item_index}
use Rattle.gl_meaning.specs.Eval.{Store, takes_first, eval_all}
use Rattle.gl_meaning.specs.Render.{Entry, entries, entry_pairs, values_listed}
use Rattle.gl_plain.specs.Ids.{a_ref, a_node, a_block, Id, ref, node, block_id, hit, occurs}
use Rattle.gl_plain.specs.State.{any_of, source_form, Names, Inst, MScope, mscope, MPassed, mpassed, text_content, comment_content, content, block_row, row, Thing, State, thing_pair, pair_of, make, refs_of, named_as, names_by}
use Rattle.gl_plain.specs.Binding.{made_row, bind_exprs, bind_args, bind_params, Placed, place, first_value}
use Rattle.gl_plain.specs.Live.{ItemSpot, item_made, Live, Lives, Items, times, times_in, times_items, times_comment, have_node, item_names}
use Rattle.gl_plain.specs.Parts.{mwritten_parts}
use Rattle.gl_plain.specs.Tags.{bind_written}
use Rattle.gl_plain.specs.Grow.{made_node, Arm, or_comment, item_spot, grow_item, grow_entries, branch_from, items_or_else, GrowComponents, GrowYields, grow_stmt, grow_body}
use Rattle.gl_plain.specs.Stands.{below, top, NamesBelow, From, Spotted, exprs_by, one_expr, WhereValues, CommentStands, ItemStands, Stands, StandIn, ItemsStand, ListStands, ElseStands, LetStands, Gives}
use Rattle.gl_plain.specs.InScope.{InScope}
use Rattle.gl_plain.proofs.Moves.{Moves, both_new, before_new, recount, no_move, make_moves, make_at, hit_self}
use Rattle.gl_plain.proofs.Pairs.{pair_law, names_below, obeys_pairs}
use Rattle.gl_plain.proofs.Binding.{both_made, row_moves, top_append, in_top}
use Rattle.gl_plain.proofs.Bound.{made_below, bound_are, params_are}
use Rattle.gl_plain.proofs.Stay.{stay, stay_in, gives_stays, spot_stays, comment_stays, item_stays, left_above, right_above}
use Rattle.gl_plain.proofs.Placing.{scope_grows, local_scope, params_bound, PlacedIs, place_exprs, named_back}

module _ (app : App) (τ : Store) where
  pub record Grown (m b : ℕ) (w : Scope) (ms : MScope) (p : Path) (x : t.Stmt) (st : State) (r : Live × State) : Type 0 where
    pub moves : Moves st r.1 (λ q. 0) (λ q. times q r.0)
    pub stands : Stands app τ τ r.1.look m b w ms p x r.0

  pub record GrownIn (m b : ℕ) (w : Scope) (ms : MScope) (p : Path) (i : ℕ) (c : t.Body) (st : State) (r : Lives × State) : Type 0 where
    pub moves : Moves st r.1 (λ q. 0) (λ q. times_in q r.0)
    pub stands : StandIn app τ τ r.1.look m b w ms p i c r.0

  pub record ItemsGrown (m b : ℕ) (w : Scope) (ms : MScope) (p : Path) (ns : List Text) (c : t.Body) (xs : List Entry) (st : State) (r : Items × State) : Type 0 where
    pub moves : Moves st r.1 (λ q. 0) (λ q. times_items q r.0)
    pub stands : ItemsStand app τ τ r.1.look m b w ms p ns c xs r.0

  pub record ArmGrown (m b : ℕ) (w : Scope) (ms : MScope) (p : Path) (c : t.Body) (st : State) (a : Arm) : Type 0 where
    pub moves : Moves st a.state (λ q. 0) (λ q. times_in q a.lives + times_comment q a.comment)
    pub comment : CommentStands app τ τ a.state.look a.comment a.lives
    pub stands : StandIn app τ τ a.state.look m b w ms p 0 c a.lives

  pub arm_grows : (m b : ℕ) (w : Scope) (ms : MScope) (p : Path) (c : t.Body) (st : State) (r : Lives × State) → GrownIn m b w ms p 0 c st r → ArmGrown m b w ms p c st (or_comment r)
  arm_grows m b w ms p c st r g = by (have_node r.0) refl where
    by : (v : Bool) → have_node r.0 ≡ v
        → ArmGrown m b w ms p c st (if v then record { comment = None; lives = r.0; state = r.1 } else record { comment = Some (r.1.next a_node); lives = r.0; state = made_node (comment_content []) r.1 })
    by true e = record {
      moves = recount st r.1 (λ q. 0) (λ q. 0) (λ q. times_in q r.0 + 0) (λ q. times_in q r.0) (λ q. refl) (λ q. omega arith) g.moves;
      comment = e;
      stands = g.stands;
    }
    by false e =
        let n = make_moves a_node (content (comment_content [])) r.1 tt in
        let st' = made_node (comment_content []) r.1 in
        record {
          moves = both_new st r.1 st' (λ q. times_in q r.0) (λ q. hit q (node (r.1.next a_node))) g.moves n;
          comment = (e, make_at a_node (content (comment_content [])) r.1);
          stands = stay_in app r.1.look st'.look τ τ m b w ms p 0 c r.0 (before_new st r.1 st' (λ q. times_in q r.0) (λ q. hit q (node (r.1.next a_node))) g.moves n) g.stands;
        }

  -- new parts have no numbers from before
  pub new_from : (b : ℕ) (st st' : State) (c : Id → ℕ) → b ≤ st.next a_ref → Moves st st' (λ q. 0) c → From b c
  new_from b st st' c le m q lt = let h = m.fewer (ref q) (omega (arith, lt, le)) in omega (arith, h)

  forget : (st st' : State) (c : Id → ℕ) → Moves st st' (λ q. 0) c → Moves st st' (λ q. 0) (λ q. 0)
  forget st st' c m = record { kept = m.kept; more = m.more; fewer = λ q lt. omega arith; once = λ q. omega arith; old = λ q le. refl; still = m.still; gone = λ q lt w z. absurd (omega (arith, w)); lower = m.lower }

  pub still_low : (b : ℕ) (st st' : State) (c : Id → ℕ) → b ≤ st.next a_ref → Moves st st' (λ q. 0) c → b ≤ st'.next a_ref
  still_low b st st' c le m = let h = m.more (ref 0) in omega (arith, h, le)

  -- how a component is called, and a block
  abbrev pub component_call : GrowComponents → MScope → Path → Text → List Part → List (Text × AttrValue) → Slots → State → Live × State
  component_call d ms p c ps given bs st =
      let a = bind_args app ms given st in
      let z = bind_written app (mwritten_parts ms ps) a.state in
      let k = z.state.next a_block in
      d (into c ∷ p) (block_id k ∷ (a.made ++ z.made)) a.names (Some k) (mpassed k ps bs ms) (make a_block block_row z.state)

  abbrev pub yield_call : GrowYields → MScope → Path → Exprs → Text → State → Live × State
  yield_call y ms p es n st = let x = bind_exprs app ms es st in y n x.made x.ids p x.state

  abbrev pub ComponentsGrow : ℕ → GrowComponents → Type 0
  ComponentsGrow m d =
      (b : ℕ) (w : Scope) (ms : MScope) (p : Path) (c : Text) (ps : List Part) (given : List (Text × AttrValue)) (bs : Slots) (st : State) → b ≤ st.next a_ref → InScope app τ b st.look ms w
      → Grown m b w ms p (t.component_stmt c ps given bs) st (component_call d ms p c ps given bs st)

  abbrev pub YieldsGrow : ℕ → MPassed → GrowYields → Type 0
  YieldsGrow m v y =
      (b : ℕ) (w : Scope) (i : Inst) (a l : Names) (p : Path) (es : Exprs) (n : Text) (st : State) → b ≤ st.next a_ref → InScope app τ b st.look (mscope i a l v) w
      → Grown m b w (mscope i a l v) p (t.yield es n) st (yield_call y (mscope i a l v) p es n st)

  -- a position and then what stands on it
  after_spot : (b : ℕ) (ms : MScope) (es : Exprs) (w : Scope) (st st' : State) (x : Placed) (c : Id → ℕ) → PlacedIs app b ms st x (exprs_by app ms es) (eval_all app τ w es) → Moves x.state st' (λ q. 0) c
      → Moves st st' (λ q. 0) (λ q. occurs q x.spot.made + c q) × Spotted app st'.look ms x.spot (exprs_by app ms es) (eval_all app τ w es)
  after_spot b ms es w st st' x c h m = (
    both_new st x.state st' (λ q. occurs q x.spot.made) c h.moves m,
    spot_stays app x.state.look st'.look ms x.spot (exprs_by app ms es) (eval_all app τ w es) (before_new st x.state st' (λ q. occurs q x.spot.made) c h.moves m) h.spotted,
  )

  -- Items

  -- the references of an item's value and index
  item_is : (b : ℕ) (q : Path) (ms : MScope) (ns : List Text) (x : Entry) (st : State) → b ≤ st.next a_ref
      → let z = item_spot ns q x st in Moves st z.1 (λ r. 0) (λ r. occurs r (item_made z.0)) × ItemStands app τ τ z.1.look q ms ns x z.0 × NamesBelow (max b (top (item_made z.0))) (item_names ns z.0)
  item_is b q ms ns x st le =
      let v = st.next a_ref in
      let fv = source_form (item_value q) x.value in
      let fi = source_form (item_index q) (count_value x.index) in
      let st1 = made_row fv st in
      let i = st1.next a_ref in
      let st2 = made_row fi st1 in
      let y = bind_params ns (v ∷ i ∷ []) st2 in
      let back : named_as ns (refs_of y.names) ≡ y.names = named_back ns (v ∷ i ∷ []) st2 in
      let mv = row_moves fv st tt in
      let mi = row_moves fi st1 tt in
      let m2 = both_made st st1 st2 (ref v ∷ []) (ref i ∷ []) mv mi in
      let made2 = ref v ∷ ref i ∷ [] in
      let bv = in_top v made2 (left_above _ _ (hit_self (ref v))) in
      let bi = in_top i made2 (right_above _ _ (left_above _ _ (hit_self (ref i)))) in
      let b1 = max b (top made2) in
      let le1 = made_below b st st2 made2 le m2 in
      let k = params_are app b1 ms ns (v ∷ i ∷ []) st2 le1 (omega (arith, bv), (omega (arith, bi), tt)) in
      let t = top_append made2 y.made in
      let stays = before_new st st2 y.state (λ r. occurs r made2) (λ r. occurs r y.made) m2 k.moves in
      let at_v = before_new st st1 st2 (λ r. occurs r (ref v ∷ [])) (λ r. occurs r (ref i ∷ [])) mv mi (ref v) (left_above _ _ (hit_self (ref v))) ∙ make_at a_ref (row (record { form = fv; last = any_of [] })) st in (
        both_made st st2 y.state made2 y.made m2 k.moves,
        (
          refl,
          refl,
          stays (ref v) (left_above _ _ (hit_self (ref v))) ∙ at_v,
          stays (ref i) (right_above _ _ (left_above _ _ (hit_self (ref i)))) ∙ make_at a_ref (row (record { form = fi; last = any_of [] })) st1,
          subst (λ (e : Names). Gives app y.state.look y.made ms (λ f. names_by f e) (λ ρ f. bind ns (f v ∷ f i ∷ []))) (sym back) k.gives,
        ),
        names_below _ _ (omega (arith, t)) (named_as ns (refs_of y.names)) (subst (NamesBelow _) (sym back) k.low),
      )

  -- the scope in an item
  pub item_scope : (b : ℕ) (q : Path) (i : Inst) (a l : Names) (v : MPassed) (w : Scope) (ns : List Text) (x : Entry) (z : ItemSpot) (look : Id → Option Thing)
      → ItemStands app τ τ look q (mscope i a l v) ns x z → NamesBelow (max b (top (item_made z))) (item_names ns z) → InScope app τ b look (mscope i a l v) w
      → InScope app τ (max b (top (item_made z))) look (mscope i a (l ++ item_names ns z) v) (with_locals (bind ns (entry_pairs q x)) w)
  item_scope b q i a l v w ns x z look h low s =
      local_scope app τ b (max b (top (item_made z))) look i a l v w (item_names ns z) (bind ns (entry_pairs q x)) (omega arith) low
      (h.4 (pair_of look) τ (obeys_pairs look z.more) s.cells
      ∙ ap₂ (λ y u. bind ns (y ∷ u ∷ []))
      (pair_law look z.value ∙ ap (thing_pair (below z.value (pair_of look))) h.2)
      (pair_law look z.index ∙ ap (thing_pair (below z.index (pair_of look))) h.3)) s

  module _ (m : ℕ) (d : GrowComponents) (y : GrowYields) (v : MPassed) (hd : ComponentsGrow m d) (hy : YieldsGrow m v y) where
    abbrev BodyGrows : t.Body → Type 0
    BodyGrows c =
        (b : ℕ) (w : Scope) (i : Inst) (a l : Names) (p : Path) (j : ℕ) (st : State) → b ≤ st.next a_ref → InScope app τ b st.look (mscope i a l v) w
        → GrownIn m b w (mscope i a l v) p j c st (grow_body app d y (mscope i a l v) p j c st)

    pub entries_grow : (c : t.Body) → BodyGrows c → (b : ℕ) (w : Scope) (i : Inst) (a l : Names) (p : Path) (ns : List Text) (xs : List Entry) (st : State)
        → b ≤ st.next a_ref → InScope app τ b st.look (mscope i a l v) w
        → ItemsGrown m b w (mscope i a l v) p ns c xs st (grow_entries (grow_item (λ ms' q st'. grow_body app d y ms' q 0 c st') (mscope i a l v) ns) p xs st)
    entries_grow c body b w i a l p ns [] st le s = record { moves = no_move st; stands = tt }
    entries_grow c body b w i a l p ns (x ∷ xs) st le s =
        let q = item x.key x.occurrence ∷ p in
        let ms = mscope i a l v in
        let one = grow_item (λ ms' q' st'. grow_body app d y ms' q' 0 c st') ms ns in
        let z = item_spot ns q x st in
        let zs = item_is b q ms ns x st le in
        let b' = max b (top (item_made z.0)) in
        let le1 = made_below b st z.1 (item_made z.0) le zs.0 in
        let s1 = scope_grows app τ b st z.1 ms w (λ r. occurs r (item_made z.0)) le zs.0 s in
        let s2 = item_scope b q i a l v w ns x z.0 z.1.look zs.1 zs.2 s1 in
        let g = body b' (with_locals (bind ns (entry_pairs q x)) w) i a (l ++ item_names ns z.0) q 0 z.1 le1 s2 in
        let r = grow_body app d y (mscope i a (l ++ item_names ns z.0) v) q 0 c z.1 in
        let arm = or_comment r in
        let ag = arm_grows m b' (with_locals (bind ns (entry_pairs q x)) w) (mscope i a (l ++ item_names ns z.0) v) q c z.1 r g in
        let count : Id → ℕ = λ n. times_in n arm.lives + times_comment n arm.comment in
        let m1 = both_new st z.1 arm.state (λ n. occurs n (item_made z.0)) count zs.0 ag.moves in
        let le2 = still_low b st arm.state (λ n. occurs n (item_made z.0) + count n) le m1 in
        let s3 = scope_grows app τ b st arm.state ms w (λ n. occurs n (item_made z.0) + count n) le m1 s in
        let rest = grow_entries one p xs arm.state in
        let h = entries_grow c body b w i a l p ns xs arm.state le2 s3 in
        let same_z = before_new st z.1 arm.state (λ n. occurs n (item_made z.0)) count zs.0 ag.moves in
        let same = before_new st arm.state rest.1 (λ n. occurs n (item_made z.0) + count n) (λ n. times_items n rest.0) m1 h.moves in
        record {
          moves = both_new st arm.state rest.1 (λ n. occurs n (item_made z.0) + count n) (λ n. times_items n rest.0) m1 h.moves;
          stands = (
            item_stays app arm.state.look rest.1.look τ τ q ms ns x z.0 (λ n u. same n (left_above _ _ u)) (item_stays app z.1.look arm.state.look τ τ q ms ns x z.0 same_z zs.1),
            zs.2,
            (λ n lt. let k = new_from b' z.1 arm.state count le1 ag.moves n lt in omega (arith, k)),
            comment_stays app arm.state.look rest.1.look τ τ arm.comment arm.lives (λ n u. same n (right_above _ _ (right_above _ _ u))) ag.comment,
            stay_in app arm.state.look rest.1.look τ τ m b' _ _ q 0 c arm.lives (λ n u. same n (right_above _ _ (left_above _ _ u))) ag.stands,
            h.stands,
          );
        }

    module _ (b : ℕ) (w : Scope) (i : Inst) (a l : Names) (p : Path) (st : State) (le : b ≤ st.next a_ref) (s : InScope app τ b st.look (mscope i a l v) w) where
      abbrev ms : MScope
      ms = mscope i a l v

      put_grows : (e : t.Expr) → Grown m b w ms p (t.put e) st (grow_stmt app d y ms p (t.put e) st)
      put_grows e =
          let x = place (bind_exprs app ms (one_expr e) st) in
          let h = place_exprs app τ b ms w (one_expr e) st le s in
          let n = x.state.next a_node in
          let st' = made_node (text_content (text_of (first_value x.pairs))) x.state in
          let k = after_spot b ms (one_expr e) w st st' x (λ q. hit q (node n)) h (make_moves a_node (content (text_content (text_of (first_value x.pairs)))) x.state tt) in
          record {
            moves = recount st st' (λ q. 0) (λ q. 0) (λ q. hit q (node n) + occurs q x.spot.made) (λ q. occurs q x.spot.made + hit q (node n)) (λ q. refl) (λ q. omega arith) k.0;
            stands = (
              make_at a_node (content (text_content (text_of (first_value x.pairs)))) x.state ∙ ap (λ vs. Some (content (text_content (text_of (first_value vs))))) h.shows,
              k.1,
            );
          }

      if_by : (e : t.Expr) (unless : Bool) (c c' : t.Body) (u : Bool) → let x = place (bind_exprs app ms (one_expr e) st) in
          takes_first unless (first_value x.pairs) ≡ u → (f g : Arm) → ArmGrown m b w ms (main ∷ p) c x.state f → ArmGrown m b w ms (otherwise ∷ p) c' x.state g
          → Grown m b w ms p (t.if_stmt e unless c c') st (cond {A = Live × State} u (branch_from x.spot true f) (branch_from x.spot false g))
      if_by e unless c c' true is f g hf hg =
          let x = place (bind_exprs app ms (one_expr e) st) in
          let h = place_exprs app τ b ms w (one_expr e) st le s in
          let k = after_spot b ms (one_expr e) w st f.state x (λ q. times_in q f.lives + times_comment q f.comment) h hf.moves in
          record { moves = k.0; stands = (k.1, sym (ap (λ vs. takes_first unless (first_value vs)) h.shows) ∙ is, hf.comment, hf.stands) }
      if_by e unless c c' false is f g hf hg =
          let x = place (bind_exprs app ms (one_expr e) st) in
          let h = place_exprs app τ b ms w (one_expr e) st le s in
          let k = after_spot b ms (one_expr e) w st g.state x (λ q. times_in q g.lives + times_comment q g.comment) h hg.moves in
          record { moves = k.0; stands = (k.1, sym (ap (λ vs. takes_first unless (first_value vs)) h.shows) ∙ is, hg.comment, hg.stands) }

      each_by : (e : t.Expr) (key : Text) (ns : List Text) (c c' : t.Body) (vs : Values Path) → let x = place (bind_exprs app ms (one_expr e) st) in
          values_listed (first_value x.pairs) ≡ vs → (F : Values Path → Items × State) (g : Arm)
          → ((us : Values Path) → ItemsGrown m b w ms (items ∷ p) ns c (entries key 0 [] us) x.state (F us)) → ArmGrown m b w ms (otherwise ∷ p) c' x.state g
          → Grown m b w ms p (t.each e key ns c c') st (items_or_else x.spot vs F g)
      each_by e key ns c c' no_values is F g hf hg =
          let x = place (bind_exprs app ms (one_expr e) st) in
          let h = place_exprs app τ b ms w (one_expr e) st le s in
          let k = after_spot b ms (one_expr e) w st g.state x (λ q. times_in q g.lives + times_comment q g.comment) h hg.moves in
          let now = sym (ap (λ us. values_listed (first_value us)) h.shows) ∙ is in
          record {
            moves = k.0;
            stands = (k.1, subst (λ us. WhereValues us (λ z. ⊥) (ElseStands app τ τ g.state.look m b w ms p c' g.comment g.lives)) (sym now) (hg.comment, hg.stands));
          }
      each_by e key ns c c' (value u us) is F g hf hg =
          let x = place (bind_exprs app ms (one_expr e) st) in
          let h = place_exprs app τ b ms w (one_expr e) st le s in
          let r = F (value u us) in
          let hr = hf (value u us) in
          let k = after_spot b ms (one_expr e) w st r.1 x (λ q. times_items q r.0) h hr.moves in
          let now = sym (ap (λ z. values_listed (first_value z)) h.shows) ∙ is in
          record {
            moves = k.0;
            stands = (k.1, subst (λ z. WhereValues z (ListStands app τ τ r.1.look m b w ms p key ns c r.0) ⊥) (sym now) hr.stands);
          }

      -- parameters of a block or of `let`, and its body
      let_grows : (es : Exprs) (ns : List Text) (c : t.Body) → BodyGrows c → Grown m b w ms p (t.let_stmt es ns c) st (grow_stmt app d y ms p (t.let_stmt es ns c) st)
      let_grows es ns c body =
          let x = bind_exprs app ms es st in
          let k = params_bound app b ms st x (exprs_by app ms es) ns le (bound_are app b ms s.low es st le) in
          let z = bind_params ns x.ids x.state in
          let made = x.made ++ z.made in
          let b' = max b (top made) in
          let le1 = made_below b st z.state made le k.moves in
          let s1 = scope_grows app τ b st z.state ms w (λ q. occurs q made) le k.moves s in
          let given = k.gives (pair_of z.state.look) τ (obeys_pairs z.state.look made) s1.cells ∙ ap (λ u. bind ns (eval_all app τ u es)) s1.is in
          let s2 = local_scope app τ b b' z.state.look i a l v w z.names (bind ns (eval_all app τ w es)) (omega arith) k.low given s1 in
          let g = body b' (with_locals (bind ns (eval_all app τ w es)) w) i a (l ++ z.names) (main ∷ p) 0 z.state le1 s2 in
          let r = grow_body app d y (mscope i a (l ++ z.names) v) (main ∷ p) 0 c z.state in
          record {
            moves = both_new st z.state r.1 (λ q. occurs q made) (λ q. times_in q r.0) k.moves g.moves;
            stands = subst (λ (e : Names). LetStands app τ τ r.1.look m b w ms p es ns c made e r.0) (sym (named_back ns x.ids x.state)) (
              gives_stays app z.state.look r.1.look made ms _ _ (before_new st z.state r.1 (λ q. occurs q made) (λ q. times_in q r.0) k.moves g.moves) k.gives,
              k.low,
              new_from b' z.state r.1 (λ q. times_in q r.0) le1 g.moves,
              g.stands,
            );
          }

    module _ (element_grows : (tag : Text) (ps : List Part) (c : t.Body) → BodyGrows c → (b : ℕ) (w : Scope) (i : Inst) (a l : Names) (p : Path) (st : State)
        → b ≤ st.next a_ref → InScope app τ b st.look (mscope i a l v) w
        → Grown m b w (mscope i a l v) p (t.element tag ps c) st (grow_stmt app d y (mscope i a l v) p (t.element tag ps c) st)) where
      mutual
        pub stmt_grows : (x : t.Stmt) (b : ℕ) (w : Scope) (i : Inst) (a l : Names) (p : Path) (st : State) → b ≤ st.next a_ref → InScope app τ b st.look (mscope i a l v) w
            → Grown m b w (mscope i a l v) p x st (grow_stmt app d y (mscope i a l v) p x st)
        stmt_grows (t.text_stmt z) b w i a l p st le s = record { moves = make_moves a_node (content (text_content z)) st tt; stands = make_at a_node (content (text_content z)) st }
        stmt_grows (t.comment_stmt z) b w i a l p st le s = record { moves = make_moves a_node (content (comment_content z)) st tt; stands = make_at a_node (content (comment_content z)) st }
        stmt_grows (t.put e) b w i a l p st le s = put_grows b w i a l p st le s e
        stmt_grows (t.element tag ps c) b w i a l p st le s = element_grows tag ps c (body_grows c) b w i a l p st le s
        stmt_grows (t.component_stmt c ps given bs) b w i a l p st le s = hd b w (mscope i a l v) p c ps given bs st le s
        stmt_grows (t.if_stmt e unless c c') b w i a l p st le s =
            let x = place (bind_exprs app (mscope i a l v) (one_expr e) st) in
            let h = place_exprs app τ b (mscope i a l v) w (one_expr e) st le s in
            let le1 = still_low b st x.state (λ q. occurs q x.spot.made) le h.moves in
            let s1 = scope_grows app τ b st x.state (mscope i a l v) w (λ q. occurs q x.spot.made) le h.moves s in
            if_by b w i a l p st le s e unless c c' (takes_first unless (first_value x.pairs)) refl
            (or_comment (grow_body app d y (mscope i a l v) (main ∷ p) 0 c x.state)) (or_comment (grow_body app d y (mscope i a l v) (otherwise ∷ p) 0 c' x.state))
            (arm_grows m b w (mscope i a l v) (main ∷ p) c x.state _ (body_grows c b w i a l (main ∷ p) 0 x.state le1 s1))
            (arm_grows m b w (mscope i a l v) (otherwise ∷ p) c' x.state _ (body_grows c' b w i a l (otherwise ∷ p) 0 x.state le1 s1))
        stmt_grows (t.each e key ns c c') b w i a l p st le s =
            let x = place (bind_exprs app (mscope i a l v) (one_expr e) st) in
            let h = place_exprs app τ b (mscope i a l v) w (one_expr e) st le s in
            let le1 = still_low b st x.state (λ q. occurs q x.spot.made) le h.moves in
            let s1 = scope_grows app τ b st x.state (mscope i a l v) w (λ q. occurs q x.spot.made) le h.moves s in
            each_by b w i a l p st le s e key ns c c' (values_listed (first_value x.pairs)) refl
            (λ us. grow_entries (grow_item (λ ms' q st'. grow_body app d y ms' q 0 c st') (mscope i a l v) ns) (items ∷ p) (entries key 0 [] us) x.state)
            (or_comment (grow_body app d y (mscope i a l v) (otherwise ∷ p) 0 c' x.state))
            (λ us. entries_grow c (body_grows c) b w i a l (items ∷ p) ns (entries key 0 [] us) x.state le1 s1)
            (arm_grows m b w (mscope i a l v) (otherwise ∷ p) c' x.state _ (body_grows c' b w i a l (otherwise ∷ p) 0 x.state le1 s1))
        stmt_grows (t.let_stmt es ns c) b w i a l p st le s = let_grows b w i a l p st le s es ns c (body_grows c)
        stmt_grows (t.yield es n) b w i a l p st le s = hy b w i a l p es n st le s

        pub body_grows : (c : t.Body) → BodyGrows c
        body_grows t.end b w i a l p j st le s = record { moves = no_move st; stands = tt }
        body_grows (t.stmt x c) b w i a l p j st le s =
            let g = stmt_grows x b w i a l (at j ∷ p) st le s in
            let r = grow_stmt app d y (mscope i a l v) (at j ∷ p) x st in
            let le1 = still_low b st r.1 (λ q. times q r.0) le g.moves in
            let s1 = scope_grows app τ b st r.1 (mscope i a l v) w (λ q. times q r.0) le g.moves s in
            let h = body_grows c b w i a l p (suc j) r.1 le1 s1 in
            let z = grow_body app d y (mscope i a l v) p (suc j) c r.1 in
            record {
              moves = both_new st r.1 z.1 (λ q. times q r.0) (λ q. times_in q z.0) g.moves h.moves;
              stands = (stay app r.1.look z.1.look τ τ m b w (mscope i a l v) (at j ∷ p) x r.0 (before_new st r.1 z.1 (λ q. times q r.0) (λ q. times_in q z.0) g.moves h.moves) g.stands, h.stands);
            }
