-- What one step of an update gives, and the scopes in it.
use Rattle.std.proofs.Common.{◌≡◌, ℕ, max, ◌+◌, ◌<◌, ◌≤◌, List, [], Option, Some, None, ◌∙◌, ap, ap₂, arith}
use Rattle.gl_base.specs.Texts.{Text}
use Rattle.gl_ast.specs.Template.{Exprs, AttrValue, Part, Slots}
use Rattle.gl_ast.specs.Template as t
use Rattle.gl_meaning.specs.App.{App}
use Rattle.gl_meaning.specs.Path.{Path}
use Rattle.gl_meaning.specs.Scope.{cell, Scope, scope, passed, passed_of, with_locals, bind}
use Rattle.gl_meaning.specs.Eval.{Store, eval_all, eval_given}
use Rattle.gl_meaning.proofs.Frame.{KeepsScope, keeps_scope, names_none, keeps_passed, eval_all_keeps}
use Rattle.gl_plain.specs.Ids.{a_ref, Id, ref, node, hit, occurs}
use Rattle.gl_plain.specs.State.{Names, names_by, Inst, MScope, mscope, mpassed, scope_by, writer, with_names, State, pair_of, dropped}
use Rattle.gl_plain.specs.Binding.{Spot}
use Rattle.gl_plain.specs.Live.{Live, Lives, times, times_in, times_comment, has_node, have_node}
use Rattle.gl_plain.specs.Grow.{Arm, or_comment, grow_components, grow_yields}
use Rattle.gl_plain.specs.Renew.{spot_pairs, reread, fresh_body}
use Rattle.gl_plain.specs.Stands.{Gives, top, NamesBelow, From, Spotted, exprs_by, CommentStands, CellsStand, Stands, StandIn, Owned}
use Rattle.gl_plain.specs.InScope.{InScope}
use Rattle.gl_plain.specs.Keeps.{New, Keeps, KeepIn}
use Rattle.gl_plain.proofs.Moves.{Moves, both_move, then_move, recount, before_it, beside, left_owned, right_owned, next_owned, same_owned, owned_after, is_old}
use Rattle.gl_plain.proofs.Pairs.{obeys_pairs, scope_below}
use Rattle.gl_plain.proofs.Binding.{top_le, in_top}
use Rattle.gl_plain.proofs.Placing.{scope_goes, local_scope}
use Rattle.gl_plain.proofs.Cells.{cells_at}
use Rattle.gl_plain.proofs.Grows.{ArmGrown, arm_grows}
use Rattle.gl_plain.proofs.Layers.{all_grow, yields_grow, components_grow, writer_scope}
use Rattle.gl_plain.proofs.Rereads.{Cold, CellsKeep, scope_less, keeps_locals, keeps_writer, keeps_bind, keeps_given, same_moves, drop_moves, reread_moves, reread_spot, spot_shows}

module _ (app : App) (σ τ : Store) where
  -- A scope of the machine, at a place whose scope was v and is w.
  pub record Ready (b : ℕ) (st : State) (ms : MScope) (v w : Scope) : Type 0 where
    pub low : b ≤ st.next a_ref
    pub scope : InScope app τ b st.look ms w
    pub keeps : KeepsScope (Cold st) v w
    pub cells : CellsKeep app σ τ st

  pub ready_goes : (b : ℕ) (st st' : State) (ms : MScope) (v w : Scope) (a a' : Id → ℕ) → Ready b st ms v w → Moves st st' a a' → From b a → Ready b st' ms v w
  ready_goes b st st' ms v w a a' r m from = record {
    low = let i = r.low in let k = m.more (ref 0) in omega (arith, i, k);
    scope = scope_goes app τ b st st' ms w a a' r.low from m r.scope;
    keeps = scope_less (Cold st) (Cold st') m.still r.keeps;
    cells = λ i x e. r.cells i x (m.still (cell i x) e);
  }

  pub record Renewed (m b : ℕ) (w : Scope) (ms : MScope) (p : Path) (x : t.Stmt) (st : State) (l : Live) (r : Live × State) : Type 0 where
    pub moves : Moves st r.1 (λ q. times q l) (λ q. times q r.0)
    pub stands : Stands app τ τ r.1.look m b w ms p x r.0
    pub nodes : has_node r.0 ≡ has_node l
    pub keeps : Keeps st.next l r.0

  pub record RenewedIn (m b : ℕ) (w : Scope) (ms : MScope) (p : Path) (i : ℕ) (c : t.Body) (st : State) (ls : Lives) (r : Lives × State) : Type 0 where
    pub moves : Moves st r.1 (λ q. times_in q ls) (λ q. times_in q r.0)
    pub stands : StandIn app τ τ r.1.look m b w ms p i c r.0
    pub nodes : have_node r.0 ≡ have_node ls
    pub keeps : KeepIn st.next ls r.0

  -- a body with its comment, updated or new
  pub record ArmRenewed (m b : ℕ) (w : Scope) (ms : MScope) (p : Path) (c : t.Body) (st : State) (count : Id → ℕ) (a : Arm) : Type 0 where
    pub moves : Moves st a.state count (λ q. times_in q a.lives + times_comment q a.comment)
    pub comment : CommentStands app τ τ a.state.look a.comment a.lives
    pub stands : StandIn app τ τ a.state.look m b w ms p 0 c a.lives

  -- the next numbers don't fall
  pub next_more : (st st' : State) (a a' : Id → ℕ) → Moves st st' a a' → (k : Rattle.gl_plain.specs.Ids.Kind) → st.next k ≤ st'.next k
  next_more st st' a a' m k = m.more (record { kind = k; num = 0 })

  -- what is new has new ids
  pub new_is_new : (st st' : State) (c : Id → ℕ) → Moves st st' (λ q. 0) c → New st.next c
  new_is_new st st' c m q lt = let h = m.fewer q lt in omega (arith, h)

  -- what is there and idle goes on
  pub idle_after : (st st' : State) (a a' c : Id → ℕ) → Owned st (λ q. a q + c q) → Moves st st' a a' → Moves st st' (λ q. a q + c q) (λ q. a' q + c q)
  idle_after st st' a a' c o m = both_move st st' st' a a' c c o m (same_moves st' c (next_owned st st' a a' c o m))

  pub idle_before : (st st' : State) (c a a' : Id → ℕ) → Owned st (λ q. c q + a q) → Moves st st' a a' → Moves st st' (λ q. c q + a q) (λ q. c q + a' q)
  idle_before st st' c a a' o m =
      recount st st' (λ q. c q + a q) (λ q. a q + c q) (λ q. c q + a' q) (λ q. a' q + c q) (λ q. omega arith) (λ q. omega arith)
      (idle_after st st' a a' c (same_owned st (λ q. c q + a q) (λ q. a q + c q) (λ q. omega arith) o) m)

  pub idle_same : (st st' : State) (c a a' : Id → ℕ) → Owned st (λ q. c q + a q) → Moves st st' a a' → (q : Id) → 0 < c q → st'.look q ≡ st.look q
  idle_same st st' c a a' o m = beside st st' a a' c (same_owned st (λ q. c q + a q) (λ q. a q + c q) (λ q. omega arith) o) m

  pub from_left : (b : ℕ) (a c : Id → ℕ) → From b (λ q. a q + c q) → From b a
  from_left b a c f q lt = let h = f q lt in omega (arith, h)

  pub from_right : (b : ℕ) (a c : Id → ℕ) → From b (λ q. a q + c q) → From b c
  from_right b a c f q lt = let h = f q lt in omega (arith, h)

  -- the references of a part are below the next
  pub made_old : (b : ℕ) (st : State) (made : List Id) → b ≤ st.next a_ref → Owned st (λ q. occurs q made) → max b (top made) ≤ st.next a_ref
  made_old b st made le o = let k = top_le (st.next a_ref) made (λ r ge. o.old (ref r) ge) in omega (arith, k, le)

  -- an update has no references from before but its own
  pub from_after : (b : ℕ) (st st' : State) (a a' : Id → ℕ) → b ≤ st.next a_ref → From b a → Moves st st' a a' → From b a'
  from_after b st st' a a' le f m q lt = let i = m.fewer (ref q) (omega (arith, le, lt)) in let k = f q lt in omega (arith, i, k)

  -- a body that is rendered anew
  pub fresh_arm : (m b : ℕ) (w : Scope) (ms : MScope) (p : Path) (c : t.Body) (st : State) → b ≤ st.next a_ref → InScope app τ b st.look ms w
      → ArmGrown app τ m b w ms p c st (or_comment (fresh_body app τ m ms p c st))
  fresh_arm m b w (mscope i a l v) p c st le s =
      arm_grows app τ m b w (mscope i a l v) p c st _
      (all_grow app τ m (grow_components m app τ) (grow_yields app (grow_components m app τ) v) v (components_grow app τ m) (yields_grow app τ m (grow_components m app τ) (components_grow app τ m) v) c b w i a l p 0 st le s)

  -- in place of what goes
  pub flipped : (m b : ℕ) (v w : Scope) (ms : MScope) (p : Path) (c : t.Body) (st : State) (count : Id → ℕ) → Ready b st ms v w → From b count
      → ArmRenewed m b w ms p c st count (or_comment (fresh_body app τ m ms p c (dropped count st)))
  flipped m b v w ms p c st count r from =
      let st1 = dropped count st in
      let d = drop_moves st count in
      let r1 = ready_goes b st st1 ms v w count (λ q. 0) r d from in
      let g = fresh_arm m b w ms p c st1 r1.low r1.scope in
      let a = or_comment (fresh_body app τ m ms p c st1) in
      record { moves = then_move st st1 a.state count (λ q. 0) (λ q. times_in q a.lives + times_comment q a.comment) d g.moves; comment = g.comment; stands = g.stands }

  pub flipped_new : (m b : ℕ) (v w : Scope) (ms : MScope) (p : Path) (c : t.Body) (st : State) (count : Id → ℕ) → Ready b st ms v w → From b count
      → let a = or_comment (fresh_body app τ m ms p c (dropped count st)) in New st.next (λ q. times_in q a.lives + times_comment q a.comment)
  flipped_new m b v w ms p c st count r from =
      let st1 = dropped count st in
      let r1 = ready_goes b st st1 ms v w count (λ q. 0) r (drop_moves st count) from in
      let g = fresh_arm m b w ms p c st1 r1.low r1.scope in
      let a = or_comment (fresh_body app τ m ms p c st1) in
      new_is_new st1 a.state (λ q. times_in q a.lives + times_comment q a.comment) g.moves

  -- a body that goes on
  pub kept_arm : (m b : ℕ) (w : Scope) (ms : MScope) (p : Path) (c : t.Body) (st : State) (k : Option ℕ) (ls : Lives) (r : Lives × State)
      → Owned st (λ q. times_in q ls + times_comment q k) → CommentStands app σ τ st.look k ls → RenewedIn m b w ms p 0 c st ls r
      → ArmRenewed m b w ms p c st (λ q. times_in q ls + times_comment q k) (record { comment = k; lives = r.0; state = r.1 })
  kept_arm m b w ms p c st k ls r o h g = record {
    moves = idle_after st r.1 (λ q. times_in q ls) (λ q. times_in q r.0) (λ q. times_comment q k) o g.moves;
    comment = by k h (beside st r.1 (λ q. times_in q ls) (λ q. times_in q r.0) (λ q. times_comment q k) o g.moves);
    stands = g.stands;
  } where
    by : (k : Option ℕ) → CommentStands app σ τ st.look k ls → ((q : Id) → 0 < times_comment q k → r.1.look q ≡ st.look q) → CommentStands app τ τ r.1.look k r.0
    by None h same = g.nodes ∙ h
    by (Some n) h same = (g.nodes ∙ h.0, same (node n) (Rattle.gl_plain.proofs.Moves.hit_self (node n)) ∙ h.1)

  -- Scopes

  -- parameters that are bound
  pub let_ready : (b : ℕ) (st : State) (ms : MScope) (v w : Scope) (es : Exprs) (ns : List Text) (made : List Id) (names : Names)
      → Ready b st ms v w → Owned st (λ q. occurs q made)
      → Gives app st.look made ms (λ f. names_by f names) (λ ρ f. bind ns (exprs_by app ms es ρ f)) → NamesBelow (max b (top made)) names
      → Ready (max b (top made)) st (with_names names ms) (with_locals (bind ns (eval_all app σ v es)) v) (with_locals (bind ns (eval_all app τ w es)) w)
  let_ready b st (mscope i a l u) v w es ns made names r o gives low = record {
    low = made_old b st made r.low o;
    scope = local_scope app τ b (max b (top made)) st.look i a l u w names (bind ns (eval_all app τ w es)) (omega arith) low
        (gives (pair_of st.look) τ (obeys_pairs st.look made) r.scope.cells ∙ ap (λ z. bind ns (eval_all app τ z es)) r.scope.is) r.scope;
    keeps = keeps_locals (Cold st) r.keeps (keeps_bind (Cold st) ns (eval_all_keeps (Cold st) app σ τ r.cells r.keeps es));
    cells = r.cells;
  }

  -- the scope that wrote what was passed
  writer_ready : (b : ℕ) (st : State) (i : Inst) (a l : Names) (k : ℕ) (ps : List Part) (bs : Slots) (ms : MScope) (v w : Scope)
      → Ready b st (mscope i a l (mpassed k ps bs ms)) v w → Ready b st ms (writer (passed_of v)) (writer (passed_of w))
  writer_ready b st i a l k ps bs ms v w r = record {
    low = r.low;
    scope = writer_scope app τ b st.look i a l k ps bs ms w r.scope;
    keeps = keeps_writer (Cold st) r.keeps;
    cells = r.cells;
  }

  -- a yielded block
  pub yield_ready : (b : ℕ) (st : State) (i : Inst) (a l : Names) (k : ℕ) (ps : List Part) (bs : Slots) (inner : MScope) (v w : Scope) (es : Exprs) (ns : List Text) (made : List Id) (names : Names)
      → Ready b st (mscope i a l (mpassed k ps bs inner)) v w → Owned st (λ q. occurs q made)
      → Gives app st.look made (mscope i a l (mpassed k ps bs inner)) (λ f. names_by f names) (λ ρ f. bind ns (exprs_by app (mscope i a l (mpassed k ps bs inner)) es ρ f))
      → NamesBelow (max b (top made)) names
      → Ready (max b (top made)) st (with_names names inner) (with_locals (bind ns (eval_all app σ v es)) (writer (passed_of v))) (with_locals (bind ns (eval_all app τ w es)) (writer (passed_of w)))
  yield_ready b st i a l k ps bs (mscope ti ta tl tw) v w es ns made names r o gives low =
      let u = writer_ready b st i a l k ps bs (mscope ti ta tl tw) v w r in
      record {
        low = made_old b st made r.low o;
        scope = local_scope app τ b (max b (top made)) st.look ti ta tl tw (writer (passed_of w)) names (bind ns (eval_all app τ w es)) (omega arith) low
            (gives (pair_of st.look) τ (obeys_pairs st.look made) r.scope.cells ∙ ap (λ z. bind ns (eval_all app τ z es)) r.scope.is) u.scope;
        keeps = keeps_locals (Cold st) u.keeps (keeps_bind (Cold st) ns (eval_all_keeps (Cold st) app σ τ r.cells r.keeps es));
        cells = r.cells;
      }

  -- the template of a component
  pub component_ready : (b : ℕ) (st : State) (ms : MScope) (v w : Scope) (q : Path) (ps : List Part) (given : List (Text × AttrValue)) (bs : Slots) (i : Inst) (made gm : List Id) (args : Names) (k : ℕ)
      → Ready b st ms v w → Owned st (λ x. occurs x made) → i.path ≡ q
      → Gives app st.look gm ms (λ f. names_by f args) (λ ρ f. eval_given app ρ (scope_by f ms) given) → CellsStand app σ τ st.look i made → NamesBelow (max b (top made)) args
      → Ready (max b (top made)) st (mscope i args [] (mpassed k ps bs ms)) (scope q (eval_given app σ v given) [] (passed ps bs v)) (scope q (eval_given app τ w given) [] (passed ps bs w))
  component_ready b st ms v w q ps given bs i made gm args k r o path gives held low = record {
    low = made_old b st made r.low o;
    scope = record {
      low = ((λ x e. let h = in_top _ made (held x e).0 in omega (arith, h)), low, tt, scope_below app b (max b (top made)) (omega arith) ms r.scope.low);
      is =
          ap₂ (λ x y. scope x y [] (passed ps bs (scope_by (pair_of st.look) ms))) path
          (gives (pair_of st.look) τ (obeys_pairs st.look gm) r.scope.cells ∙ ap (λ z. eval_given app τ z given) r.scope.is)
          ∙ ap (λ z. scope q (eval_given app τ w given) [] (passed ps bs z)) r.scope.is;
      cells = (cells_at app σ τ st.look i made held, r.scope.cells);
    };
    keeps = keeps_scope (keeps_given (Cold st) app σ τ r.cells r.keeps given) names_none (keeps_passed r.keeps);
    cells = r.cells;
  }

  -- a position that is read again, and then what stands on it
  pub spot_then : (b : ℕ) (st : State) (ms : MScope) (v w : Scope) (z : Spot) (es : Exprs) → Ready b st ms v w → (c : Id → ℕ) → Owned st (λ q. occurs q z.made + c q) → From b (λ q. occurs q z.made)
      → Spotted app st.look ms z (exprs_by app ms es) (eval_all app σ v es)
      → let st1 = reread z.ref st in
      Moves st st1 (λ q. occurs q z.made) (λ q. occurs q z.made) × Ready b st1 ms v w × Spotted app st1.look ms z (exprs_by app ms es) (eval_all app τ w es)
      × (spot_pairs st1 z.ref ≡ eval_all app τ w es) × Owned st1 c × ((q : Id) → 0 < c q → st1.look q ≡ st.look q)
  spot_then b st ms v w z es r c o from h =
      let st1 = reread z.ref st in
      let m = reread_moves st z _ (left_owned st (λ q. occurs q z.made) c o) h.own h.is.0 in
      let r1 = ready_goes b st st1 ms v w (λ q. occurs q z.made) (λ q. occurs q z.made) r m from in
      let s1 = reread_spot app τ ms z (exprs_by app ms es) (eval_all app σ v es) (eval_all app τ w es) st h r.scope.cells (ap (λ u. eval_all app τ u es) r.scope.is) (eval_all_keeps (Cold st) app σ τ r.cells r.keeps es) in (
        m,
        r1,
        s1,
        spot_shows app τ ms z (exprs_by app ms es) (eval_all app τ w es) st1.look s1 r1.scope.cells (ap (λ u. eval_all app τ u es) r1.scope.is),
        next_owned st st1 (λ q. occurs q z.made) (λ q. occurs q z.made) c o m,
        beside st st1 (λ q. occurs q z.made) (λ q. occurs q z.made) c o m,
      )
