-- The three layers: statements, the chain of scopes that wrote blocks, and the nesting of components.
use Rattle.std.proofs.Common.{◌≡◌, ℕ, zero, suc, max, ◌+◌, ◌<◌, ◌≤◌, List, [], ◌∷◌, ◌++◌, Option, Some, None, refl, sym, ◌∙◌, ap, ap₂, subst, arith, inl, inr, ◌⊎◌}
use Rattle.gl_base.specs.Texts.{Text}
use Rattle.gl_ast.specs.Template.{Plain, Exprs, AttrValue, Slots, Part}
use Rattle.gl_ast.specs.Template as t
use Rattle.gl_meaning.specs.App.{App}
use Rattle.gl_meaning.specs.Path.{into, slot, Path}
use Rattle.gl_meaning.specs.Scope.{NamedPairs, Scope, scope, Passed, passed, nothing_passed, passed_of, with_locals, bind}
use Rattle.gl_meaning.specs.Eval.{Store, class_at, member_of, field_member, eval_all, eval_given}
use Rattle.std.proofs.lemmas.Bool.{cases_lt}
use Rattle.gl_meaning.specs.Render.{Block, block_named}
use Rattle.gl_plain.specs.Ids.{a_ref, an_instance, a_block, Id, ref, block_id, instance_id, hit, occurs}
use Rattle.gl_plain.specs.State.{Names, names_by, Inst, MScope, mscope, MPassed, mnothing, mpassed, scope_by, passed_by, mslots, writer, cell_ref, block_row, instance_row, Thing, State, pair_of, make, refs_of}
use Rattle.gl_plain.specs.Binding.{bind_exprs, bind_args, bind_params}
use Rattle.gl_plain.specs.Live.{Live, Lives, times, times_in}
use Rattle.gl_plain.specs.Live
use Rattle.gl_plain.specs.Grow.{GrowComponents, GrowYields, grow_body, grow_block, grow_yields, grow_cells, grow_components}
use Rattle.gl_plain.specs.Stands.{CellsPassed, Gives, top, NamesBelow, PassedBelow, From, exprs_by, WhereBlock, CellsStand, Stands, StandIn, BlockStands, NamedStands}
use Rattle.gl_plain.specs.InScope.{InScope}
use Rattle.gl_plain.proofs.Moves.{Moves, both_new, before_new, recount, no_move, make_moves, make_at, hit_self}
use Rattle.gl_plain.proofs.Pairs.{names_below, names_same, scope_below, passed_below, passed_same, passed_cells_same, pairs_agree, obeys_pairs, obeys_less, left_occurs, right_occurs}
use Rattle.gl_plain.proofs.Binding.{both_made, top_append, in_top}
use Rattle.gl_plain.proofs.Bound.{made_below, bound_are, args_are}
use Rattle.gl_plain.proofs.Stay.{gives_stays, cells_stay, left_above}
use Rattle.gl_plain.proofs.Placing.{scope_grows, local_scope, params_bound, named_back}
use Rattle.gl_plain.proofs.Cells.{cells_move, cells_stand, cells_at}
use Rattle.gl_plain.proofs.Grows.{Grown, GrownIn, new_from, ComponentsGrow, YieldsGrow, body_grows, component_call}
use Rattle.gl_plain.specs.Parts.{mwritten_parts}
use Rattle.gl_plain.specs.Tags.{bind_written}
use Rattle.gl_plain.proofs.Elements.{near_parts}
use Rattle.gl_plain.proofs.Tags.{still_low, written_are}
use Rattle.gl_plain.proofs.ElementGrows.{element_grows}

-- The scope that wrote what was passed.
pub writer_scope : (app : App) (τ : Store) (b : ℕ) (look : Id → Option Thing) (i : Inst) (a l : Names) (k : ℕ) (ps : List Part) (bs : Slots) (s : MScope) (w : Scope)
    → InScope app τ b look (mscope i a l (mpassed k ps bs s)) w → InScope app τ b look s (writer (passed_of w))
writer_scope app τ b look i a l k ps bs s w h = record { low = h.low.3; is = ap (λ z. writer (passed_of z)) h.is; cells = h.cells.1 }

module _ (app : App) (τ : Store) where
  pub all_grow : (m : ℕ) (d : GrowComponents) (y : GrowYields) (v : MPassed) → ComponentsGrow app τ m d → YieldsGrow app τ m v y
      → (c : t.Body) (b : ℕ) (w : Scope) (i : Inst) (a l : Names) (p : Path) (j : ℕ) (st : State) → b ≤ st.next a_ref → InScope app τ b st.look (mscope i a l v) w
      → GrownIn app τ m b w (mscope i a l v) p j c st (grow_body app d y (mscope i a l v) p j c st)
  all_grow m d y v hd hy c =
      body_grows app τ m d y v hd hy
      (λ tag ps c' body b w i a l p st le s. element_grows app τ m d y tag ps c' b w (mscope i a l v) p st le s (λ st' le' s'. body b w i a l p 0 st' le' s')) c

  -- no block of that name
  none_grows : (m b : ℕ) (w : Scope) (i : Inst) (a l : Names) (v : MPassed) (p : Path) (es : Exprs) (n : Text) (st : State) → b ≤ st.next a_ref → InScope app τ b st.look (mscope i a l v) w
      → block_named n (mslots v) ≡ None → let x = bind_exprs app (mscope i a l v) es st in
      Grown app τ m b w (mscope i a l v) p (t.yield es n) st (Live.yield_live n x.made [] Live.no_lives, x.state)
  none_grows m b w i a l v p es n st le s e =
      let x = bind_exprs app (mscope i a l v) es st in
      let h = bound_are app b (mscope i a l v) s.low es st le in
      record {
        moves = recount st x.state (λ q. 0) (λ q. 0) (λ q. occurs q x.made + 0) (λ q. occurs q x.made) (λ q. refl) (λ q. omega arith) h.moves;
        stands = (refl, subst (λ o. WhereBlock o (BlockStands app τ τ x.state.look m b w (mscope i a l v) p es n x.made [] Live.no_lives) (Live.no_lives ≡ Live.no_lives)) (sym e) refl);
      }

  module _ (m : ℕ) (d : GrowComponents) (hd : ComponentsGrow app τ m d) where
    pub yields_grow : (v : MPassed) → YieldsGrow app τ m v (grow_yields app d v)
    yields_grow mnothing b w i a l p es n st le s = none_grows m b w i a l mnothing p es n st le s refl
    yields_grow (mpassed k ps bs (mscope ti ta tl tw)) b w i a l p es n st le s = by (block_named n bs) refl (all_grow m d (grow_yields app d tw) tw hd (yields_grow tw)) where
      by : (o : Option Block) → block_named n bs ≡ o
          → ((c : t.Body) (b : ℕ) (w : Scope) (i : Inst) (a l : Names) (p : Path) (j : ℕ) (st : State) → b ≤ st.next a_ref → InScope app τ b st.look (mscope i a l tw) w
          → GrownIn app τ m b w (mscope i a l tw) p j c st (grow_body app d (grow_yields app d tw) (mscope i a l tw) p j c st))
          → let x = bind_exprs app (mscope i a l (mpassed k ps bs (mscope ti ta tl tw))) es st in
          Grown app τ m b w (mscope i a l (mpassed k ps bs (mscope ti ta tl tw))) p (t.yield es n) st
          (grow_block n o x.made x.ids (λ c names st'. grow_body app d (grow_yields app d tw) (mscope ti ta (tl ++ names) tw) (slot n ∷ p) 0 c.body st') x.state)
      by None e body = none_grows m b w i a l (mpassed k ps bs (mscope ti ta tl tw)) p es n st le s e
      by (Some c) e body =
          let ms = mscope i a l (mpassed k ps bs (mscope ti ta tl tw)) in
          let x = bind_exprs app ms es st in
          let h = params_bound app b ms st x (exprs_by app ms es) c.params le (bound_are app b ms s.low es st le) in
          let z = bind_params c.params x.ids x.state in
          let made = x.made ++ z.made in
          let b' = max b (top made) in
          let le1 = made_below b st z.state made le h.moves in
          let s1 = scope_grows app τ b st z.state ms w (λ q. occurs q made) le h.moves s in
          let given = h.gives (pair_of z.state.look) τ (obeys_pairs z.state.look made) s1.cells ∙ ap (λ u. bind c.params (eval_all app τ u es)) s1.is in
          let s2 = local_scope app τ b b' z.state.look ti ta tl tw (writer (passed_of w)) z.names (bind c.params (eval_all app τ w es)) (omega arith) h.low given
          (writer_scope app τ b z.state.look i a l k ps bs (mscope ti ta tl tw) w s1) in
          let w' = with_locals (bind c.params (eval_all app τ w es)) (writer (passed_of w)) in
          let g = body c.body b' w' ti ta (tl ++ z.names) (slot n ∷ p) 0 z.state le1 s2 in
          let r = grow_body app d (grow_yields app d tw) (mscope ti ta (tl ++ z.names) tw) (slot n ∷ p) 0 c.body z.state in
          record {
            moves = both_new st z.state r.1 (λ q. occurs q made) (λ q. times_in q r.0) h.moves g.moves;
            stands = (
              refl,
              subst (λ o. WhereBlock o (BlockStands app τ τ r.1.look m b w ms p es n made (refs_of z.names) r.0) (r.0 ≡ Live.no_lives)) (sym e)
                  (subst (λ (k : Names). NamedStands app τ τ r.1.look m b w ms p es n made k r.0 c) (sym (named_back c.params x.ids x.state)) (
                    gives_stays app z.state.look r.1.look made ms _ _ (before_new st z.state r.1 (λ q. occurs q made) (λ q. times_in q r.0) h.moves g.moves) h.gives,
                    h.low,
                    new_from app τ b' z.state r.1 (λ q. times_in q r.0) le1 g.moves,
                    g.stands,
                  )),
            );
          }

  forget : (st st' : State) (c : Id → ℕ) → Moves st st' (λ q. 0) c → Moves st st' (λ q. 0) (λ q. 0)
  forget st st' c m = record { kept = m.kept; more = m.more; fewer = λ q lt. omega arith; once = λ q. omega arith; old = λ q le. refl; still = m.still; gone = λ q lt w z. absurd (omega (arith, w)); lower = m.lower }

  -- An instance with its template, at a path, where something is passed that is in scope.
  pub record InstanceGrown (n b : ℕ) (q : Path) (made : List Id) (args : Names) (given : NamedPairs) (o : Option ℕ) (v : MPassed) (w : Passed) (st st1 : State) (r : Live × State) : Type 0 where
    pub inst : Inst
    pub all : List Id
    pub lives : Lives
    pub is : r.0 ≡ Live.component_live inst all made args o lives
    pub apart : (x : Text) → member_of (class_at app q) x ≡ field_member → occurs (ref (cell_ref inst x)) made ≡ 0
    pub path : inst.path ≡ q
    pub more : (x : Id) → 0 < occurs x made → 0 < occurs x all
    pub own : 0 < occurs (instance_id inst.id) all
    pub wide : max b (top made) ≤ max b (top all)
    pub later : (x : Id) → 0 < occurs x made → r.1.look x ≡ st1.look x
    pub row : r.1.look (instance_id inst.id) ≡ Some (instance_row inst)
    pub moves : Moves st r.1 (λ x. 0) (λ x. occurs x all + times_in x lives)
    pub cells : CellsStand app τ τ r.1.look inst all
    pub from : From (max b (top all)) (λ x. times_in x lives)
    pub stands : StandIn app τ τ r.1.look n (max b (top all)) (scope q given [] w) (mscope inst args [] v) q 0 (class_at app q).template lives

  module _ (n : ℕ) (hd : ComponentsGrow app τ n (grow_components n app τ)) where
    pub instance_grows : (b : ℕ) (q : Path) (made : List Id) (args : Names) (given : NamedPairs) (o : Option ℕ) (v : MPassed) (w : Passed) (st0 st : State)
        → b ≤ st0.next a_ref → Moves st0 st (λ x. 0) (λ x. occurs x made) → NamesBelow (max b (top made)) args → names_by (pair_of st.look) args ≡ given
        → PassedBelow app (max b (top made)) v → passed_by (pair_of st.look) v ≡ w → CellsPassed app τ (pair_of st.look) v
        → InstanceGrown n b q made args given o v w st0 st (grow_components (suc n) app τ q made args o v st)
    instance_grows b q made args given o v w st0 st le m low e plow pe pc =
        let fields = (class_at app q).fields in
        let c = grow_cells app τ q fields st in
        let i : Inst = record { id = c.state.next an_instance; path = q; cells = c.names } in
        let st2 = make an_instance (instance_row i) c.state in
        let all = instance_id i.id ∷ (made ++ c.made) in
        let b1 = max b (top made) in
        let b2 = max b (top all) in
        let t0 = top_append (instance_id i.id ∷ []) (made ++ c.made) in
        let t1 = top_append made c.made in
        let le1 = made_below b st0 st made le m in
        let mc = cells_move app τ q fields st in
        let m1 = both_made st0 st c.state made c.made m mc in
        let mi = make_moves an_instance (instance_row i) c.state tt in
        let ci : Id → ℕ = λ x. hit x (instance_id i.id) in
        let m2 = recount st0 st2 (λ x. 0) (λ x. 0) (λ x. occurs x all) (λ x. occurs x (made ++ c.made) + ci x) (λ x. refl) (λ x. omega arith) (both_new st0 c.state st2 (λ x. occurs x (made ++ c.made)) ci m1 mi) in
        let up = both_new st c.state st2 (λ x. occurs x c.made) ci mc mi in
        let agree = pairs_agree st.look st2.look b1 (λ r lt. up.kept (ref r) (omega (arith, lt, le1)) refl) in
        let f2 = pair_of st2.look in
        let wide : b1 ≤ b2 = omega (arith, t0, t1) in
        let held : CellsStand app τ τ st2.look i all =
        (λ x e. let k = cells_stand app τ τ q i.id st x e in (right_occurs _ (instance_id i.id ∷ []) (made ++ c.made) (right_occurs _ made c.made k.0), before_new st c.state st2 (λ x. occurs x c.made) ci mc mi _ k.0 ∙ k.1)) in
        let s2 : InScope app τ b2 st2.look (mscope i args [] v) (scope q given [] w) =
        record {
          low = ((λ x e. let k = in_top _ all (held x e).0 in omega (arith, k)), names_below b1 b2 wide args low, tt, passed_below app b1 b2 wide v plow);
          is = ap₂ (λ x y. scope q x [] y) (names_same b1 f2 (pair_of st.look) agree args low ∙ e) (passed_same app b1 f2 (pair_of st.look) agree v plow ∙ pe);
          cells = (cells_at app τ τ st2.look i all held, passed_cells_same app τ b1 f2 (pair_of st.look) agree v plow pc);
        } in
        let le2 = made_below b st0 st2 all le m2 in
        let d = grow_components n app τ in
        let g = all_grow n d (grow_yields app d v) v hd (yields_grow n d hd v) (class_at app q).template b2 (scope q given [] w) i args [] q 0 st2 le2 s2 in
        let r = grow_body app d (grow_yields app d v) (mscope i args [] v) q 0 (class_at app q).template st2 in
        let cr : Id → ℕ = λ x. times_in x r.0 in
        let same = before_new st0 st2 r.1 (λ x. occurs x all) cr m2 g.moves in
        let self = left_occurs (instance_id i.id) (instance_id i.id ∷ []) (made ++ c.made) (left_above _ _ (hit_self (instance_id i.id))) in
        record {
          inst = i;
          all = all;
          lives = r.0;
          is = refl;
          path = refl;
          apart = λ x e. let k = (cells_stand app τ τ q i.id st x e).0 in m.old (ref (cell_ref i x)) (by_age st c.state c.made mc (cell_ref i x) k (cases_lt (cell_ref i x) (st.next a_ref)));
          more = λ x u. right_occurs x (instance_id i.id ∷ []) (made ++ c.made) (left_occurs x made c.made u);
          own = self;
          wide = wide;
          later = λ x u. same x (right_occurs x (instance_id i.id ∷ []) (made ++ c.made) (left_occurs x made c.made u)) ∙ before_new st0 st st2 (λ y. occurs y made) (λ y. occurs y c.made + ci y) m up x u;
          row = same (instance_id i.id) self ∙ make_at an_instance (instance_row i) c.state;
          moves = both_new st0 st2 r.1 (λ x. occurs x all) cr m2 g.moves;
          cells = cells_stay app st2.look r.1.look τ τ i all same held;
          from = new_from app τ b2 st2 r.1 cr le2 g.moves;
          stands = g.stands;
        }
      where
        by_age : (st st' : State) (made : List Id) → Moves st st' (λ x. 0) (λ x. occurs x made) → (r : ℕ) → 0 < occurs (ref r) made → ((r < st.next a_ref) ⊎ (st.next a_ref ≤ r)) → st.next a_ref ≤ r
        by_age st st' made mv r w (inl lt) = let h = mv.fewer (ref r) lt in absurd (omega (arith, h, w))
        by_age st st' made mv r w (inr le) = le

  -- so a component stands
  component_stands : (n b : ℕ) (w : Scope) (ms : MScope) (p : Path) (c : Text) (ps : List Part) (given : List (Text × AttrValue)) (bs : Slots) (k : ℕ) (made part : List Id) (args : Names) (st st1 : State) (r : Live × State)
      → InstanceGrown n b (into c ∷ p) made args (eval_given app τ w given) (Some k) (mpassed k ps bs ms) (passed ps bs w) st st1 r
      → 0 < occurs (block_id k) made → st1.look (block_id k) ≡ Some block_row
      → ((x : Id) → 0 < occurs x part → 0 < occurs x made) → Gives app st1.look part ms (λ f. names_by f args) (λ ρ f. eval_given app ρ (scope_by f ms) given)
      → NamesBelow (max b (top made)) args
      → Grown app τ (suc n) b w ms p (t.component_stmt c ps given bs) st r
  component_stands n b w ms p c ps given bs k made part args st st1 r g own at part_of gives low =
      let gives' : Gives app r.1.look made ms (λ f. names_by f args) (λ ρ f. eval_given app ρ (scope_by f ms) given) =
      (λ f ρ ob cells. gives f ρ (obeys_less st1.look r.1.look part made f (λ q u. (part_of (ref q) u, g.later (ref q) (part_of (ref q) u))) ob) cells) in
      record {
        moves = recount st r.1 (λ q. 0) (λ q. 0) (λ q. times q r.0) (λ q. occurs q g.all + times_in q g.lives) (λ q. refl) (λ q. ap (times q) g.is) g.moves;
        stands = subst (λ l. Stands app τ τ r.1.look (suc n) b w ms p (t.component_stmt c ps given bs) l) (sym g.is) (
          (own, g.later (block_id k) own ∙ at),
          (g.own, g.row),
          g.path,
          (g.more, g.apart, gives'),
          g.cells,
          names_below _ _ g.wide args low,
          g.from,
          g.stands,
        );
      }

  pub components_grow : (m : ℕ) → ComponentsGrow app τ m (grow_components m app τ)
  components_grow zero b w ms p c ps given bs st le s =
      let a = bind_args app ms given st in
      let h = args_are app b ms s.low given st le in
      let le0 = still_low app b ms st a.state (λ q. occurs q a.made) le h.moves in
      let z = bind_written app (mwritten_parts ms ps) a.state in
      let hz = written_are app b ms (mwritten_parts ms ps) (near_parts app b ms ps s.low) a.state le0 in
      let made = a.made ++ z.made in
      let k = z.state.next a_block in
      let st1 = make a_block block_row z.state in
      let mz = both_made st a.state z.state a.made z.made h.moves hz.moves in
      let m = both_new st z.state st1 (λ q. occurs q made) (λ q. hit q (block_id k)) mz (make_moves a_block block_row z.state tt) in
      record { moves = forget st st1 (λ q. occurs q made + hit q (block_id k)) m; stands = refl }
  components_grow (suc n) b w ms p c ps given bs st le s =
      let a = bind_args app ms given st in
      let h = args_are app b ms s.low given st le in
      let le0 = still_low app b ms st a.state (λ q. occurs q a.made) le h.moves in
      let z = bind_written app (mwritten_parts ms ps) a.state in
      let hz = written_are app b ms (mwritten_parts ms ps) (near_parts app b ms ps s.low) a.state le0 in
      let k = z.state.next a_block in
      let v = mpassed k ps bs ms in
      let st1 = make a_block block_row z.state in
      let both = a.made ++ z.made in
      let made = block_id k ∷ both in
      let mz = both_made st a.state z.state a.made z.made h.moves hz.moves in
      let mk = make_moves a_block block_row z.state tt in
      let ck : Id → ℕ = λ q. hit q (block_id k) in
      let ca : Id → ℕ = λ q. occurs q both in
      let m = recount st st1 (λ q. 0) (λ q. 0) (λ q. occurs q made) (λ q. ca q + ck q) (λ q. refl) (λ q. omega arith) (both_new st z.state st1 ca ck mz mk) in
      let b1 = max b (top made) in
      let t0 = top_append (block_id k ∷ []) both in
      let t1 = top_append a.made z.made in
      let wide : max b (top a.made) ≤ b1 = omega (arith, t0, t1) in
      let le1 = made_below b st z.state both le mz in
      let s1 = scope_grows app τ b st st1 ms w (λ q. occurs q made) le m s in
      let cz : Id → ℕ = λ q. occurs q z.made in
      let same = before_new st a.state st1 (λ q. occurs q a.made) (λ q. cz q + ck q) h.moves (both_new a.state z.state st1 cz ck hz.moves mk) in
      let gives1 = gives_stays app a.state.look st1.look a.made ms _ _ same h.gives in
      let given_are : names_by (pair_of st1.look) a.names ≡ eval_given app τ w given = gives1 (pair_of st1.look) τ (obeys_pairs st1.look a.made) s1.cells ∙ ap (λ z. eval_given app τ z given) s1.is in
      let g = instance_grows n (components_grow n) b (into c ∷ p) made a.names (eval_given app τ w given) (Some k) v (passed ps bs w) st st1 le m
      (names_below _ _ wide a.names h.low) given_are (scope_below app b b1 (omega arith) ms s.low) (ap (passed ps bs) s1.is) s1.cells in
      let own_k : 0 < occurs (block_id k) made = left_above _ _ (hit_self (block_id k)) in
      component_stands n b w ms p c ps given bs k made a.made a.names st st1 (component_call app τ (grow_components (suc n) app τ) ms p c ps given bs st) g own_k
      (make_at a_block block_row z.state) (λ x u. right_occurs x (block_id k ∷ []) both (left_occurs x a.made z.made u)) gives1 (names_below _ _ wide a.names h.low)

  -- The root. It stands for the app's rendering.
  pub app_grows : (n : ℕ) (st : State) → InstanceGrown n 0 [] [] [] [] None mnothing nothing_passed st st (grow_components (suc n) app τ [] [] [] None mnothing st)
  app_grows n st = instance_grows n (components_grow n) 0 [] [] [] [] None mnothing nothing_passed st st (omega arith) (no_move st) tt refl tt refl tt
