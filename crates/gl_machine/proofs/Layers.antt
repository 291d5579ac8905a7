-- Blocks that are yielded and components, by recursion over the chain of writers and over how deep components may nest.
use Rattle.std.proofs.Common.{◌≡◌, ℕ, zero, suc, List, [], ◌∷◌, ◌++◌, map, length, Bool, true, false, cond, Option, Some, None, refl, sym, ◌∙◌, ap, subst}
use Rattle.std.specs.Str.{bytes_eq}
use Rattle.gl_base.specs.Texts.{Text}
use Rattle.gl_base.specs.Names.{named}
use Rattle.gl_ast.specs.Template.{Exprs, Part, yield, component_stmt, Plain, Slots, no_slots, block}
use Rattle.gl_program.specs.Program.{Stands}
use Rattle.gl_ops.specs.declared.op.Op.TheVariants as op
use Rattle.gl_meaning.specs.Path.{slot, into, Path}
use Rattle.gl_meaning.specs.Eval.{Store, class_named, cell_value}
use Rattle.gl_meaning.specs.Render.{Block, block_named}
use Rattle.gl_opc.specs.Numbers.{keys}
use Rattle.gl_wire.specs.Symbols.{symbols_of}
use Rattle.gl_opc.specs.Spans.{ParametersAt, BodyAt}
use Rattle.gl_plain.specs.Ids.{a_ref, a_block, an_instance, Id, block_id, instance_id}
use Rattle.gl_plain.specs.State.{Names, refs_of, named_as, Inst, mscope, MPassed, mnothing, mpassed, instance_row, block_row, State, make}
use Rattle.gl_plain.specs.Naming.{Naming, made_source}
use Rattle.gl_plain.specs.Binding.{bind_params}
use Rattle.gl_plain.specs.Live.{yield_live, component_live, is_deep, are_deep}
use Rattle.gl_plain.specs.Grow.{GrowComponents, grow_body_as, grow_block, grow_yields_as, grow_cells_as, grow_components_as}
use Rattle.gl_machine.specs.Sight.{Sight, sight, Passing, passing}
use Rattle.gl_machine.specs.Code.{Code, yield_code, component_code, no_codes, live_of, lives_of}
use Rattle.gl_machine.specs.Params.{Known, HasParamsIn}
use Rattle.gl_machine.specs.Env.{Env, class_no, program_no, symbols_at, by_symbol, texts_of, seen}
use Rattle.gl_machine.specs.Placed.{IsOf, SlotsThere, Matches, WhereFound, Placed, PlacedIn}
use Rattle.gl_machine.specs.Mach.{Pushed, Here, Back, Making, idle, Kind, in_block, in_component, Frame, Run, mach, go, fresh, added, next_at}
use Rattle.gl_machine.specs.Step.{yield_slot, yield_to, unless_parts, here}
use Rattle.gl_machine.proofs.Runs.{adds, closed_codes, at_op, Goes, stops, ends, first, onto}
use Rattle.gl_machine.proofs.Stacks.{popped-last}
use Rattle.gl_machine.proofs.Symbols.{known_none, known_both}
use Rattle.gl_machine.proofs.Sound.{Sound}
use Rattle.gl_machine.proofs.Getters.{room}
use Rattle.gl_machine.proofs.Tags.{unused, names_more, bound_are, params_come}
use Rattle.gl_machine.proofs.Spreads.{spreads_go}
use Rattle.gl_machine.proofs.Bodies.{resting, InvokeGoes, YieldGoes, named_back, body_goes}

-- the block of a name, and where its words are
module _ (env : Env) (c : ℕ) (names : List Text) where
  record Found (n : Text) (b : Block) (xs : List (Text × ℕ)) : Type 0 where
    start : ℕ
    body : ℕ
    last : ℕ
    next : ℕ
    is : named n xs ≡ Some start
    at_params : ParametersAt (program_no env c) env.manifest (class_no env c) (symbols_at env c) op.Param start b.params body
    at_body : BodyAt (program_no env c) env.manifest (class_no env c) (symbols_at env c) (names ++ b.params) body b.body last
    at_end : Stands (program_no env c) last op.EndBlock next
    of_params : Known (symbols_at env c) b.params
    of_body : HasParamsIn (symbols_at env c) b.body

  abbrev Finds : Text → Option Block → List (Text × ℕ) → Type 0
  Finds n None xs = named n xs ≡ None
  Finds n (Some b) xs = Found n b xs

  finds_more : (n : Text) (x : Text × ℕ) (t : Bool) → bytes_eq n x.0 ≡ t → (b : Block) (o : Option Block) (xs : List (Text × ℕ))
      → (named n (x ∷ xs) ≡ Some x.1 → Found n b (x ∷ xs)) → Finds n o xs → Finds n (cond t (Some b) o) (x ∷ xs)
  finds_more n x true e b o xs f later = f (ap (λ t. cond t (Some x.1) (named n xs)) e)
  finds_more n x false e b None xs f later = ap (λ t. cond t (Some x.1) (named n xs)) e ∙ later
  finds_more n x false e b (Some d) xs f later = record {
    start = later.start;
    body = later.body;
    last = later.last;
    next = later.next;
    is = ap (λ t. cond t (Some x.1) (named n xs)) e ∙ later.is;
    at_params = later.at_params;
    at_body = later.at_body;
    at_end = later.at_end;
    of_params = later.of_params;
    of_body = later.of_body;
  }

  finds : (n : Text) (xs : List (Text × ℕ)) (ss : Slots) → SlotsThere env c names xs ss → Finds n (block_named n ss) xs
  finds n [] no_slots m = refl
  finds n (x ∷ xs) (block name ns b ss) (same, body, last, next, params, at, closed, of_params, of_body, rest) =
      subst (λ k. Finds n (cond (bytes_eq n k) (Some (record { params = ns; body = b })) (block_named n ss)) (x ∷ xs)) same
      (finds_more n x (bytes_eq n x.0) refl (record { params = ns; body = b }) (block_named n ss) xs
      (λ e. record { start = x.1; body = body; last = last; next = next; is = e; at_params = params; at_body = at; at_end = closed; of_params = of_params; of_body = of_body })
      (finds n xs ss rest))
  finds n [] (block name ns b ss) m = absurd m
  finds n (x ∷ xs) no_slots m = absurd m

module _ (naming : Naming) (env : Env) (store : Store) (sound : Sound env)
    (left : ℕ) (components : GrowComponents) (invokes : InvokeGoes naming env store left components) where
  -- a block that was found is rendered
  block_goes : (c : ℕ) (i : Inst) (a l : Names) (v : MPassed) (u : Passing) (is : IsOf env c i) → Matches env u v → Known (symbols_at env c) (texts_of l)
      → YieldGoes naming env store left (grow_yields_as naming env.app components v) v
      → (kb parts : ℕ) (ps : List Part) (bs : Slots) (slots : List (Text × ℕ)) (n : Text) (o : Option Block) → block_named n bs ≡ o → Finds env c (texts_of l) n o slots
      → (st : State) (stk : List Pushed) (made : List Id) (pc : ℕ) (outside : Sight) (pending : List ℕ) (h : Here) (fs : List Frame) (rs : List ℕ)
      → (c' : ℕ) (i' : Inst) (a' l' : Names) (w' : Passing) (es : Exprs)
      → Goes naming env store (Placed env c' (mscope i' a' l' (mpassed kb ps bs (mscope i a l v))) w' (next_at h) (yield es n)) live_of is_deep
      (yield_slot n rs (mach st stk made pc (resting outside pending h idle left fs)) (seen env c (mscope i a l v) u) (named n slots))
      (grow_block n o made rs (λ b names st'. grow_body_as naming env.app components (grow_yields_as naming env.app components v) (mscope i a (l ++ names) v) (slot n ∷ next_at h) 0 b.body st') st)
      (λ x. go x.1 stk [] (suc pc) (resting outside pending (added x.0 h) idle left fs))
  block_goes c i a l v u is m known yields kb parts ps bs slots n None none none_there st stk made pc outside pending h fs rs c' i' a' l' w' es =
      rw none_there
      (ends (yield_code n made [] no_codes, st) refl refl
      (refl, subst (λ o. WhereFound o (λ b. (q : ℕ) × (u : Passing) × PlacedIn env q (mscope i a (l ++ named_as b.params []) v) u (slot n ∷ next_at h) 0 b.body no_codes) (no_codes ≡ no_codes)) (sym none) refl) here)
  block_goes c i a l v u is m known yields kb parts ps bs slots n (Some b) some f st stk made pc outside pending h fs rs c' i' a' l' w' es =
      let symbols = symbols_at env c in
      let y = bind_params b.params rs st in
      let more = l ++ y.names in
      let inner = fresh (slot n ∷ next_at h) in
      let back : Back = record { getter = None; pc = suc pc; sight = outside; pending = pending } in
      let count = length (map (by_symbol symbols) l) in
      let kind : List Id → Kind = λ ids. in_block back n ids count in
      let frame : List Id → Frame = λ ids. record { here = h; kind = in_block back n ids count } in
      let all = made ++ y.made in
      let rest = unused b.params rs in
      let P = Placed env c' (mscope i' a' l' (mpassed kb ps bs (mscope i a l v))) w' (next_at h) (yield es n) in
      let known' : Known symbols (texts_of more) =
      subst (Known symbols) (sym (names_more l b.params rs st))
      (known_both symbols (texts_of l) b.params known f.of_params) in
      let at_body' = subst (λ ts. BodyAt (program_no env c) env.manifest (class_no env c) symbols ts f.body b.body f.last) (sym (names_more l b.params rs st)) f.at_body in
      rw f.is
      (first naming env store P live_of is_deep (go st stk [] f.start (room env c i a l v u rs inner idle left (fs ++ frame made ∷ [])))
      (go y.state stk [] f.body (room env c i a more v u rest inner idle left (fs ++ frame all ∷ [])))
      (grow_block n (Some b) made rs (λ b names st'. grow_body_as naming env.app components (grow_yields_as naming env.app components v) (mscope i a (l ++ names) v) (slot n ∷ next_at h) 0 b.body st') st)
      (λ x. go x.1 stk [] (suc pc) (resting outside pending (added x.0 h) idle left fs))
      (params_come naming env store c i a v u inner h left fs idle op.Param (λ n m. refl) kind (record { more = λ ids x. refl }) l rs st stk made f.start b.params f.body f.at_params)
      (onto naming env store (PlacedIn env c (mscope i a more v) u (slot n ∷ next_at h) 0 b.body) lives_of are_deep P live_of is_deep
      (go y.state stk [] f.body (room env c i a more v u rest inner idle left (fs ++ frame all ∷ [])))
      (grow_body_as naming env.app components (grow_yields_as naming env.app components v) (mscope i a more v) (slot n ∷ next_at h) 0 b.body y.state)
      (λ r. go r.1 stk [] f.last (room env c i a more v u rest (adds r.0 inner) idle left (fs ++ frame all ∷ [])))
      (λ r. (yield_live n all (refs_of y.names) r.0, r.1)) (λ x. go x.1 stk [] (suc pc) (resting outside pending (added x.0 h) idle left fs))
      (body_goes naming env store sound c i a v u is m (spreads_go naming env store sound v u m) left components (grow_yields_as naming env.app components v) invokes yields
      more known' rest y.state stk inner (fs ++ frame all ∷ [])
      (λ m r. ap (λ o. unless_parts m o r) (popped-last fs (frame all))) f.body b.body f.last at_body' f.of_body)
      (λ r d. d)
      (λ r fine placed.
      ends (yield_code n all (refs_of y.names) r.0, r.1) refl fine (
        refl,
        subst (λ o. WhereFound o (λ b. (q : ℕ) × (u : Passing) × PlacedIn env q (mscope i a (l ++ named_as b.params (refs_of y.names)) v) u (slot n ∷ next_at h) 0 b.body r.0) (r.0 ≡ no_codes)) (sym some)
            (c, u, subst (λ ls. PlacedIn env c (mscope i a (l ++ ls) v) u (slot n ∷ next_at h) 0 b.body r.0) (sym (named_back b.params rs st)) placed),
      )
      (at_op naming env store r.1 stk [] f.last (room env c i a more v u rest (adds r.0 inner) idle left (fs ++ frame all ∷ [])) op.EndBlock f.next f.at_end
      (λ k. go r.1 stk [] (suc pc) (resting outside pending (added (yield_code n all (refs_of y.names) r.0) h) idle left fs))
      (rw (popped-last fs (frame all), closed_codes r.0 inner refl, bound_are symbols l y.names) refl)))))

  -- recursion over the chain of the scopes that wrote the blocks
  pub yields_go : (v : MPassed) → YieldGoes naming env store left (grow_yields_as naming env.app components v) v
  yields_go mnothing st stk made pc outside pending h fs n rs c i a l w es m =
      subst (λ p. Goes naming env store (Placed env c (mscope i a l mnothing) w (next_at h) (yield es n)) live_of is_deep
      (yield_to n rs (mach st stk made pc (resting outside pending h idle left fs)) p) (yield_live n made [] (lives_of no_codes), st)
      (λ x. go x.1 stk [] (suc pc) (resting outside pending (added x.0 h) idle left fs))) (sym m)
      (ends (yield_code n made [] no_codes, st) refl refl (refl, refl) here)
  yields_go (mpassed kb ps bs (mscope i a l v)) st stk made pc outside pending h fs n rs c' i' a' l' w' es (c, parts, last, next, o, slots, u, same, known, is, m, at_parts, at_end, ends_parts, there) =
      subst (λ p. Goes naming env store (Placed env c' (mscope i' a' l' (mpassed kb ps bs (mscope i a l v))) w' (next_at h) (yield es n)) live_of is_deep
      (yield_to n rs (mach st stk made pc (resting outside pending h idle left fs)) p) (grow_yields_as naming env.app components (mpassed kb ps bs (mscope i a l v)) n made rs (next_at h) st)
      (λ x. go x.1 stk [] (suc pc) (resting outside pending (added x.0 h) idle left fs))) (sym same)
      (block_goes c i a l v u is m known (yields_go v) kb parts ps bs slots n (block_named n bs) refl (finds env c (texts_of l) n slots bs there) st stk made pc outside pending h fs rs c' i' a' l' w' es)

pub cells_named : (naming : Naming) (env : Env) (store : Store) (p : Path) (fs : List (Text × Plain)) (st : State) → keys (grow_cells_as naming env.app store p fs st).names ≡ keys fs
cells_named naming env store p [] st = refl
cells_named naming env store p (f ∷ fs) st = ap (λ xs. f.0 ∷ xs) (cells_named naming env store p fs (made_source naming (naming.cell_source (st.next a_ref) p f.0) (cell_value env.app store p f.0) st))

module _ (naming : Naming) (env : Env) (store : Store) where
  -- where the machine is once a component is begun
  abbrev after_invoke : State → List Pushed → List Id → ℕ → Sight → List ℕ → Here → Making → ℕ → List Frame → ℕ → Text → List (Text × Plain) → Run
  after_invoke st stk made pc outside pending h k left fs q n fields =
      let b = st.next a_block in
      let p = into n ∷ next_at h in
      let c = grow_cells_as naming env.app store p fields (make a_block block_row st) in
      let i : Inst = record { id = c.state.next an_instance; path = p; cells = c.names } in
      let gm = block_id b ∷ made in
      go (make an_instance (instance_row i) c.state) stk [] 0 (record {
        getter = None;
        sight = sight q i k.args [] (passing b k.start k.slots outside);
        pending = [];
        here = fresh p;
        making = idle;
        left = left;
        frames = fs ++ record { here = h; kind = in_component (record { getter = None; pc = suc pc; sight = outside; pending = pending }) i (instance_id i.id ∷ (gm ++ c.made)) gm k.args (Some b) } ∷ [];
      })

module _ (naming : Naming) (env : Env) (store : Store) (sound : Sound env) where
  -- recursion over how deep components may still nest
  pub components_go : (left : ℕ) → InvokeGoes naming env store left (grow_components_as naming left env.app store)
  components_go zero st stk made pc outside pending h fs q n number k is_q c ms w ps given bs m = stops refl here
  components_go (suc left) st stk made pc outside pending h fs q n number k is_q c ms w ps given bs m =
      let b = st.next a_block in
      let p = into n ∷ next_at h in
      let low = sound.classes n q number in
      let same_fields = ap (λ k. k.fields) low.class in
      let cs = grow_cells_as naming env.app store p (class_named n env.app.classes).fields (make a_block block_row st) in
      let i : Inst = record { id = cs.state.next an_instance; path = p; cells = cs.names } in
      let gm = block_id b ∷ made in
      let all = instance_id i.id ∷ (gm ++ cs.made) in
      let st1 = make an_instance (instance_row i) cs.state in
      let v = mpassed b ps bs ms in
      let u = passing b k.start k.slots outside in
      let t = (class_named n env.app.classes).template in
      let back : Back = record { getter = None; pc = suc pc; sight = outside; pending = pending } in
      let frame : Frame = record { here = h; kind = in_component back i all gm k.args (Some b) } in
      let inner = fresh p in
      let components = grow_components_as naming left env.app store in
      let yields = grow_yields_as naming env.app components v in
      let P = Placed env c ms w (next_at h) (component_stmt n ps given bs) in
      let e' : Code × State → Run = λ x. go x.1 stk [] (suc pc) (resting outside pending (added x.0 h) idle (suc left) fs) in
      let z = grow_components_as naming (suc left) env.app store p gm k.args (Some b) v (make a_block block_row st) in
      let X : Run → Type 0 = λ r. Goes naming env store P live_of is_deep r z e' in
      let is : IsOf env q i = record { cells = cells_named naming env store p (class_named n env.app.classes).fields (make a_block block_row st) ∙ ap keys same_fields; class = low.class } in
      let go_yields = yields_go naming env store sound left components (components_go left) v in
      let (last, at_body, at_done) = low.lowered in
      let at_body' = subst (λ y. BodyAt (program_no env q) env.manifest (class_no env q) (symbols_of (class_named y env.app.classes).template) [] 0 t last) (sym low.name) at_body in
      let fit = subst (λ y. HasParamsIn (symbols_of (class_named y env.app.classes).template) t) (sym low.name) low.params in
      subst (λ y. X (after_invoke naming env store st stk made pc outside pending h k left fs y (class_no env y).name (class_no env y).fields)) (sym is_q)
      (subst (λ y. X (after_invoke naming env store st stk made pc outside pending h k left fs q y (class_no env q).fields)) (sym low.name)
      (subst (λ y. X (after_invoke naming env store st stk made pc outside pending h k left fs q n y)) same_fields
      (onto naming env store (PlacedIn env q (mscope i k.args [] v) u p 0 t) lives_of are_deep P live_of is_deep
      (go st1 stk [] 0 (room env q i k.args [] v u [] inner idle left (fs ++ frame ∷ []))) (grow_body_as naming env.app components yields (mscope i k.args [] v) p 0 t st1)
      (λ r. go r.1 stk [] last (room env q i k.args [] v u [] (adds r.0 inner) idle left (fs ++ frame ∷ [])))
      (λ r. (component_live i all gm k.args (Some b) r.0, r.1)) e'
      (body_goes naming env store sound q i k.args v u is m (spreads_go naming env store sound v u m) left components yields (components_go left) go_yields
      [] (known_none (symbols_at env q)) [] st1 stk inner (fs ++ frame ∷ []) (λ m r. ap (λ o. unless_parts m o r) (popped-last fs frame)) 0 t last at_body' fit)
      (λ r d. d)
      (λ r fine placed.
      ends (component_code i all gm k.args (Some b) r.0, r.1) refl fine (q, u, refl, placed)
      (at_op naming env store r.1 stk [] last (room env q i k.args [] v u [] (adds r.0 inner) idle left (fs ++ frame ∷ [])) op.Done (length (program_no env q).words) at_done
      (λ j. go r.1 stk [] (suc pc) (resting outside pending (added (component_code i all gm k.args (Some b) r.0) h) idle (suc left) fs))
      (rw (popped-last fs frame, closed_codes r.0 inner refl) refl))))))
