-- What is read of a store: what it has for new instances, and nothing else.
use Rattle.std.proofs.Common.{◌≡◌, ℕ, zero, suc, List, [], ◌∷◌, ◌++◌, true, false, Option, Some, None, cond, refl, ap, ap₂, ◌∙◌}
use Rattle.gl_base.specs.Texts.{Text}
use Rattle.gl_value.specs.Value.{Values}
use Rattle.gl_ast.specs.Template as t
use Rattle.gl_ast.specs.Template.{Plain, no_exprs, expr}
use Rattle.gl_meaning.specs.App.{App}
use Rattle.gl_meaning.specs.Path.{PathStep, at, main, otherwise, items, item, into, slot, Path, V}
use Rattle.gl_meaning.specs.Eval.{Store, class_at, cell_value, takes_first}
use Rattle.gl_meaning.specs.Laws.{Within}
use Rattle.gl_meaning.specs.Render.{Entry, entries, values_listed, Block, block_named}
use Rattle.gl_meaning.proofs.Under.{within_outer, within_itself}
use Rattle.gl_plain.specs.Ids.{a_ref, a_node, a_block, an_instance, Id, block_id, instance_id, ref}
use Rattle.gl_plain.specs.State.{MScope, mscope, MPassed, mnothing, mpassed, Inst, Names, with_names, element_content, instance_row, block_row, State, make, refs_of}
use Rattle.gl_plain.specs.Naming.{by_number, made_source}
use Rattle.gl_plain.specs.Binding.{BoundNames, bind_exprs_as, bind_args_as, bind_params, place, first_value}
use Rattle.gl_plain.specs.Parts.{mwritten_parts}
use Rattle.gl_plain.specs.Tags.{bind_written_as, flush_parts, install_parts}
use Rattle.gl_plain.specs.Live
use Rattle.gl_plain.specs.Live.{item_names, Live, Lives, Items}
use Rattle.gl_plain.specs.Grow.{made_node, or_comment, ItemGrown, item_spot_as, grow_item_as, grow_entries, branch_from, items_or_else, GrowComponents, GrowYields, grow_block, grow_stmt_as, grow_body_as, grow_yields_as, grow_cells_as, grow_components_as}
use Rattle.gl_plain.specs.Renew.{fresh_body_as, fresh_items_as}

module _ (app : App) (σ τ : Store) where
  abbrev pub Agree : Path → Type 0
  Agree q = (x : Text) → cell_value app σ q x ≡ cell_value app τ q x

  -- both have the same at a place and below it
  abbrev pub Below : Path → Type 0
  Below p = (q : Path) → Within p q → Agree q

  below_step : (l : PathStep) (p : Path) → Below p → Below (l ∷ p)
  below_step l p h q w = h q (within_outer l p q w)

  cells_read : (q : Path) (fs : List (Text × Plain)) (st : State) → Agree q → grow_cells_as by_number app σ q fs st ≡ grow_cells_as by_number app τ q fs st
  cells_read q [] st h = refl
  cells_read q (x ∷ fs) st h =
      let n = st.next a_ref in
      let next : V → State = λ v. made_source by_number (by_number.cell_source n q x.0) v st in
      let done : BoundNames → BoundNames = λ c. record { names = (x.0, n) ∷ c.names; made = ref n ∷ c.made; state = c.state } in
      ap (λ v. done (grow_cells_as by_number app σ q fs (next v))) (h x.0) ∙ ap done (cells_read q fs (next (cell_value app τ q x.0)) h)

  -- Items

  entries_read : (one other : Path → Entry → State → ItemGrown) → ((q : Path) (x : Entry) (st : State) → Below q → one q x st ≡ other q x st)
      → (p : Path) (xs : List Entry) (st : State) → Below p → grow_entries one p xs st ≡ grow_entries other p xs st
  entries_read one other h p [] st b = refl
  entries_read one other h p (x ∷ xs) st b =
      let q = item x.key x.occurrence ∷ p in
      let g = other q x st in
      ap (λ (y : ItemGrown). let r = grow_entries one p xs y.arm.state in (Live.item_live y.spot y.arm.comment y.arm.lives r.0, r.1)) (h q x st (below_step (item x.key x.occurrence) p b))
      ∙ ap (λ (r : Items × State). (Live.item_live g.spot g.arm.comment g.arm.lives r.0, r.1)) (entries_read one other h p xs g.arm.state b)

  item_read : (body other : MScope → Path → State → Lives × State) → ((ms : MScope) (q : Path) (st : State) → Below q → body ms q st ≡ other ms q st)
      → (ms : MScope) (ns : List Text) (q : Path) (x : Entry) (st : State) → Below q → grow_item_as by_number body ms ns q x st ≡ grow_item_as by_number other ms ns q x st
  item_read body other h ms ns q x st b =
      let s = item_spot_as by_number ns q x st in ap (λ (r : Lives × State). record { spot = s.0; arm = or_comment r }) (h (with_names (item_names ns s.0) ms) q s.1 b)

  -- Templates

  abbrev SameComponents : GrowComponents → GrowComponents → Type 0
  SameComponents d e = (q : Path) (made : List Id) (args : Names) (k : Option ℕ) (w : MPassed) (st : State) → Below q → d q made args k w st ≡ e q made args k w st

  abbrev SameYields : GrowYields → GrowYields → Type 0
  SameYields y z = (n : Text) (made : List Id) (rs : List ℕ) (p : Path) (st : State) → Below p → y n made rs p st ≡ z n made rs p st

  module _ (d e : GrowComponents) (y z : GrowYields) (hd : SameComponents d e) (hy : SameYields y z) where
    mutual
      stmt_read : (x : t.Stmt) (ms : MScope) (p : Path) (st : State) → Below p → grow_stmt_as by_number app d y ms p x st ≡ grow_stmt_as by_number app e z ms p x st
      stmt_read (t.text_stmt u) ms p st h = refl
      stmt_read (t.comment_stmt u) ms p st h = refl
      stmt_read (t.put x) ms p st h = refl
      stmt_read (t.element tag ps b) ms p st h =
          let w = bind_written_as by_number app (mwritten_parts ms ps) st in
          let a = flush_parts w.parts w.state in
          let n = a.state.next a_node in
          ap (λ (r : Lives × State). let m = install_parts n 0 w.parts r.1 in (Live.element_live n w.made a.spots m.spots r.0, m.state)) (body_read b ms p 0 (made_node (element_content tag a.attrs) a.state) h)
      stmt_read (t.component_stmt c ps given bs) ms p st h =
          let a = bind_args_as by_number app ms given st in
          let w = bind_written_as by_number app (mwritten_parts ms ps) a.state in
          let k = w.state.next a_block in
          hd (into c ∷ p) (block_id k ∷ (a.made ++ w.made)) a.names (Some k) (mpassed k ps bs ms) (make a_block block_row w.state) (below_step (into c) p h)
      stmt_read (t.if_stmt x unless b c) ms p st h =
          let s = place (bind_exprs_as by_number app ms (expr x no_exprs) st) in
          ap₂ (λ (f g : Lives × State). cond {A = Live × State} (takes_first unless (first_value s.pairs)) (branch_from s.spot true (or_comment f)) (branch_from s.spot false (or_comment g)))
          (body_read b ms (main ∷ p) 0 s.state (below_step main p h)) (body_read c ms (otherwise ∷ p) 0 s.state (below_step otherwise p h))
      stmt_read (t.each x k ns b c) ms p st h =
          let s = place (bind_exprs_as by_number app ms (expr x no_exprs) st) in
          let one : MScope → Path → State → Lives × State = λ ms' q st'. grow_body_as by_number app d y ms' q 0 b st' in
          let other : MScope → Path → State → Lives × State = λ ms' q st'. grow_body_as by_number app e z ms' q 0 b st' in
          let list : (us : Values Path) → grow_entries (grow_item_as by_number one ms ns) (items ∷ p) (entries k 0 [] us) s.state ≡ grow_entries (grow_item_as by_number other ms ns) (items ∷ p) (entries k 0 [] us) s.state =
          (λ us. entries_read (grow_item_as by_number one ms ns) (grow_item_as by_number other ms ns) (λ q u st' w. item_read one other (λ ms' q' st'' w'. body_read b ms' q' 0 st'' w') ms ns q u st' w) (items ∷ p) (entries k 0 [] us) s.state (below_step items p h)) in
          let rest = body_read c ms (otherwise ∷ p) 0 s.state (below_step otherwise p h) in
          (λ j. items_or_else s.spot (values_listed (first_value s.pairs)) (λ us. list us j) (or_comment (rest j)))
      stmt_read (t.let_stmt es ns b) ms p st h =
          let x = bind_exprs_as by_number app ms es st in
          let w = bind_params ns x.ids x.state in
          ap (λ (r : Lives × State). (Live.let_live (x.made ++ w.made) (refs_of w.names) r.0, r.1)) (body_read b (with_names w.names ms) (main ∷ p) 0 w.state (below_step main p h))
      stmt_read (t.yield es n) ms p st h = let x = bind_exprs_as by_number app ms es st in hy n x.made x.ids p x.state h

      body_read : (b : t.Body) (ms : MScope) (p : Path) (i : ℕ) (st : State) → Below p → grow_body_as by_number app d y ms p i b st ≡ grow_body_as by_number app e z ms p i b st
      body_read t.end ms p i st h = refl
      body_read (t.stmt x b) ms p i st h =
          let r = grow_stmt_as by_number app e z ms (at i ∷ p) x st in
          ap (λ (v : Live × State). let w = grow_body_as by_number app d y ms p (suc i) b v.1 in (Live.live_and v.0 w.0, w.1)) (stmt_read x ms (at i ∷ p) st (below_step (at i) p h))
          ∙ ap (λ (w : Lives × State). (Live.live_and r.0 w.0, w.1)) (body_read b ms p (suc i) r.1 h)

  block_read : (n : Text) (o : Option Block) (made : List Id) (rs : List ℕ) (f g : Block → Names → State → Lives × State) → ((b : Block) (ns : Names) (st : State) → f b ns st ≡ g b ns st)
      → (st : State) → grow_block n o made rs f st ≡ grow_block n o made rs g st
  block_read n None made rs f g h st = refl
  block_read n (Some b) made rs f g h st =
      let y = bind_params b.params rs st in ap (λ (r : Lives × State). (Live.yield_live n (made ++ y.made) (refs_of y.names) r.0, r.1)) (h b y.names y.state)

  yields_read : (d e : GrowComponents) → SameComponents d e → (v : MPassed) → SameYields (grow_yields_as by_number app d v) (grow_yields_as by_number app e v)
  yields_read d e hd mnothing n made rs p st h = refl
  yields_read d e hd (mpassed k ps bs (mscope i a l w)) n made rs p st h =
      block_read n (block_named n bs) made rs
      (λ b names st'. grow_body_as by_number app d (grow_yields_as by_number app d w) (mscope i a (l ++ names) w) (slot n ∷ p) 0 b.body st')
      (λ b names st'. grow_body_as by_number app e (grow_yields_as by_number app e w) (mscope i a (l ++ names) w) (slot n ∷ p) 0 b.body st')
      (λ b names st'. body_read d e (grow_yields_as by_number app d w) (grow_yields_as by_number app e w) hd (yields_read d e hd w) b.body (mscope i a (l ++ names) w) (slot n ∷ p) 0 st' (below_step (slot n) p h)) st

  components_read : (m : ℕ) → SameComponents (grow_components_as by_number m app σ) (grow_components_as by_number m app τ)
  components_read zero q made args k w st h = refl
  components_read (suc m) q made args k w st h =
      let fields = (class_at app q).fields in
      let d = grow_components_as by_number m app σ in
      let e = grow_components_as by_number m app τ in
      let c = grow_cells_as by_number app τ q fields st in
      let of : BoundNames → Inst = λ b. record { id = b.state.next an_instance; path = q; cells = b.names } in
      let whole : GrowComponents → BoundNames → Live × State = λ f b.
      (let i = of b in let r = grow_body_as by_number app f (grow_yields_as by_number app f w) (mscope i args [] w) q 0 (class_at app q).template (make an_instance (instance_row i) b.state) in
      (Live.component_live i (instance_id i.id ∷ (made ++ b.made)) made args k r.0, r.1)) in
      let i = of c in
      ap (whole d) (cells_read q fields st (h q (within_itself q)))
      ∙ ap (λ (r : Lives × State). (Live.component_live i (instance_id i.id ∷ (made ++ c.made)) made args k r.0, r.1))
      (body_read d e (grow_yields_as by_number app d w) (grow_yields_as by_number app e w) (components_read m) (yields_read d e (components_read m) w) (class_at app q).template (mscope i args [] w) q 0 (make an_instance (instance_row i) c.state) h)

  pub fresh_read : (m : ℕ) (ms : MScope) (q : Path) (b : t.Body) (st : State) → Below q → fresh_body_as by_number app σ m ms q b st ≡ fresh_body_as by_number app τ m ms q b st
  fresh_read m (mscope i a l w) q b st h =
      let d = grow_components_as by_number m app σ in
      let e = grow_components_as by_number m app τ in
      body_read d e (grow_yields_as by_number app d w) (grow_yields_as by_number app e w) (components_read m) (yields_read d e (components_read m) w) b (mscope i a l w) q 0 st h

  pub fresh_item_read : (m : ℕ) (ms : MScope) (ns : List Text) (b : t.Body) (q : Path) (x : Entry) (st : State) → Below q → fresh_items_as by_number app σ m ms ns b q x st ≡ fresh_items_as by_number app τ m ms ns b q x st
  fresh_item_read m ms ns b q x st h =
      item_read (λ ms' q' st'. fresh_body_as by_number app σ m ms' q' b st') (λ ms' q' st'. fresh_body_as by_number app τ m ms' q' b st') (λ ms' q' st' w. fresh_read m ms' q' b st' w) ms ns q x st h

  pub fresh_list_read : (m : ℕ) (ms : MScope) (ns : List Text) (b : t.Body) (p : Path) (xs : List Entry) (st : State) → Below p
      → grow_entries (fresh_items_as by_number app σ m ms ns b) p xs st ≡ grow_entries (fresh_items_as by_number app τ m ms ns b) p xs st
  fresh_list_read m ms ns b p xs st h = entries_read (fresh_items_as by_number app σ m ms ns b) (fresh_items_as by_number app τ m ms ns b) (λ q x st' w. fresh_item_read m ms ns b q x st' w) p xs st h
