-- What is appended sits right, however it names, where no class repeats the name of a field.
use Rattle.std.proofs.Common.{◌≡◌, ℕ, zero, suc, List, [], ◌∷◌, ◌++◌, Bool, true, false, Option, Some, None, cond, refl, sym, ap, subst, inl, inr}
use Rattle.std.specs.Prelude.{if◌then◌else◌}
use Rattle.std.specs.Str.{bytes_eq}
use Rattle.gl_base.specs.Texts.{Text}
use Rattle.gl_value.specs.Value.{Values, no_values, value}
use Rattle.gl_ast.specs.Template as t
use Rattle.gl_ast.specs.Template.{Plain, no_exprs, expr}
use Rattle.gl_meaning.specs.App.{Class, App}
use Rattle.gl_meaning.specs.Path.{PathStep, at, main, otherwise, items, item, into, slot, empty, attribute_at, modifier_at, Path}
use Rattle.gl_meaning.specs.Eval.{Store, class_named, class_at, cell_value, takes_first}
use Rattle.gl_meaning.specs.Known.{Among}
use Rattle.gl_meaning.specs.Laws.{NoRepeat}
use Rattle.gl_meaning.specs.Order.{names_of}
use Rattle.gl_meaning.specs.Render.{Entry, entries, values_listed, Block, block_named}
use Rattle.gl_meaning.proofs.Once.{Distinct, distinct}
use Rattle.gl_meaning.proofs.Under.{within_outer}
use Rattle.gl_plain.proofs.Apart.{StepsOf, later_apart}
use Rattle.gl_plain.specs.Ids.{a_ref, an_instance, a_block, Id, block_id}
use Rattle.gl_plain.specs.State.{Names, Inst, MScope, mscope, MPassed, mnothing, mpassed, with_names, element_content, instance_row, block_row, State, make}
use Rattle.gl_plain.specs.Naming.{Naming, made_source}
use Rattle.gl_plain.specs.Binding.{bind_exprs_as, bind_args_as, bind_params, Spot, place, first_value}
use Rattle.gl_plain.specs.Parts.{mwritten_parts}
use Rattle.gl_plain.specs.Tags.{bind_written_as, flush_parts}
use Rattle.gl_plain.specs.Live.{item_names, Live, Lives, Items}
use Rattle.gl_plain.specs.Grow.{made_node, Arm, or_comment, item_spot_as, grow_item_as, grow_entries, branch_from, items_or_else, GrowComponents, GrowYields, grow_block, grow_stmt_as, grow_body_as, grow_yields_as, grow_cells_as, grow_components_as, grow_app_as}
use Rattle.gl_naming.specs.Exist.{FieldsDiffer}
use Rattle.gl_naming.proofs.Grown.{arm_lives}
use Rattle.gl_naming.proofs.Sits.{IsBelow, StepIn, Sits, SitsItems, SitsIn}

-- Classes

named_differ : (n : Text) (cs : List Class) → ((c : Class) → Among c cs → NoRepeat (names_of c.fields)) → NoRepeat (names_of (class_named n cs).fields)
named_differ n [] h = tt
named_differ n (c ∷ cs) h = by (bytes_eq n c.name) (named_differ n cs (λ d m. h d (inr m))) where
  by : (b : Bool) → NoRepeat (names_of (class_named n cs).fields) → let d : Class = if b then c else class_named n cs in NoRepeat (names_of d.fields)
  by true rest = h c (inl refl)
  by false rest = rest

pub fields_differ : (app : App) → FieldsDiffer app → (q : Path) → NoRepeat (names_of (class_at app q).fields)
fields_differ app h [] = named_differ app.root app.classes h
fields_differ app h (into c ∷ q) = named_differ c app.classes h
fields_differ app h (at n ∷ q) = tt
fields_differ app h (main ∷ q) = tt
fields_differ app h (otherwise ∷ q) = tt
fields_differ app h (items ∷ q) = tt
fields_differ app h (item k n ∷ q) = tt
fields_differ app h (slot n ∷ q) = tt
fields_differ app h (empty ∷ q) = tt
fields_differ app h (attribute_at n ∷ q) = tt
fields_differ app h (modifier_at n ∷ q) = tt

module _ (naming : Naming) (app : App) where
  cells_named : (σ : Store) (q : Path) (fs : List (Text × Plain)) (st : State) → names_of (grow_cells_as naming app σ q fs st).names ≡ names_of fs
  cells_named σ q [] st = refl
  cells_named σ q (x ∷ fs) st =
      ap (λ ns. x.0 ∷ ns) (cells_named σ q fs (made_source naming (naming.cell_source (st.next a_ref) q x.0) (cell_value app σ q x.0) st))

  -- Arms, branches and items

  pub arm_sits : (p : Path) (r : Lives × State) → SitsIn app p 0 r.0 → SitsIn app p 0 (or_comment r).lives
  arm_sits p r h = subst (SitsIn app p 0) (sym (arm_lives (λ q. q) (λ x. x) (λ x. false) r)) h

  if_sits : (u : Bool) (z : Spot) (p : Path) (f g : Arm) → SitsIn app (main ∷ p) 0 f.lives → SitsIn app (otherwise ∷ p) 0 g.lives → Sits app p (cond {A = Live × State} u (branch_from z true f) (branch_from z false g)).0
  if_sits true z p f g hf hg = hf
  if_sits false z p f g hf hg = hg

  each_sits : (vs : Values Path) (z : Spot) (p : Path) (F : Values Path → Items × State) (g : Arm) → ((us : Values Path) → SitsItems app (items ∷ p) (F us).0) → SitsIn app (otherwise ∷ p) 0 g.lives
      → Sits app p (items_or_else z vs F g).0
  each_sits no_values z p F g hf hg = hg
  each_sits (value u us) z p F g hf hg = hf (value u us)

  abbrev Body : Type 0
  Body = MScope → Path → State → Lives × State

  module _ (body : Body) (hb : (ms : MScope) (q : Path) (st : State) → SitsIn app q 0 (body ms q st).0) (ms : MScope) (ns : List Text) where
    -- the items are at the steps of their entries
    pub steps_of : (l : PathStep) (p : Path) (xs : List Entry) (st : State) → StepIn (grow_entries (grow_item_as naming body ms ns) p xs st).0 l → StepsOf xs l
    steps_of l p [] st m = m
    steps_of l p (x ∷ xs) st (inl e) = inl e
    steps_of l p (x ∷ xs) st (inr m) = inr (steps_of l p xs (grow_item_as naming body ms ns (item x.key x.occurrence ∷ p) x st).arm.state m)

    pub entries_sit : (p : Path) (xs : List Entry) (st : State) → Distinct xs → SitsItems app p (grow_entries (grow_item_as naming body ms ns) p xs st).0
    entries_sit p [] st d = tt
    entries_sit p (x ∷ xs) st d =
        let q = item x.key x.occurrence ∷ p in
        let s = item_spot_as naming ns q x st in
        let r = body (with_names (item_names ns s.0) ms) q s.1 in
        let next = (or_comment r).state in (
          (λ m. later_apart x.key x.occurrence xs d.0 (item x.key x.occurrence) refl (steps_of (item x.key x.occurrence) p xs next m)),
          arm_sits q r (hb (with_names (item_names ns s.0) ms) q s.1),
          entries_sit p xs next d.1,
        )

  -- Templates

  abbrev ComponentsSit : GrowComponents → Type 0
  ComponentsSit d = (p q : Path) (made : List Id) (args : Names) (k : Option ℕ) (w : MPassed) (st : State) → IsBelow p q → Sits app p (d q made args k w st).0

  abbrev YieldsSit : GrowYields → Type 0
  YieldsSit y = (n : Text) (made : List Id) (rs : List ℕ) (p : Path) (st : State) → Sits app p (y n made rs p st).0

  module _ (d : GrowComponents) (y : GrowYields) (hd : ComponentsSit d) (hy : YieldsSit y) where
    mutual
      stmt_sits : (x : t.Stmt) (ms : MScope) (p : Path) (st : State) → Sits app p (grow_stmt_as naming app d y ms p x st).0
      stmt_sits (t.text_stmt z) ms p st = tt
      stmt_sits (t.comment_stmt z) ms p st = tt
      stmt_sits (t.put e) ms p st = tt
      stmt_sits (t.element tag ps b) ms p st =
          let z = bind_written_as naming app (mwritten_parts ms ps) st in let a = flush_parts z.parts z.state in
          body_sits b ms p 0 (made_node (element_content tag a.attrs) a.state)
      stmt_sits (t.component_stmt c ps given bs) ms p st =
          let a = bind_args_as naming app ms given st in
          let z = bind_written_as naming app (mwritten_parts ms ps) a.state in
          let k = z.state.next a_block in
          hd p (into c ∷ p) (block_id k ∷ (a.made ++ z.made)) a.names (Some k) (mpassed k ps bs ms) (make a_block block_row z.state) (λ j w. within_outer (into c) p j w)
      stmt_sits (t.if_stmt e unless b c) ms p st =
          let x = place (bind_exprs_as naming app ms (expr e no_exprs) st) in
          let f = grow_body_as naming app d y ms (main ∷ p) 0 b x.state in
          let g = grow_body_as naming app d y ms (otherwise ∷ p) 0 c x.state in
          if_sits (takes_first unless (first_value x.pairs)) x.spot p (or_comment f) (or_comment g)
          (arm_sits (main ∷ p) f (body_sits b ms (main ∷ p) 0 x.state)) (arm_sits (otherwise ∷ p) g (body_sits c ms (otherwise ∷ p) 0 x.state))
      stmt_sits (t.each e k ns b c) ms p st =
          let x = place (bind_exprs_as naming app ms (expr e no_exprs) st) in
          let body : Body = λ ms' q st'. grow_body_as naming app d y ms' q 0 b st' in
          let F : Values Path → Items × State = λ vs. grow_entries (grow_item_as naming body ms ns) (items ∷ p) (entries k 0 [] vs) x.state in
          let g = grow_body_as naming app d y ms (otherwise ∷ p) 0 c x.state in
          each_sits (values_listed (first_value x.pairs)) x.spot p F (or_comment g)
          (λ vs. entries_sit body (λ ms' q st'. body_sits b ms' q 0 st') ms ns (items ∷ p) (entries k 0 [] vs) x.state (distinct k 0 [] vs))
          (arm_sits (otherwise ∷ p) g (body_sits c ms (otherwise ∷ p) 0 x.state))
      stmt_sits (t.let_stmt es ns b) ms p st =
          let x = bind_exprs_as naming app ms es st in let z = bind_params ns x.ids x.state in body_sits b (with_names z.names ms) (main ∷ p) 0 z.state
      stmt_sits (t.yield es n) ms p st = let x = bind_exprs_as naming app ms es st in hy n x.made x.ids p x.state

      pub body_sits : (b : t.Body) (ms : MScope) (p : Path) (i : ℕ) (st : State) → SitsIn app p i (grow_body_as naming app d y ms p i b st).0
      body_sits t.end ms p i st = tt
      body_sits (t.stmt x b) ms p i st = let r = grow_stmt_as naming app d y ms (at i ∷ p) x st in (stmt_sits x ms (at i ∷ p) st, body_sits b ms p (suc i) r.1)

  block_sits : (n : Text) (p : Path) (o : Option Block) (made : List Id) (rs : List ℕ) (f : Block → Names → State → Lives × State) → ((b : Block) (ns : Names) (st : State) → SitsIn app (slot n ∷ p) 0 (f b ns st).0)
      → (st : State) → Sits app p (grow_block n o made rs f st).0
  block_sits n p None made rs f h st = tt
  block_sits n p (Some b) made rs f h st = let z = bind_params b.params rs st in h b z.names z.state

  module _ (d : GrowComponents) (hd : ComponentsSit d) where
    pub yields_sit : (v : MPassed) → YieldsSit (grow_yields_as naming app d v)
    yields_sit mnothing n made rs p st = tt
    yields_sit (mpassed k ps bs (mscope i a l w)) n made rs p st =
        block_sits n p (block_named n bs) made rs
        (λ b names st'. grow_body_as naming app d (grow_yields_as naming app d w) (mscope i a (l ++ names) w) (slot n ∷ p) 0 b.body st')
        (λ b names st'. body_sits d (grow_yields_as naming app d w) hd (yields_sit w) b.body (mscope i a (l ++ names) w) (slot n ∷ p) 0 st') st

  module _ (σ : Store) where
    pub components_sit : (m : ℕ) → ComponentsSit (grow_components_as naming m app σ)
    components_sit zero p q made args k w st below = tt
    components_sit (suc m) p q made args k w st below =
        let fields = (class_at app q).fields in
        let c = grow_cells_as naming app σ q fields st in
        let i : Inst = record { id = c.state.next an_instance; path = q; cells = c.names } in
        let d = grow_components_as naming m app σ in (
          below,
          cells_named σ q fields st,
          body_sits d (grow_yields_as naming app d w) (components_sit m) (yields_sit d (components_sit m) w) (class_at app q).template (mscope i args [] w) q 0 (make an_instance (instance_row i) c.state),
        )

    pub app_sits : (st : State) → Sits app [] (grow_app_as naming app σ st).0
    app_sits st = components_sit app.limit [] [] [] [] None mnothing st (λ j w. w)
