-- The numbers that a tree's names have rise in the order in which it is appended: each is new when it is given.
use Rattle.std.proofs.Common.{◌≤◌, ◌<◌, ℕ, zero, suc, List, [], ◌∷◌, ◌++◌, Bool, true, false, Option, Some, None, cond, refl, sym, subst, arith, inl, inr}
use Rattle.std.proofs.lemmas.List.{map-append}
use Rattle.gl_base.specs.Texts.{Text}
use Rattle.gl_value.specs.Value.{Values, no_values, value, text_of}
use Rattle.gl_ast.specs.Template as t
use Rattle.gl_ast.specs.Template.{Plain, no_exprs, expr}
use Rattle.gl_meaning.specs.App.{App}
use Rattle.gl_meaning.specs.Path.{at, main, otherwise, items, item, into, slot, Path}
use Rattle.gl_meaning.specs.Eval.{Store, class_at, takes_first}
use Rattle.gl_meaning.specs.Known.{Among}
use Rattle.gl_meaning.specs.Laws.{NoRepeat}
use Rattle.gl_meaning.specs.Render.{Entry, entries, values_listed, Block, block_named}
use Rattle.gl_plain.specs.Ids.{a_node, an_instance, a_block, Kind, Id, block_id}
use Rattle.gl_plain.specs.State.{Names, Inst, MScope, mscope, MPassed, mnothing, mpassed, with_names, text_content, comment_content, element_content, instance_row, block_row, State, make}
use Rattle.gl_plain.specs.Naming.{by_number}
use Rattle.gl_plain.specs.Binding.{bind_exprs_as, bind_args_as, bind_params, Spot, place, first_value}
use Rattle.gl_plain.specs.Parts.{mwritten_parts}
use Rattle.gl_plain.specs.Tags.{bind_written_as, flush_parts, modifiers_waiting, install_parts}
use Rattle.gl_plain.specs.Live.{ItemSpot, item_names, Live, Lives, Items}
use Rattle.gl_plain.specs.Grow.{made_node, Arm, or_comment, item_spot_as, grow_item_as, grow_entries, branch_from, items_or_else, GrowComponents, GrowYields, grow_block, grow_stmt_as, grow_body_as, grow_yields_as, grow_cells_as, grow_components_as, grow_app_as}
use Rattle.gl_naming.proofs.Grown.{arm_lives}
use Rattle.gl_naming.proofs.Later.{Later, later_all, later_then, later_make, exprs_later, args_later, written_later, params_later, place_later, flush_later, mods_later, node_later, arm_later}
use Rattle.gl_naming.proofs.Swaps.{numbers}
use Rattle.gl_naming.proofs.Ties.{ties, ties_items, ties_in}

-- the numbers rise, from n on and below m
abbrev pub Rises : ℕ → List ℕ → ℕ → Type 0
Rises n [] m = n ≤ m
Rises n (k ∷ ks) m = (n ≤ k) × Rises (suc k) ks m

pub rises_sooner : (n k m : ℕ) (xs : List ℕ) → n ≤ k → Rises k xs m → Rises n xs m
rises_sooner n k m [] le h = omega (arith, le, h)
rises_sooner n k m (x ∷ xs) le h = (let i = h.0 in omega (arith, le, i), h.1)

pub rises_join : (n k m : ℕ) (xs ys : List ℕ) → Rises n xs k → Rises k ys m → Rises n (xs ++ ys) m
rises_join n k m [] ys h g = rises_sooner n k m ys h g
rises_join n k m (x ∷ xs) ys h g = (h.0, rises_join (suc x) k m xs ys h.1 g)

pub rises_later : (n m k : ℕ) (xs : List ℕ) → m ≤ k → Rises n xs m → Rises n xs k
rises_later n m k [] le h = omega (arith, le, h)
rises_later n m k (x ∷ xs) le h = (h.0, rises_later (suc x) m k xs le h.1)

pub rises_least : (n m : ℕ) (xs : List ℕ) → Rises n xs m → n ≤ m
rises_least n m [] h = h
rises_least n m (x ∷ xs) h = let i = h.0 in let k = rises_least (suc x) m xs h.1 in omega (arith, i, k)

pub rises_above : (n m x : ℕ) (xs : List ℕ) → Rises n xs m → Among x xs → n ≤ x
rises_above n m x [] h a = absurd a
rises_above n m x (y ∷ ys) h (inl e) = let i = h.0 in omega (arith, i, e)
rises_above n m x (y ∷ ys) h (inr a) = let i = h.0 in let k = rises_above (suc y) m x ys h.1 a in omega (arith, i, k)

pub rises_below : (n m x : ℕ) (xs : List ℕ) → Rises n xs m → Among x xs → x < m
rises_below n m x [] h a = absurd a
rises_below n m x (y ∷ ys) h (inl e) = let i = rises_least (suc y) m ys h.1 in omega (arith, i, e)
rises_below n m x (y ∷ ys) h (inr a) = rises_below (suc y) m x ys h.1 a

-- so none comes again
pub rises_differ : (n m : ℕ) (xs : List ℕ) → Rises n xs m → NoRepeat xs
rises_differ n m [] h = tt
rises_differ n m (x ∷ xs) h = ((λ a. let k = rises_above (suc x) m x xs h.1 a in omega (arith, k)), rises_differ (suc x) m xs h.1)

-- Of one kind, given what an instance and an item have.
module _ (kind : Kind) {A : Type 0} (of_instance : Inst → List (ℕ × A)) (of_item : Path → ItemSpot → List (ℕ × A)) where
  abbrev pub Goes : State → List (ℕ × A) → State → Type 0
  Goes st xs st' = Rises (st.next kind) (numbers xs) (st'.next kind)

  more : (st st' : State) → Later st st' → st.next kind ≤ st'.next kind
  more st st' h = h.more (record { kind = kind; num = 0 })

  pub goes_join : (st st1 st2 : State) (xs ys : List (ℕ × A)) → Goes st xs st1 → Goes st1 ys st2 → Goes st (xs ++ ys) st2
  goes_join st st1 st2 xs ys h g =
      subst (λ ns. Rises (st.next kind) ns (st2.next kind)) (sym (map-append (λ x. x.0) xs ys)) (rises_join (st.next kind) (st1.next kind) (st2.next kind) (numbers xs) (numbers ys) h g)

  -- after steps that have none of these
  goes_after : (st st1 st2 : State) (xs : List (ℕ × A)) → Later st st1 → Goes st1 xs st2 → Goes st xs st2
  goes_after st st1 st2 xs h g = rises_sooner (st.next kind) (st1.next kind) (st2.next kind) (numbers xs) (more st st1 h) g

  -- and before such
  goes_on : (st st1 st2 : State) (xs : List (ℕ × A)) → Goes st xs st1 → Later st1 st2 → Goes st xs st2
  goes_on st st1 st2 xs g h = rises_later (st.next kind) (st1.next kind) (st2.next kind) (numbers xs) (more st1 st2 h) g

  abbrev all_of : Path → Live → List (ℕ × A)
  all_of p l = ties of_instance of_item p l

  abbrev all_items : Path → Items → List (ℕ × A)
  all_items p is = ties_items of_instance of_item p is

  abbrev all_in : Path → ℕ → Lives → List (ℕ × A)
  all_in p i ls = ties_in of_instance of_item p i ls

  -- Arms, branches and items

  abbrev pub GoesIn : Path → State → Lives × State → Type 0
  GoesIn p st r = Goes st (all_in p 0 r.0) r.1

  pub arm_goes : (p : Path) (st : State) (r : Lives × State) → GoesIn p st r → Goes st (all_in p 0 (or_comment r).lives) (or_comment r).state
  arm_goes p st r h =
      subst (λ ls. Goes st (all_in p 0 ls) (or_comment r).state) (sym (arm_lives (λ q. q) (λ x. x) (λ x. false) r))
      (goes_on st r.1 (or_comment r).state (all_in p 0 r.0) h (arm_later r.1 r (later_all r.1)))

  if_goes : (u : Bool) (z : Spot) (p : Path) (st : State) (f g : Arm) → Goes st (all_in (main ∷ p) 0 f.lives) f.state → Goes st (all_in (otherwise ∷ p) 0 g.lives) g.state
      → let r = cond {A = Live × State} u (branch_from z true f) (branch_from z false g) in Goes st (all_of p r.0) r.1
  if_goes true z p st f g hf hg = hf
  if_goes false z p st f g hf hg = hg

  each_goes : (vs : Values Path) (z : Spot) (p : Path) (st : State) (F : Values Path → Items × State) (g : Arm)
      → ((us : Values Path) → Goes st (all_items (items ∷ p) (F us).0) (F us).1) → Goes st (all_in (otherwise ∷ p) 0 g.lives) g.state
      → let r = items_or_else z vs F g in Goes st (all_of p r.0) r.1
  each_goes no_values z p st F g hf hg = hg
  each_goes (value u us) z p st F g hf hg = hf (value u us)

  abbrev pub Body : Type 0
  Body = MScope → Path → State → Lives × State

  abbrev pub ItemsGo : Type 0
  ItemsGo = (ns : List Text) (q : Path) (x : Entry) (st : State) → let s = item_spot_as by_number ns q x st in Goes st (of_item q s.0) s.1

  module _ (at_item : ItemsGo) where
    module _ (body : Body) (hb : (ms : MScope) (q : Path) (st : State) → GoesIn q st (body ms q st)) (ms : MScope) (ns : List Text) where
      pub entries_go : (p : Path) (xs : List Entry) (st : State) → let r = grow_entries (grow_item_as by_number body ms ns) p xs st in Goes st (all_items p r.0) r.1
      entries_go p [] st = omega arith
      entries_go p (x ∷ xs) st =
          let q = item x.key x.occurrence ∷ p in
          let s = item_spot_as by_number ns q x st in
          let b = body (with_names (item_names ns s.0) ms) q s.1 in
          let a = or_comment b in
          let r = grow_entries (grow_item_as by_number body ms ns) p xs a.state in
          goes_join st a.state r.1 (of_item q s.0 ++ all_in q 0 a.lives) (all_items p r.0)
          (goes_join st s.1 a.state (of_item q s.0) (all_in q 0 a.lives) (at_item ns q x st) (arm_goes q s.1 b (hb (with_names (item_names ns s.0) ms) q s.1)))
          (entries_go p xs a.state)

    -- Templates

    abbrev ComponentsGo : GrowComponents → Type 0
    ComponentsGo d = (p q : Path) (made : List Id) (args : Names) (k : Option ℕ) (w : MPassed) (st : State) → let r = d q made args k w st in Goes st (all_of p r.0) r.1

    abbrev YieldsGo : GrowYields → Type 0
    YieldsGo y = (n : Text) (made : List Id) (rs : List ℕ) (p : Path) (st : State) → let r = y n made rs p st in Goes st (all_of p r.0) r.1

    module _ (app : App) (d : GrowComponents) (y : GrowYields) (hd : ComponentsGo d) (hy : YieldsGo y) where
      mutual
        stmt_goes : (x : t.Stmt) (ms : MScope) (p : Path) (st : State) → let r = grow_stmt_as by_number app d y ms p x st in Goes st (all_of p r.0) r.1
        stmt_goes (t.text_stmt z) ms p st = more st (made_node (text_content z) st) (node_later (text_content z) st)
        stmt_goes (t.comment_stmt z) ms p st = more st (made_node (comment_content z) st) (node_later (comment_content z) st)
        stmt_goes (t.put e) ms p st =
            let b = bind_exprs_as by_number app ms (expr e no_exprs) st in
            let x = place b in
            let c = text_content (text_of (first_value x.pairs)) in
            more st (made_node c x.state) (later_then st x.state (made_node c x.state) (place_later st b (exprs_later app ms (expr e no_exprs) st)) (node_later c x.state))
        stmt_goes (t.element tag ps b) ms p st =
            let z = bind_written_as by_number app (mwritten_parts ms ps) st in
            let a = flush_parts z.parts z.state in
            let st1 = made_node (element_content tag a.attrs) a.state in
            let r = grow_body_as by_number app d y ms p 0 b st1 in
            let m = install_parts (a.state.next a_node) 0 z.parts r.1 in
            goes_on st r.1 m.state (all_in p 0 r.0)
            (goes_after st st1 r.1 (all_in p 0 r.0)
            (later_then st a.state st1 (later_then st z.state a.state (written_later app (mwritten_parts ms ps) st) (flush_later z.parts z.state)) (node_later (element_content tag a.attrs) a.state))
            (body_goes b ms p 0 st1)) (mods_later (a.state.next a_node) 0 (modifiers_waiting z.parts) r.1)
        stmt_goes (t.component_stmt c ps given bs) ms p st =
            let a = bind_args_as by_number app ms given st in
            let z = bind_written_as by_number app (mwritten_parts ms ps) a.state in
            let k = z.state.next a_block in
            let st1 = make a_block block_row z.state in
            let made = block_id k ∷ (a.made ++ z.made) in
            let r = d (into c ∷ p) made a.names (Some k) (mpassed k ps bs ms) st1 in
            goes_after st st1 r.1 (all_of p r.0)
            (later_then st z.state st1 (later_then st a.state z.state (args_later app ms given st) (written_later app (mwritten_parts ms ps) a.state)) (later_make a_block block_row z.state refl))
            (hd p (into c ∷ p) made a.names (Some k) (mpassed k ps bs ms) st1)
        stmt_goes (t.if_stmt e unless b c) ms p st =
            let x0 = bind_exprs_as by_number app ms (expr e no_exprs) st in
            let x = place x0 in
            let f = grow_body_as by_number app d y ms (main ∷ p) 0 b x.state in
            let g = grow_body_as by_number app d y ms (otherwise ∷ p) 0 c x.state in
            let r = cond {A = Live × State} (takes_first unless (first_value x.pairs)) (branch_from x.spot true (or_comment f)) (branch_from x.spot false (or_comment g)) in
            goes_after st x.state r.1 (all_of p r.0) (place_later st x0 (exprs_later app ms (expr e no_exprs) st))
            (if_goes (takes_first unless (first_value x.pairs)) x.spot p x.state (or_comment f) (or_comment g)
            (arm_goes (main ∷ p) x.state f (body_goes b ms (main ∷ p) 0 x.state)) (arm_goes (otherwise ∷ p) x.state g (body_goes c ms (otherwise ∷ p) 0 x.state)))
        stmt_goes (t.each e k ns b c) ms p st =
            let x0 = bind_exprs_as by_number app ms (expr e no_exprs) st in
            let x = place x0 in
            let body : Body = λ ms' q st'. grow_body_as by_number app d y ms' q 0 b st' in
            let F : Values Path → Items × State = λ vs. grow_entries (grow_item_as by_number body ms ns) (items ∷ p) (entries k 0 [] vs) x.state in
            let g = grow_body_as by_number app d y ms (otherwise ∷ p) 0 c x.state in
            let r = items_or_else x.spot (values_listed (first_value x.pairs)) F (or_comment g) in
            goes_after st x.state r.1 (all_of p r.0) (place_later st x0 (exprs_later app ms (expr e no_exprs) st))
            (each_goes (values_listed (first_value x.pairs)) x.spot p x.state F (or_comment g)
            (λ vs. entries_go body (λ ms' q st'. body_goes b ms' q 0 st') ms ns (items ∷ p) (entries k 0 [] vs) x.state)
            (arm_goes (otherwise ∷ p) x.state g (body_goes c ms (otherwise ∷ p) 0 x.state)))
        stmt_goes (t.let_stmt es ns b) ms p st =
            let x = bind_exprs_as by_number app ms es st in
            let z = bind_params ns x.ids x.state in
            let r = grow_body_as by_number app d y (with_names z.names ms) (main ∷ p) 0 b z.state in
            goes_after st z.state r.1 (all_in (main ∷ p) 0 r.0) (later_then st x.state z.state (exprs_later app ms es st) (params_later ns x.ids x.state))
            (body_goes b (with_names z.names ms) (main ∷ p) 0 z.state)
        stmt_goes (t.yield es n) ms p st =
            let x = bind_exprs_as by_number app ms es st in
            let r = y n x.made x.ids p x.state in
            goes_after st x.state r.1 (all_of p r.0) (exprs_later app ms es st) (hy n x.made x.ids p x.state)

        pub body_goes : (b : t.Body) (ms : MScope) (p : Path) (i : ℕ) (st : State) → let r = grow_body_as by_number app d y ms p i b st in Goes st (all_in p i r.0) r.1
        body_goes t.end ms p i st = omega arith
        body_goes (t.stmt x b) ms p i st =
            let r = grow_stmt_as by_number app d y ms (at i ∷ p) x st in
            let z = grow_body_as by_number app d y ms p (suc i) b r.1 in
            goes_join st r.1 z.1 (all_of (at i ∷ p) r.0) (all_in p (suc i) z.0) (stmt_goes x ms (at i ∷ p) st) (body_goes b ms p (suc i) r.1)

    block_goes : (n : Text) (p : Path) (o : Option Block) (made : List Id) (rs : List ℕ) (f : Block → Names → State → Lives × State)
        → ((b : Block) (ns : Names) (st : State) → GoesIn (slot n ∷ p) st (f b ns st)) → (st : State) → let r = grow_block n o made rs f st in Goes st (all_of p r.0) r.1
    block_goes n p None made rs f h st = omega arith
    block_goes n p (Some b) made rs f h st =
        let z = bind_params b.params rs st in let r = f b z.names z.state in
        goes_after st z.state r.1 (all_in (slot n ∷ p) 0 r.0) (params_later b.params rs st) (h b z.names z.state)

    module _ (app : App) (d : GrowComponents) (hd : ComponentsGo d) where
      pub yields_go : (v : MPassed) → YieldsGo (grow_yields_as by_number app d v)
      yields_go mnothing n made rs p st = omega arith
      yields_go (mpassed k ps bs (mscope i a l w)) n made rs p st =
          block_goes n p (block_named n bs) made rs
          (λ b names st'. grow_body_as by_number app d (grow_yields_as by_number app d w) (mscope i a (l ++ names) w) (slot n ∷ p) 0 b.body st')
          (λ b names st'. body_goes app d (grow_yields_as by_number app d w) hd (yields_go w) b.body (mscope i a (l ++ names) w) (slot n ∷ p) 0 st') st

    -- what an instance has is new too
    abbrev pub InstancesGo : App → Store → Type 0
    InstancesGo app σ =
        (q : Path) (fs : List (Text × Plain)) (st : State) → let c = grow_cells_as by_number app σ q fs st in
        let i : Inst = record { id = c.state.next an_instance; path = q; cells = c.names } in Goes st (of_instance i) (make an_instance (instance_row i) c.state)

    module _ (app : App) (σ : Store) (at_instance : InstancesGo app σ) where
      pub components_go : (m : ℕ) → ComponentsGo (grow_components_as by_number m app σ)
      components_go zero p q made args k w st = omega arith
      components_go (suc m) p q made args k w st =
          let fields = (class_at app q).fields in
          let c = grow_cells_as by_number app σ q fields st in
          let i : Inst = record { id = c.state.next an_instance; path = q; cells = c.names } in
          let st1 = make an_instance (instance_row i) c.state in
          let d = grow_components_as by_number m app σ in
          let r = grow_body_as by_number app d (grow_yields_as by_number app d w) (mscope i args [] w) q 0 (class_at app q).template st1 in
          goes_join st st1 r.1 (of_instance i) (all_in q 0 r.0) (at_instance q fields st)
          (body_goes app d (grow_yields_as by_number app d w) (components_go m) (yields_go app d (components_go m) w) (class_at app q).template (mscope i args [] w) q 0 st1)

      pub app_goes : (st : State) → let r = grow_app_as by_number app σ st in Goes st (all_of [] r.0) r.1
      app_goes st = components_go app.limit [] [] [] [] None mnothing st
