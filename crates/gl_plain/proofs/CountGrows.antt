-- What is appended has all nodes that were made, in order, and all positions that were evaluated, in order.
use Rattle.std.proofs.Common.{ℕ, zero, suc, List, [], ◌∷◌, ◌++◌, Bool, true, false, Option, Some, None, cond, refl, sym, subst}
use Rattle.std.specs.Prelude.{if◌then◌else◌}
use Rattle.std.proofs.lemmas.List.{append-nil}
use Rattle.gl_base.specs.Texts.{Text}
use Rattle.gl_value.specs.Value.{Values, no_values, value, count_value, text_of}
use Rattle.gl_ast.specs.Template as t
use Rattle.gl_meaning.specs.App.{App}
use Rattle.gl_meaning.specs.Path.{at, main, otherwise, items, item, into, slot, Path}
use Rattle.gl_meaning.specs.Scope.{item_value, item_index}
use Rattle.gl_meaning.specs.Eval.{Store, class_at, takes_first}
use Rattle.gl_meaning.specs.Render.{Entry, entries, values_listed, Block, block_named}
use Rattle.gl_plain.specs.Ids.{a_ref, a_node, an_instance, a_block, Id, block_id}
use Rattle.gl_plain.specs.State.{source_form, Names, Inst, MScope, mscope, MPassed, mnothing, mpassed, with_names, Content, comment_content, text_content, element_content, content, instance_row, block_row, State, make}
use Rattle.gl_plain.specs.Binding.{Spot, made_row, bind_exprs, bind_args, bind_params, place, first_value}
use Rattle.gl_plain.specs.Tags.{bind_written, flush_parts, install_parts}
use Rattle.gl_plain.specs.Parts.{mwritten_parts}
use Rattle.gl_plain.specs.Live.{Live, Lives, Items, have_node, item_names}
use Rattle.gl_plain.specs.Grow.{made_node, Arm, or_comment, ItemGrown, item_spot, grow_item, grow_entries, branch_from, items_or_else, GrowComponents, GrowYields, grow_stmt, grow_body, grow_block, grow_yields, grow_cells, grow_components, grow_app}
use Rattle.gl_plain.specs.Stands.{one_expr}
use Rattle.gl_plain.specs.Laws.{AppendedMakes, AppendedEvaluates}
use Rattle.gl_plain.specs.Counts.{comment_node, nodes_of, nodes_items, nodes_in, attr_positions, mod_positions, positions_of, positions_items, positions_in}
use Rattle.gl_plain.proofs.Counts.{Steps, leaves_make, no_steps, then_steps, then_nodes, then_positions, one_row, exprs_steps, args_steps, written_steps, cells_steps, params_steps, place_steps, flush_steps, install_steps}

abbrev pub Counted : State → Live × State → Type 0
Counted st r = Steps st r.1 (nodes_of r.0) (positions_of r.0)

abbrev pub CountedIn : State → Lives × State → Type 0
CountedIn st r = Steps st r.1 (nodes_in r.0) (positions_in r.0)

abbrev pub CountedItems : State → Items × State → Type 0
CountedItems st r = Steps st r.1 (nodes_items r.0) (positions_items r.0)

abbrev pub CountedArm : State → Arm → Type 0
CountedArm st a = Steps st a.state (nodes_in a.lives ++ comment_node a.comment) (positions_in a.lives)

pub node_steps : (c : Content) (st : State) → Steps st (made_node c st) (st.next a_node ∷ []) []
node_steps c st = let h = no_steps st in record { nodes = (refl, refl); positions = h.positions; leaves = leaves_make a_node (content c) st st h.leaves; late = tt }

pub arm_steps : (st : State) (r : Lives × State) → CountedIn st r → CountedArm st (or_comment r)
arm_steps st r h = by (have_node r.0) where
  by : (u : Bool) → CountedArm st (if u then record { comment = None; lives = r.0; state = r.1 } else record { comment = Some (r.1.next a_node); lives = r.0; state = made_node (comment_content []) r.1 })
  by true = subst (λ ns. Steps st r.1 ns (positions_in r.0)) (sym (append-nil (nodes_in r.0))) h
  by false = then_nodes st r.1 (made_node (comment_content []) r.1) (nodes_in r.0) (r.1.next a_node ∷ []) (positions_in r.0) h (node_steps (comment_content []) r.1)

-- Items

pub entries_steps : (one : Path → Entry → State → ItemGrown) → ((q : Path) (x : Entry) (st : State) → CountedArm st (one q x st).arm)
    → (p : Path) (xs : List Entry) (st : State) → CountedItems st (grow_entries one p xs st)
entries_steps one h p [] st = no_steps st
entries_steps one h p (x ∷ xs) st =
    let q = item x.key x.occurrence ∷ p in
    let g = one q x st in
    let r = grow_entries one p xs g.arm.state in
    then_steps st g.arm.state r.1 (nodes_in g.arm.lives ++ comment_node g.arm.comment) (nodes_items r.0) (positions_in g.arm.lives) (positions_items r.0) (h q x st) (entries_steps one h p xs g.arm.state)

spot_steps : (ns : List Text) (q : Path) (x : Entry) (st : State) → Steps st (item_spot ns q x st).1 [] []
spot_steps ns q x st =
    let v = source_form (item_value q) x.value in
    let i = source_form (item_index q) (count_value x.index) in
    let st1 = made_row v st in
    let st2 = made_row i st1 in
    let rs : List ℕ = st.next a_ref ∷ st1.next a_ref ∷ [] in
    let b = bind_params ns rs st2 in
    then_steps st st2 b.state [] [] [] [] (then_steps st st1 st2 [] [] [] [] (one_row v st) (one_row i st1)) (params_steps ns rs st2)

pub item_steps : (body : MScope → Path → State → Lives × State) → ((ms : MScope) (q : Path) (st : State) → CountedIn st (body ms q st))
    → (ms : MScope) (ns : List Text) (q : Path) (x : Entry) (st : State) → CountedArm st (grow_item body ms ns q x st).arm
item_steps body h ms ns q x st =
    let s = item_spot ns q x st in
    let a = or_comment (body (with_names (item_names ns s.0) ms) q s.1) in
    then_steps st s.1 a.state [] (nodes_in a.lives ++ comment_node a.comment) [] (positions_in a.lives) (spot_steps ns q x st)
    (arm_steps s.1 (body (with_names (item_names ns s.0) ms) q s.1) (h (with_names (item_names ns s.0) ms) q s.1))

-- a branch, and a list, on their position

if_steps : (u : Bool) (z : Spot) (st st1 : State) (f g : Arm) → Steps st st1 [] (z.ref ∷ []) → CountedArm st1 f → CountedArm st1 g
    → Counted st (cond {A = Live × State} u (branch_from z true f) (branch_from z false g))
if_steps true z st st1 f g h hf hg = then_steps st st1 f.state [] (nodes_in f.lives ++ comment_node f.comment) (z.ref ∷ []) (positions_in f.lives) h hf
if_steps false z st st1 f g h hf hg = then_steps st st1 g.state [] (nodes_in g.lives ++ comment_node g.comment) (z.ref ∷ []) (positions_in g.lives) h hg

each_steps : (vs : Values Path) (z : Spot) (st st1 : State) (F : Values Path → Items × State) (g : Arm) → Steps st st1 [] (z.ref ∷ []) → ((us : Values Path) → CountedItems st1 (F us)) → CountedArm st1 g
    → Counted st (items_or_else z vs F g)
each_steps no_values z st st1 F g h hf hg = then_steps st st1 g.state [] (nodes_in g.lives ++ comment_node g.comment) (z.ref ∷ []) (positions_in g.lives) h hg
each_steps (value u us) z st st1 F g h hf hg =
    let r = F (value u us) in then_steps st st1 r.1 [] (nodes_items r.0) (z.ref ∷ []) (positions_items r.0) h (hf (value u us))

abbrev pub ComponentsCount : GrowComponents → Type 0
ComponentsCount d = (q : Path) (made : List Id) (args : Names) (k : Option ℕ) (w : MPassed) (st : State) → Counted st (d q made args k w st)

abbrev pub YieldsCount : GrowYields → Type 0
YieldsCount y = (n : Text) (made : List Id) (rs : List ℕ) (p : Path) (st : State) → Counted st (y n made rs p st)

module _ (app : App) (d : GrowComponents) (y : GrowYields) (hd : ComponentsCount d) (hy : YieldsCount y) where
  mutual
    stmt_steps : (x : t.Stmt) (ms : MScope) (p : Path) (st : State) → Counted st (grow_stmt app d y ms p x st)
    stmt_steps (t.text_stmt z) ms p st = node_steps (text_content z) st
    stmt_steps (t.comment_stmt z) ms p st = node_steps (comment_content z) st
    stmt_steps (t.put e) ms p st =
        let b = bind_exprs app ms (one_expr e) st in
        let x = place b in
        let c = text_content (text_of (first_value x.pairs)) in
        then_steps st x.state (made_node c x.state) [] (x.state.next a_node ∷ []) (x.spot.ref ∷ []) [] (place_steps st b (exprs_steps app ms (one_expr e) st)) (node_steps c x.state)
    stmt_steps (t.element tag ps b) ms p st =
        let z = bind_written app (mwritten_parts ms ps) st in
        let a = flush_parts z.parts z.state in
        let n = a.state.next a_node in
        let c = element_content tag a.attrs in
        let st1 = made_node c a.state in
        let r = grow_body app d y ms p 0 b st1 in
        let m = install_parts n 0 z.parts r.1 in
        let inner = then_positions st1 r.1 m.state (nodes_in r.0) (positions_in r.0) (mod_positions m.spots) (body_steps b ms p 0 st1) (install_steps n 0 z.parts r.1) in
        then_steps st a.state m.state [] (n ∷ nodes_in r.0) (attr_positions a.spots) (positions_in r.0 ++ mod_positions m.spots)
        (then_steps st z.state a.state [] [] [] (attr_positions a.spots) (written_steps app (mwritten_parts ms ps) st) (flush_steps z.parts z.state))
        (then_steps a.state st1 m.state (n ∷ []) (nodes_in r.0) [] (positions_in r.0 ++ mod_positions m.spots) (node_steps c a.state) inner)
    stmt_steps (t.component_stmt c ps given bs) ms p st =
        let a = bind_args app ms given st in
        let z = bind_written app (mwritten_parts ms ps) a.state in
        let k = z.state.next a_block in
        let st1 = make a_block block_row z.state in
        let r = d (into c ∷ p) (block_id k ∷ (a.made ++ z.made)) a.names (Some k) (mpassed k ps bs ms) st1 in
        let h = then_steps st a.state z.state [] [] [] [] (args_steps app ms given st) (written_steps app (mwritten_parts ms ps) a.state) in
        then_steps st st1 r.1 [] (nodes_of r.0) [] (positions_of r.0) (record { nodes = h.nodes; positions = h.positions; leaves = leaves_make a_block block_row st z.state h.leaves; late = tt })
        (hd (into c ∷ p) (block_id k ∷ (a.made ++ z.made)) a.names (Some k) (mpassed k ps bs ms) st1)
    stmt_steps (t.if_stmt e unless b c) ms p st =
        let x0 = bind_exprs app ms (one_expr e) st in
        let x = place x0 in
        if_steps (takes_first unless (first_value x.pairs)) x.spot st x.state
        (or_comment (grow_body app d y ms (main ∷ p) 0 b x.state)) (or_comment (grow_body app d y ms (otherwise ∷ p) 0 c x.state))
        (place_steps st x0 (exprs_steps app ms (one_expr e) st))
        (arm_steps x.state (grow_body app d y ms (main ∷ p) 0 b x.state) (body_steps b ms (main ∷ p) 0 x.state))
        (arm_steps x.state (grow_body app d y ms (otherwise ∷ p) 0 c x.state) (body_steps c ms (otherwise ∷ p) 0 x.state))
    stmt_steps (t.each e k ns b c) ms p st =
        let x0 = bind_exprs app ms (one_expr e) st in
        let x = place x0 in
        let body : MScope → Path → State → Lives × State = λ ms' q st'. grow_body app d y ms' q 0 b st' in
        each_steps (values_listed (first_value x.pairs)) x.spot st x.state
        (λ vs. grow_entries (grow_item body ms ns) (items ∷ p) (entries k 0 [] vs) x.state)
        (or_comment (grow_body app d y ms (otherwise ∷ p) 0 c x.state))
        (place_steps st x0 (exprs_steps app ms (one_expr e) st))
        (λ vs. entries_steps (grow_item body ms ns) (λ q u st'. item_steps body (λ ms' q' st''. body_steps b ms' q' 0 st'') ms ns q u st') (items ∷ p) (entries k 0 [] vs) x.state)
        (arm_steps x.state (grow_body app d y ms (otherwise ∷ p) 0 c x.state) (body_steps c ms (otherwise ∷ p) 0 x.state))
    stmt_steps (t.let_stmt es ns b) ms p st =
        let x = bind_exprs app ms es st in
        let z = bind_params ns x.ids x.state in
        let r = grow_body app d y (with_names z.names ms) (main ∷ p) 0 b z.state in
        then_steps st z.state r.1 [] (nodes_in r.0) [] (positions_in r.0)
        (then_steps st x.state z.state [] [] [] [] (exprs_steps app ms es st) (params_steps ns x.ids x.state)) (body_steps b (with_names z.names ms) (main ∷ p) 0 z.state)
    stmt_steps (t.yield es n) ms p st =
        let x = bind_exprs app ms es st in
        let r = y n x.made x.ids p x.state in
        then_steps st x.state r.1 [] (nodes_of r.0) [] (positions_of r.0) (exprs_steps app ms es st) (hy n x.made x.ids p x.state)

    pub body_steps : (b : t.Body) (ms : MScope) (p : Path) (i : ℕ) (st : State) → CountedIn st (grow_body app d y ms p i b st)
    body_steps t.end ms p i st = no_steps st
    body_steps (t.stmt x b) ms p i st =
        let r = grow_stmt app d y ms (at i ∷ p) x st in
        let z = grow_body app d y ms p (suc i) b r.1 in
        then_steps st r.1 z.1 (nodes_of r.0) (nodes_in z.0) (positions_of r.0) (positions_in z.0) (stmt_steps x ms (at i ∷ p) st) (body_steps b ms p (suc i) r.1)

block_steps : (n : Text) (o : Option Block) (made : List Id) (rs : List ℕ) (f : Block → Names → State → Lives × State) → ((b : Block) (ns : Names) (st : State) → CountedIn st (f b ns st))
    → (st : State) → Counted st (grow_block n o made rs f st)
block_steps n None made rs f h st = no_steps st
block_steps n (Some b) made rs f h st =
    let z = bind_params b.params rs st in
    let r = f b z.names z.state in
    then_steps st z.state r.1 [] (nodes_in r.0) [] (positions_in r.0) (params_steps b.params rs st) (h b z.names z.state)

module _ (app : App) (d : GrowComponents) (hd : ComponentsCount d) where
  pub yields_steps : (v : MPassed) → YieldsCount (grow_yields app d v)
  yields_steps mnothing n made rs p st = no_steps st
  yields_steps (mpassed k ps bs (mscope i a l w)) n made rs p st =
      block_steps n (block_named n bs) made rs
      (λ b names st'. grow_body app d (grow_yields app d w) (mscope i a (l ++ names) w) (slot n ∷ p) 0 b.body st')
      (λ b names st'. body_steps app d (grow_yields app d w) hd (yields_steps w) b.body (mscope i a (l ++ names) w) (slot n ∷ p) 0 st') st

pub components_steps : (m : ℕ) (app : App) (τ : Store) → ComponentsCount (grow_components m app τ)
components_steps zero app τ q made args k w st = no_steps st
components_steps (suc m) app τ q made args k w st =
    let fields = (class_at app q).fields in
    let c = grow_cells app τ q fields st in
    let i : Inst = record { id = c.state.next an_instance; path = q; cells = c.names } in
    let st1 = make an_instance (instance_row i) c.state in
    let d = grow_components m app τ in
    let r = grow_body app d (grow_yields app d w) (mscope i args [] w) q 0 (class_at app q).template st1 in
    let h = cells_steps app τ q fields st in
    then_steps st st1 r.1 [] (nodes_in r.0) [] (positions_in r.0) (record { nodes = h.nodes; positions = h.positions; leaves = leaves_make an_instance (instance_row i) st c.state h.leaves; late = tt })
    (body_steps app d (grow_yields app d w) (components_steps m app τ) (yields_steps app d (components_steps m app τ) w) (class_at app q).template (mscope i args [] w) q 0 st1)

app_steps : (app : App) (τ : Store) (st : State) → Counted st (grow_app app τ st)
app_steps app τ st = components_steps app.limit app τ [] [] [] None mnothing st

pub appended_makes : AppendedMakes
appended_makes app τ st = (app_steps app τ st).nodes

pub appended_evaluates : AppendedEvaluates
appended_evaluates app τ st = (app_steps app τ st).positions
