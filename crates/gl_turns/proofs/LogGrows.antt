-- What is appended has the modifiers that were installed for it, in order.
use Rattle.std.proofs.Common.{◌≡◌, ◌≤◌, ℕ, zero, suc, List, [], ◌∷◌, ◌++◌, Bool, true, false, Option, Some, None, cond, refl, sym, ap, subst, ◌∙◌, arith}
use Rattle.std.specs.Prelude.{if◌then◌else◌, map}
use Rattle.std.proofs.lemmas.List.{append-nil, append_assoc}
use Rattle.gl_base.specs.Texts.{Text}
use Rattle.gl_value.specs.Value.{Values, no_values, value, count_value, text_of}
use Rattle.gl_ast.specs.Template as t
use Rattle.gl_meaning.specs.App.{App}
use Rattle.gl_meaning.specs.Path.{at, main, otherwise, items, item, into, slot, Path}
use Rattle.gl_meaning.specs.Scope.{item_value, item_index}
use Rattle.gl_meaning.specs.Eval.{Store, class_at, takes_first}
use Rattle.gl_meaning.specs.Render.{Entry, entries, values_listed, Block, block_named}
use Rattle.gl_plain.specs.Ids.{a_ref, a_node, an_instance, a_block, a_modifier, Id, block_id}
use Rattle.gl_plain.specs.State.{source_form, Names, Inst, MScope, mscope, MPassed, mnothing, mpassed, with_names, Content, comment_content, text_content, element_content, instance_row, block_row, State, make}
use Rattle.gl_plain.specs.Binding.{BoundAll, Spot, made_row, bind_exprs, bind_args, bind_params, place, first_value}
use Rattle.gl_plain.specs.Tags.{WaitingModifier, bind_written, flush_parts, install, install_all, install_parts, modifiers_waiting}
use Rattle.gl_plain.specs.Parts.{mwritten_parts}
use Rattle.gl_plain.specs.Live.{Live, Lives, Items, have_node, item_names}
use Rattle.gl_plain.specs.Grow.{made_node, Arm, or_comment, ItemGrown, item_spot, grow_item, grow_entries, branch_from, items_or_else, GrowComponents, GrowYields, grow_stmt, grow_body, grow_block, grow_yields, grow_cells, grow_components}
use Rattle.gl_plain.specs.Stands.{one_expr}
use Rattle.gl_plain.proofs.Counts.{AllFrom}
use Rattle.gl_turns.specs.Modifiers.{mod_ids, modifiers_of, modifiers_items, modifiers_in}
use Rattle.gl_turns.proofs.Calm.{Calm, calm_all, then_calm, one_row, exprs_calm, args_calm, written_calm, cells_calm, params_calm, place_calm, flush_calm}

from_join : (n m : ℕ) (xs ys : List ℕ) → n ≤ m → AllFrom n xs → AllFrom m ys → AllFrom n (xs ++ ys)
from_join n m [] [] le h g = tt
from_join n m [] (y ∷ ys) le h g = (let i = g.0 in omega (arith, i, le), from_join n m [] ys le h g.1)
from_join n m (x ∷ xs) ys le h g = (h.0, from_join n m xs ys le h.1 g)

-- these modifiers were made and installed
pub record Grown (st st' : State) (ms : List ℕ) : Type 0 where
  pub installs : st'.installs ≡ st.installs ++ ms
  pub updates : st'.updates ≡ st.updates
  pub more : st.next a_modifier ≤ st'.next a_modifier
  pub late : AllFrom (st.next a_modifier) ms

calm_grown : (st st' : State) → Calm st st' → Grown st st' []
calm_grown st st' h = record { installs = h.installs ∙ sym (append-nil st.installs); updates = h.updates; more = let e = h.modifiers in omega (arith, e); late = tt }

pub then_grown : (st st1 st2 : State) (ms ns : List ℕ) → Grown st st1 ms → Grown st1 st2 ns → Grown st st2 (ms ++ ns)
then_grown st st1 st2 ms ns h g = record {
  installs = g.installs ∙ (ap (λ xs. xs ++ ns) h.installs ∙ append_assoc st.installs ms ns);
  updates = g.updates ∙ h.updates;
  more = let i = h.more in let k = g.more in omega (arith, i, k);
  late = from_join (st.next a_modifier) (st1.next a_modifier) ms ns h.more h.late g.late;
}

calm_then : (st st1 st2 : State) (ms : List ℕ) → Calm st st1 → Grown st1 st2 ms → Grown st st2 ms
calm_then st st1 st2 ms h g = then_grown st st1 st2 [] ms (calm_grown st st1 h) g

then_quiet : (st st1 st2 : State) (ms : List ℕ) → Grown st st1 ms → Calm st1 st2 → Grown st st2 ms
then_quiet st st1 st2 ms h g = subst (Grown st st2) (append-nil ms) (then_grown st st1 st2 ms [] h (calm_grown st1 st2 g))

abbrev pub GrownOf : State → Live × State → Type 0
GrownOf st r = Grown st r.1 (modifiers_of r.0)

abbrev pub GrownIn : State → Lives × State → Type 0
GrownIn st r = Grown st r.1 (modifiers_in r.0)

abbrev pub GrownItems : State → Items × State → Type 0
GrownItems st r = Grown st r.1 (modifiers_items r.0)

abbrev pub GrownArm : State → Arm → Type 0
GrownArm st a = Grown st a.state (modifiers_in a.lives)

node_calm : (c : Content) (st : State) → Calm st (made_node c st)
node_calm c st = record { installs = refl; updates = refl; modifiers = refl }

pub arm_grown : (st : State) (r : Lives × State) → GrownIn st r → GrownArm st (or_comment r)
arm_grown st r h = by (have_node r.0) where
  by : (u : Bool) → GrownArm st (if u then record { comment = None; lives = r.0; state = r.1 } else record { comment = Some (r.1.next a_node); lives = r.0; state = made_node (comment_content []) r.1 })
  by true = h
  by false = then_quiet st r.1 (made_node (comment_content []) r.1) (modifiers_in r.0) h (node_calm (comment_content []) r.1)

pub entries_grown : (one : Path → Entry → State → ItemGrown) → ((q : Path) (x : Entry) (st : State) → GrownArm st (one q x st).arm) → (p : Path) (xs : List Entry) (st : State) → GrownItems st (grow_entries one p xs st)
entries_grown one h p [] st = calm_grown st st (calm_all st)
entries_grown one h p (x ∷ xs) st =
    let q = item x.key x.occurrence ∷ p in
    let g = one q x st in
    let r = grow_entries one p xs g.arm.state in
    then_grown st g.arm.state r.1 (modifiers_in g.arm.lives) (modifiers_items r.0) (h q x st) (entries_grown one h p xs g.arm.state)

spot_calm : (ns : List Text) (q : Path) (x : Entry) (st : State) → Calm st (item_spot ns q x st).1
spot_calm ns q x st =
    let v = source_form (item_value q) x.value in
    let i = source_form (item_index q) (count_value x.index) in
    let st1 = made_row v st in
    let st2 = made_row i st1 in
    let rs : List ℕ = st.next a_ref ∷ st1.next a_ref ∷ [] in
    let b = bind_params ns rs st2 in
    then_calm st st2 b.state (then_calm st st1 st2 (one_row v st) (one_row i st1)) (params_calm ns rs st2)

pub item_grown : (body : MScope → Path → State → Lives × State) → ((ms : MScope) (q : Path) (st : State) → GrownIn st (body ms q st)) → (ms : MScope) (ns : List Text) (q : Path) (x : Entry) (st : State) → GrownArm st (grow_item body ms ns q x st).arm
item_grown body h ms ns q x st =
    let s = item_spot ns q x st in
    let a = or_comment (body (with_names (item_names ns s.0) ms) q s.1) in
    calm_then st s.1 a.state (modifiers_in a.lives) (spot_calm ns q x st) (arm_grown s.1 (body (with_names (item_names ns s.0) ms) q s.1) (h (with_names (item_names ns s.0) ms) q s.1))

if_grown : (u : Bool) (z : Spot) (st st1 : State) (f g : Arm) → Calm st st1 → GrownArm st1 f → GrownArm st1 g → GrownOf st (cond {A = Live × State} u (branch_from z true f) (branch_from z false g))
if_grown true z st st1 f g h hf hg = calm_then st st1 f.state (modifiers_in f.lives) h hf
if_grown false z st st1 f g h hf hg = calm_then st st1 g.state (modifiers_in g.lives) h hg

each_grown : (vs : Values Path) (z : Spot) (st st1 : State) (F : Values Path → Items × State) (g : Arm) → Calm st st1 → ((us : Values Path) → GrownItems st1 (F us)) → GrownArm st1 g → GrownOf st (items_or_else z vs F g)
each_grown no_values z st st1 F g h hf hg = calm_then st st1 g.state (modifiers_in g.lives) h hg
each_grown (value u us) z st st1 F g h hf hg = let r = F (value u us) in calm_then st st1 r.1 (modifiers_items r.0) h (hf (value u us))

mods_grown : (n i : ℕ) (ws : List WaitingModifier) (st : State) → let r = install_all n i ws st in Grown st r.state (mod_ids r.spots)
mods_grown n i [] st = calm_grown st st (calm_all st)
mods_grown n i (w ∷ ws) st =
    let b : BoundAll = record { ids = w.ids ++ map (λ y. y.1) w.names; made = []; state = st } in
    let x = install n i w (place b) in
    let r = install_all n (suc i) ws x.1 in
    then_grown st x.1 r.state (x.0.id ∷ []) (mod_ids r.spots)
    (record { installs = refl; updates = refl; more = omega arith; late = (omega arith, tt) }) (mods_grown n (suc i) ws x.1)

abbrev pub ComponentsGrow : GrowComponents → Type 0
ComponentsGrow d = (q : Path) (made : List Id) (args : Names) (k : Option ℕ) (w : MPassed) (st : State) → GrownOf st (d q made args k w st)

abbrev pub YieldsGrow : GrowYields → Type 0
YieldsGrow y = (n : Text) (made : List Id) (rs : List ℕ) (p : Path) (st : State) → GrownOf st (y n made rs p st)

module _ (app : App) (d : GrowComponents) (y : GrowYields) (hd : ComponentsGrow d) (hy : YieldsGrow y) where
  mutual
    stmt_grown : (x : t.Stmt) (ms : MScope) (p : Path) (st : State) → GrownOf st (grow_stmt app d y ms p x st)
    stmt_grown (t.text_stmt z) ms p st = calm_grown st _ (node_calm (text_content z) st)
    stmt_grown (t.comment_stmt z) ms p st = calm_grown st _ (node_calm (comment_content z) st)
    stmt_grown (t.put e) ms p st =
        let b = bind_exprs app ms (one_expr e) st in
        let x = place b in
        let c = text_content (text_of (first_value x.pairs)) in
        calm_grown st (made_node c x.state) (then_calm st x.state (made_node c x.state) (place_calm st b (exprs_calm app ms (one_expr e) st)) (node_calm c x.state))
    stmt_grown (t.element tag ps b) ms p st =
        let z = bind_written app (mwritten_parts ms ps) st in
        let a = flush_parts z.parts z.state in
        let n = a.state.next a_node in
        let c = element_content tag a.attrs in
        let st1 = made_node c a.state in
        let r = grow_body app d y ms p 0 b st1 in
        let m = install_parts n 0 z.parts r.1 in
        calm_then st st1 m.state (modifiers_in r.0 ++ mod_ids m.spots)
        (then_calm st a.state st1 (then_calm st z.state a.state (written_calm app (mwritten_parts ms ps) st) (flush_calm z.parts z.state)) (node_calm c a.state))
        (then_grown st1 r.1 m.state (modifiers_in r.0) (mod_ids m.spots) (body_grown b ms p 0 st1) (mods_grown n 0 (modifiers_waiting z.parts) r.1))
    stmt_grown (t.component_stmt c ps given bs) ms p st =
        let a = bind_args app ms given st in
        let z = bind_written app (mwritten_parts ms ps) a.state in
        let k = z.state.next a_block in
        let st1 = make a_block block_row z.state in
        let r = d (into c ∷ p) (block_id k ∷ (a.made ++ z.made)) a.names (Some k) (mpassed k ps bs ms) st1 in
        let h = then_calm st a.state z.state (args_calm app ms given st) (written_calm app (mwritten_parts ms ps) a.state) in
        calm_then st st1 r.1 (modifiers_of r.0) (record { installs = h.installs; updates = h.updates; modifiers = h.modifiers }) (hd (into c ∷ p) (block_id k ∷ (a.made ++ z.made)) a.names (Some k) (mpassed k ps bs ms) st1)
    stmt_grown (t.if_stmt e unless b c) ms p st =
        let x0 = bind_exprs app ms (one_expr e) st in
        let x = place x0 in
        if_grown (takes_first unless (first_value x.pairs)) x.spot st x.state (or_comment (grow_body app d y ms (main ∷ p) 0 b x.state)) (or_comment (grow_body app d y ms (otherwise ∷ p) 0 c x.state))
        (place_calm st x0 (exprs_calm app ms (one_expr e) st))
        (arm_grown x.state (grow_body app d y ms (main ∷ p) 0 b x.state) (body_grown b ms (main ∷ p) 0 x.state))
        (arm_grown x.state (grow_body app d y ms (otherwise ∷ p) 0 c x.state) (body_grown c ms (otherwise ∷ p) 0 x.state))
    stmt_grown (t.each e k ns b c) ms p st =
        let x0 = bind_exprs app ms (one_expr e) st in
        let x = place x0 in
        let body : MScope → Path → State → Lives × State = λ ms' q st'. grow_body app d y ms' q 0 b st' in
        each_grown (values_listed (first_value x.pairs)) x.spot st x.state
        (λ vs. grow_entries (grow_item body ms ns) (items ∷ p) (entries k 0 [] vs) x.state)
        (or_comment (grow_body app d y ms (otherwise ∷ p) 0 c x.state))
        (place_calm st x0 (exprs_calm app ms (one_expr e) st))
        (λ vs. entries_grown (grow_item body ms ns) (λ q u st'. item_grown body (λ ms' q' st''. body_grown b ms' q' 0 st'') ms ns q u st') (items ∷ p) (entries k 0 [] vs) x.state)
        (arm_grown x.state (grow_body app d y ms (otherwise ∷ p) 0 c x.state) (body_grown c ms (otherwise ∷ p) 0 x.state))
    stmt_grown (t.let_stmt es ns b) ms p st =
        let x = bind_exprs app ms es st in
        let z = bind_params ns x.ids x.state in
        let r = grow_body app d y (with_names z.names ms) (main ∷ p) 0 b z.state in
        calm_then st z.state r.1 (modifiers_in r.0) (then_calm st x.state z.state (exprs_calm app ms es st) (params_calm ns x.ids x.state)) (body_grown b (with_names z.names ms) (main ∷ p) 0 z.state)
    stmt_grown (t.yield es n) ms p st =
        let x = bind_exprs app ms es st in
        let r = y n x.made x.ids p x.state in
        calm_then st x.state r.1 (modifiers_of r.0) (exprs_calm app ms es st) (hy n x.made x.ids p x.state)

    pub body_grown : (b : t.Body) (ms : MScope) (p : Path) (i : ℕ) (st : State) → GrownIn st (grow_body app d y ms p i b st)
    body_grown t.end ms p i st = calm_grown st st (calm_all st)
    body_grown (t.stmt x b) ms p i st =
        let r = grow_stmt app d y ms (at i ∷ p) x st in
        let z = grow_body app d y ms p (suc i) b r.1 in
        then_grown st r.1 z.1 (modifiers_of r.0) (modifiers_in z.0) (stmt_grown x ms (at i ∷ p) st) (body_grown b ms p (suc i) r.1)

block_grown : (n : Text) (o : Option Block) (made : List Id) (rs : List ℕ) (f : Block → Names → State → Lives × State) → ((b : Block) (ns : Names) (st : State) → GrownIn st (f b ns st)) → (st : State) → GrownOf st (grow_block n o made rs f st)
block_grown n None made rs f h st = calm_grown st st (calm_all st)
block_grown n (Some b) made rs f h st =
    let z = bind_params b.params rs st in
    let r = f b z.names z.state in
    calm_then st z.state r.1 (modifiers_in r.0) (params_calm b.params rs st) (h b z.names z.state)

module _ (app : App) (d : GrowComponents) (hd : ComponentsGrow d) where
  pub yields_grown : (v : MPassed) → YieldsGrow (grow_yields app d v)
  yields_grown mnothing n made rs p st = calm_grown st st (calm_all st)
  yields_grown (mpassed k ps bs (mscope i a l w)) n made rs p st =
      block_grown n (block_named n bs) made rs
      (λ b names st'. grow_body app d (grow_yields app d w) (mscope i a (l ++ names) w) (slot n ∷ p) 0 b.body st')
      (λ b names st'. body_grown app d (grow_yields app d w) hd (yields_grown w) b.body (mscope i a (l ++ names) w) (slot n ∷ p) 0 st') st

pub components_grown : (m : ℕ) (app : App) (τ : Store) → ComponentsGrow (grow_components m app τ)
components_grown zero app τ q made args k w st = calm_grown st st (calm_all st)
components_grown (suc m) app τ q made args k w st =
    let fields = (class_at app q).fields in
    let c = grow_cells app τ q fields st in
    let i : Inst = record { id = c.state.next an_instance; path = q; cells = c.names } in
    let st1 = make an_instance (instance_row i) c.state in
    let d = grow_components m app τ in
    let r = grow_body app d (grow_yields app d w) (mscope i args [] w) q 0 (class_at app q).template st1 in
    let h = cells_calm app τ q fields st in
    calm_then st st1 r.1 (modifiers_in r.0) (record { installs = h.installs; updates = h.updates; modifiers = h.modifiers })
    (body_grown app d (grow_yields app d w) (components_grown m app τ) (yields_grown app d (components_grown m app τ) w) (class_at app q).template (mscope i args [] w) q 0 st1)
