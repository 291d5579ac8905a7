-- What is appended installs its modifiers in order, and its blocks rise.
use Rattle.std.proofs.Common.{◌≡◌, ◌≤◌, ℕ, zero, suc, List, [], ◌∷◌, ◌++◌, map, Bool, true, false, Option, Some, None, cond, refl, sym, ◌∙◌, ap, subst, arith}
use Rattle.std.specs.Prelude.{if◌then◌else◌, length}
use Rattle.std.proofs.lemmas.List.{append-nil, append_assoc, map-append}
use Rattle.gl_base.specs.Texts.{Text}
use Rattle.gl_value.specs.Value.{Values, no_values, value, text_of}
use Rattle.gl_ast.specs.Template as t
use Rattle.gl_meaning.specs.App.{App}
use Rattle.gl_meaning.specs.Path.{at, main, otherwise, items, item, into, slot, Path}
use Rattle.gl_meaning.specs.Scope.{sources_of}
use Rattle.gl_meaning.specs.Eval.{Store, class_at, takes_first, values_in}
use Rattle.gl_meaning.specs.Parts.{attribute_value}
use Rattle.gl_meaning.specs.Render.{Entry, entries, values_listed, Block, block_named}
use Rattle.gl_meaning.proofs.Pieces.{filter_map_append}
use Rattle.gl_plain.specs.Ids.{a_ref, a_node, an_instance, a_block, a_modifier, Kind, Id, block_id, modifier_id}
use Rattle.gl_plain.specs.State.{Form, all_form, any_of, row, modifier_row, Names, Inst, MScope, mscope, MPassed, mnothing, mpassed, with_names, Content, comment_content, text_content, element_content, content, instance_row, block_row, Thing, State, make}
use Rattle.gl_plain.specs.Binding.{BoundAll, Spot, made_row, bind_exprs, bind_args, bind_params, place, first_value}
use Rattle.gl_plain.specs.Tags.{bind_written, flush_parts, first_values, named_with, values_from, install, install_all, install_parts, WaitingModifier, modifiers_waiting, Given, AttrsGiven, give_attrs, given_refs, given_pairs, taken_waiting, some_waiting_live, attributes_waiting, names_waiting}
use Rattle.gl_plain.specs.Parts.{mwritten_parts}
use Rattle.gl_plain.specs.Live.{Live, Lives, Items, have_node, item_names}
use Rattle.gl_plain.specs.Live
use Rattle.gl_plain.specs.Grow.{made_node, Arm, or_comment, ItemGrown, item_spot, grow_item, grow_entries, branch_from, items_or_else, GrowComponents, GrowYields, grow_stmt, grow_body, grow_block, grow_yields, grow_cells, grow_components, grow_app}
use Rattle.gl_plain.specs.Stands.{one_expr}
use Rattle.gl_plain.proofs.Counts.{AllFrom}
use Rattle.gl_plain.proofs.Moves.{make_more, make_next}
use Rattle.gl_machine.specs.Marks.{Mark, attr_marks, mod_marks, marked, marked_items, marked_in, modifiers_among, Rises, RisesItems, RisesIn, AppendedInstalls}
use Rattle.gl_machine.proofs.Makes.{exprs_make, args_make, written_make, cells_make, params_make, givens_make, spot_makes}

abbrev refs_among : List Mark → List ℕ
refs_among ms = map (λ z. z.0) ms

-- a step that evaluated these positions, and installed the modifiers of those that have one
pub record Marks (st st' : State) (ms : List Mark) : Type 0 where
  pub evaluated : st'.evaluated ≡ st.evaluated ++ map (λ z. z.0) ms
  pub installs : st'.installs ≡ st.installs ++ modifiers_among ms
  pub updates : st'.updates ≡ st.updates
  pub late : AllFrom (st.next a_modifier) (modifiers_among ms)
  pub more : st.next a_modifier ≤ st'.next a_modifier
  pub blocks : st.next a_block ≤ st'.next a_block

from_join : (n m : ℕ) (xs ys : List ℕ) → n ≤ m → AllFrom n xs → AllFrom m ys → AllFrom n (xs ++ ys)
from_join n m [] [] le h g = tt
from_join n m [] (y ∷ ys) le h g = (let i = g.0 in omega (arith, i, le), from_join n m [] ys le h g.1)
from_join n m (x ∷ xs) ys le h g = (h.0, from_join n m xs ys le h.1 g)

pub no_marks : (st : State) → Marks st st []
no_marks st = record { evaluated = sym (append-nil st.evaluated); installs = sym (append-nil st.installs); updates = refl; late = tt; more = omega arith; blocks = omega arith }

pub then_marks : (st st1 st2 : State) (ms ns : List Mark) → Marks st st1 ms → Marks st1 st2 ns → Marks st st2 (ms ++ ns)
then_marks st st1 st2 ms ns h g = record {
  evaluated = g.evaluated ∙ (ap (λ xs. xs ++ refs_among ns) h.evaluated ∙ (append_assoc st.evaluated (refs_among ms) (refs_among ns) ∙ ap (λ xs. st.evaluated ++ xs) (sym (map-append (λ z. z.0) ms ns))));
  installs = g.installs ∙ (ap (λ xs. xs ++ modifiers_among ns) h.installs ∙ (append_assoc st.installs (modifiers_among ms) (modifiers_among ns) ∙ ap (λ xs. st.installs ++ xs) (sym (filter_map_append (λ z. z.1) ms ns))));
  updates = g.updates ∙ h.updates;
  late = subst (AllFrom (st.next a_modifier)) (sym (filter_map_append (λ z. z.1) ms ns)) (from_join (st.next a_modifier) (st1.next a_modifier) (modifiers_among ms) (modifiers_among ns) h.more h.late g.late);
  more = let i = h.more in let k = g.more in omega (arith, i, k);
  blocks = let i = h.blocks in let k = g.blocks in omega (arith, i, k);
}

-- something else is made
make_marks : (k : Kind) (x : Thing) (st : State) → Marks st (make k x st) []
make_marks k x st = record {
  evaluated = sym (append-nil st.evaluated);
  installs = sym (append-nil st.installs);
  updates = refl;
  late = tt;
  more = make_more k x st (modifier_id 0);
  blocks = make_more k x st (block_id 0);
}

abbrev NoMarks : State → State → Type 0
NoMarks st st' = Marks st st' []

both_none : (st st1 st2 : State) → NoMarks st st1 → NoMarks st1 st2 → NoMarks st st2
both_none st st1 st2 h g = then_marks st st1 st2 [] [] h g

one_row : (x : Form) (st : State) → NoMarks st (made_row x st)
one_row x st = make_marks a_ref (row (record { form = x; last = any_of [] })) st

pub node_marks : (c : Content) (st : State) → NoMarks st (made_node c st)
node_marks c st = make_marks a_node (content c) st

-- the first, or the second, has none
then_none : (st st1 st2 : State) (ms : List Mark) → Marks st st1 ms → NoMarks st1 st2 → Marks st st2 ms
then_none st st1 st2 ms h g = subst (Marks st st2) (append-nil ms) (then_marks st st1 st2 ms [] h g)

-- a position over what was bound
place_marks : (st : State) (b : BoundAll) → NoMarks st b.state → Marks st (place b).state (((place b).spot.ref, None) ∷ [])
place_marks st b h =
    let x : Thing = row (record { form = all_form b.ids; last = any_of (sources_of (place b).pairs) }) in
    let m = then_none st b.state (make a_ref x b.state) [] h (make_marks a_ref x b.state) in
    record { evaluated = ap (λ xs. xs ++ (place b).spot.ref ∷ []) (h.evaluated ∙ append-nil st.evaluated); installs = m.installs; updates = m.updates; late = tt; more = m.more; blocks = m.blocks }

attrs_marks : (ws : List (Text × Given)) (ns : List Text) (st : State) → let r = give_attrs ws ns st in Marks st r.state (attr_marks r.spots)
attrs_marks ws [] st = no_marks st
attrs_marks ws (n ∷ ns) st = by (some_waiting_live (taken_waiting n ws)) (attrs_marks ws ns) where
  by : (u : Bool) → ((st' : State) → let r = give_attrs ws ns st' in Marks st' r.state (attr_marks r.spots))
      → let taken = taken_waiting n ws in
      let a : AttrsGiven = if u
      then (let x = place (given_refs taken st) in let r = give_attrs ws ns x.state in record { attrs = (n, attribute_value x.pairs) ∷ r.attrs; spots = record { name = n; spot = x.spot } ∷ r.spots; state = r.state })
      else (let r = give_attrs ws ns st in record { attrs = (n, attribute_value (given_pairs taken)) ∷ r.attrs; spots = r.spots; state = r.state }) in
      Marks st a.state (attr_marks a.spots)
  by true rest =
      let b = given_refs (taken_waiting n ws) st in let x = place b in let r = give_attrs ws ns x.state in
      then_marks st x.state r.state ((x.spot.ref, None) ∷ []) (attr_marks r.spots) (place_marks st b (givens_make NoMarks no_marks both_none one_row (taken_waiting n ws) st)) (rest x.state)
  by false rest = rest st

mods_marks : (n i : ℕ) (ws : List WaitingModifier) (st : State) → let r = install_all n i ws st in Marks st r.state (mod_marks r.spots)
mods_marks n i [] st = no_marks st
mods_marks n i (w ∷ ws) st =
    let b : BoundAll = record { ids = w.ids ++ map (λ y. y.1) w.names; made = []; state = st } in
    let x = install n i w (place b) in
    let r = install_all n (suc i) ws x.1 in
    let h = place_marks st b (no_marks st) in
    let vs = values_in (place b).pairs in
    let thing : Thing = modifier_row (record { on_node = n; place = i; name = w.name; args = first_values (length w.ids) vs; names = named_with (map (λ y. y.0) w.names) (values_from (length w.ids) vs) }) in
    let g = then_none st (place b).state (make a_modifier thing (place b).state) (((place b).spot.ref, None) ∷ []) h (make_marks a_modifier thing (place b).state) in
    then_marks st x.1 r.state ((x.0.spot.ref, Some x.0.id) ∷ []) (mod_marks r.spots)
    (record {
      evaluated = h.evaluated;
      installs = ap (λ xs. xs ++ x.0.id ∷ []) (h.installs ∙ append-nil st.installs);
      updates = h.updates;
      late = (h.more, tt);
      more = g.more;
      blocks = g.blocks;
    }) (mods_marks n (suc i) ws x.1)

-- Blocks

mutual
  pub rises_more : (b b' n n' : ℕ) → b' ≤ b → n ≤ n' → (l : Live) → Rises b n l → Rises b' n' l
  rises_more b b' n n' le me (Live.element_live k made xs zs ls) h = rises_more_in b b' n n' le me ls h
  rises_more b b' n n' le me (Live.branch_live z u k ls) h = rises_more_in b b' n n' le me ls h
  rises_more b b' n n' le me (Live.listed z is) h = rises_more_items b b' n n' le me is h
  rises_more b b' n n' le me (Live.unlisted z k ls) h = rises_more_in b b' n n' le me ls h
  rises_more b b' n n' le me (Live.let_live made rs ls) h = rises_more_in b b' n n' le me ls h
  rises_more b b' n n' le me (Live.component_live i made gm args None ls) h = rises_more_in b b' n n' le me ls h
  rises_more b b' n n' le me (Live.component_live i made gm args (Some k) ls) h =
      (let i = h.0 in omega (arith, i, le), let i = h.1 in omega (arith, i, me), rises_more_in (suc k) (suc k) n n' (omega arith) me ls h.2)
  rises_more b b' n n' le me (Live.yield_live k made rs ls) h = rises_more_in b b' n n' le me ls h
  rises_more b b' n n' le me (Live.still k) h = tt
  rises_more b b' n n' le me (Live.put_live k z) h = tt
  rises_more b b' n n' le me (Live.deep_live q) h = tt

  pub rises_more_items : (b b' n n' : ℕ) → b' ≤ b → n ≤ n' → (is : Items) → RisesItems b n is → RisesItems b' n' is
  rises_more_items b b' n n' le me Live.no_items h = tt
  rises_more_items b b' n n' le me (Live.item_live z k ls is) h = (rises_more_in b b' n n' le me ls h.0, rises_more_items b b' n n' le me is h.1)

  pub rises_more_in : (b b' n n' : ℕ) → b' ≤ b → n ≤ n' → (ls : Lives) → RisesIn b n ls → RisesIn b' n' ls
  rises_more_in b b' n n' le me Live.no_lives h = tt
  rises_more_in b b' n n' le me (Live.live_and l ls) h = (rises_more b b' n n' le me l h.0, rises_more_in b b' n n' le me ls h.1)

-- All statements

-- what was appended to a state, and the state after it
pub record Grown (st st' : State) (ms : List Mark) (R : ℕ → ℕ → Type 0) : Type 0 where
  pub marks : Marks st st' ms
  pub rises : R (st.next a_block) (st'.next a_block)

abbrev pub GrownOf : State → Live × State → Type 0
GrownOf st r = Grown st r.1 (marked r.0) (λ b n. Rises b n r.0)

abbrev pub GrownIn : State → Lives × State → Type 0
GrownIn st r = Grown st r.1 (marked_in r.0) (λ b n. RisesIn b n r.0)

abbrev pub GrownItems : State → Items × State → Type 0
GrownItems st r = Grown st r.1 (marked_items r.0) (λ b n. RisesItems b n r.0)

abbrev pub GrownArm : State → Arm → Type 0
GrownArm st a = Grown st a.state (marked_in a.lives) (λ b n. RisesIn b n a.lives)

-- behind a step that appended nothing
after_in : (st st1 : State) (ms : List Mark) (r : Lives × State) → Marks st st1 ms → GrownIn st1 r → Grown st r.1 (ms ++ marked_in r.0) (λ b n. RisesIn b n r.0)
after_in st st1 ms r h g = record {
  marks = then_marks st st1 r.1 ms (marked_in r.0) h g.marks;
  rises = rises_more_in (st1.next a_block) (st.next a_block) (r.1.next a_block) (r.1.next a_block) h.blocks (omega arith) r.0 g.rises;
}

after_arm : (st st1 : State) (ms : List Mark) (a : Arm) → Marks st st1 ms → GrownArm st1 a → Grown st a.state (ms ++ marked_in a.lives) (λ b n. RisesIn b n a.lives)
after_arm st st1 ms a h g = after_in st st1 ms (a.lives, a.state) h (record { marks = g.marks; rises = g.rises })

after_items : (st st1 : State) (ms : List Mark) (r : Items × State) → Marks st st1 ms → GrownItems st1 r → Grown st r.1 (ms ++ marked_items r.0) (λ b n. RisesItems b n r.0)
after_items st st1 ms r h g = record {
  marks = then_marks st st1 r.1 ms (marked_items r.0) h g.marks;
  rises = rises_more_items (st1.next a_block) (st.next a_block) (r.1.next a_block) (r.1.next a_block) h.blocks (omega arith) r.0 g.rises;
}

after_of : (st st1 : State) (r : Live × State) → NoMarks st st1 → GrownOf st1 r → GrownOf st r
after_of st st1 r h g = record {
  marks = then_marks st st1 r.1 [] (marked r.0) h g.marks;
  rises = rises_more (st1.next a_block) (st.next a_block) (r.1.next a_block) (r.1.next a_block) h.blocks (omega arith) r.0 g.rises;
}

nothing_grown : (st : State) → GrownIn st (Live.no_lives, st)
nothing_grown st = record { marks = no_marks st; rises = tt }

pub arm_grown : (st : State) (r : Lives × State) → GrownIn st r → GrownArm st (or_comment r)
arm_grown st r h = by (have_node r.0) where
  by : (u : Bool) → GrownArm st (if u then record { comment = None; lives = r.0; state = r.1 } else record { comment = Some (r.1.next a_node); lives = r.0; state = made_node (comment_content []) r.1 })
  by true = record { marks = h.marks; rises = h.rises }
  by false = record {
    marks = then_none st r.1 (made_node (comment_content []) r.1) (marked_in r.0) h.marks (node_marks (comment_content []) r.1);
    rises = rises_more_in (st.next a_block) (st.next a_block) (r.1.next a_block) ((made_node (comment_content []) r.1).next a_block) (omega arith) (node_marks (comment_content []) r.1).blocks r.0 h.rises;
  }

-- a statement before others
pub stmt_before : (st : State) (r : Live × State) (z : Lives × State) → GrownOf st r → GrownIn r.1 z → GrownIn st (Live.live_and r.0 z.0, z.1)
stmt_before st r z h g = record {
  marks = then_marks st r.1 z.1 (marked r.0) (marked_in z.0) h.marks g.marks;
  rises = (
    rises_more (st.next a_block) (st.next a_block) (r.1.next a_block) (z.1.next a_block) (omega arith) g.marks.blocks r.0 h.rises,
    rises_more_in (r.1.next a_block) (st.next a_block) (z.1.next a_block) (z.1.next a_block) h.marks.blocks (omega arith) z.0 g.rises,
  );
}

-- an item before others
pub item_before : (st st1 : State) (ls : Lives) (z : Live.ItemSpot) (k : Option ℕ) (r : Items × State) → Grown st st1 (marked_in ls) (λ b n. RisesIn b n ls) → GrownItems st1 r → GrownItems st (Live.item_live z k ls r.0, r.1)
item_before st st1 ls z k r h g = record {
  marks = then_marks st st1 r.1 (marked_in ls) (marked_items r.0) h.marks g.marks;
  rises = (
    rises_more_in (st.next a_block) (st.next a_block) (st1.next a_block) (r.1.next a_block) (omega arith) g.marks.blocks ls h.rises,
    rises_more_items (st1.next a_block) (st.next a_block) (r.1.next a_block) (r.1.next a_block) h.marks.blocks (omega arith) r.0 g.rises,
  );
}

pub entries_grown : (one : Path → Entry → State → ItemGrown) → ((q : Path) (x : Entry) (st : State) → GrownArm st (one q x st).arm) → (p : Path) (xs : List Entry) (st : State) → GrownItems st (grow_entries one p xs st)
entries_grown one h p [] st = record { marks = no_marks st; rises = tt }
entries_grown one h p (x ∷ xs) st =
    let q = item x.key x.occurrence ∷ p in let g = one q x st in let r = grow_entries one p xs g.arm.state in
    item_before st g.arm.state g.arm.lives g.spot g.arm.comment r (h q x st) (entries_grown one h p xs g.arm.state)

pub item_grown : (body : MScope → Path → State → Lives × State) → ((ms : MScope) (q : Path) (st : State) → GrownIn st (body ms q st))
    → (ms : MScope) (ns : List Text) (q : Path) (x : Entry) (st : State) → GrownArm st (grow_item body ms ns q x st).arm
item_grown body h ms ns q x st =
    let s = item_spot ns q x st in let r = body (with_names (item_names ns s.0) ms) q s.1 in
    after_arm st s.1 [] (or_comment r) (spot_makes NoMarks no_marks both_none one_row ns q x st) (arm_grown s.1 r (h (with_names (item_names ns s.0) ms) q s.1))

if_grown : (u : Bool) (z : Spot) (st st1 : State) (f g : Arm) → Marks st st1 ((z.ref, None) ∷ []) → GrownArm st1 f → GrownArm st1 g → GrownOf st (cond {A = Live × State} u (branch_from z true f) (branch_from z false g))
if_grown true z st st1 f g h hf hg = let a = after_arm st st1 ((z.ref, None) ∷ []) f h hf in record { marks = a.marks; rises = a.rises }
if_grown false z st st1 f g h hf hg = let a = after_arm st st1 ((z.ref, None) ∷ []) g h hg in record { marks = a.marks; rises = a.rises }

each_grown : (vs : Values Path) (z : Spot) (st st1 : State) (F : Values Path → Items × State) (g : Arm) → Marks st st1 ((z.ref, None) ∷ []) → ((us : Values Path) → GrownItems st1 (F us)) → GrownArm st1 g
    → GrownOf st (items_or_else z vs F g)
each_grown no_values z st st1 F g h hf hg = let a = after_arm st st1 ((z.ref, None) ∷ []) g h hg in record { marks = a.marks; rises = a.rises }
each_grown (value u us) z st st1 F g h hf hg = let a = after_items st st1 ((z.ref, None) ∷ []) (F (value u us)) h (hf (value u us)) in record { marks = a.marks; rises = a.rises }

-- A component's own block has a number before it.
abbrev pub ComponentsGrow : GrowComponents → Type 0
ComponentsGrow d = (q : Path) (made : List Id) (args : Names) (k : ℕ) (w : MPassed) (st st0 : State) → NoMarks st0 st → st0.next a_block ≤ k → suc k ≤ st.next a_block → GrownOf st0 (d q made args (Some k) w st)

abbrev pub YieldsGrow : GrowYields → Type 0
YieldsGrow y = (n : Text) (made : List Id) (rs : List ℕ) (p : Path) (st : State) → GrownOf st (y n made rs p st)

module _ (app : App) (d : GrowComponents) (y : GrowYields) (hd : ComponentsGrow d) (hy : YieldsGrow y) where
  abbrev exprs : (ms : MScope) (es : t.Exprs) (st : State) → NoMarks st (bind_exprs app ms es st).state
  exprs ms es st = exprs_make NoMarks no_marks both_none one_row app ms es st

  mutual
    stmt_grown : (x : t.Stmt) (ms : MScope) (p : Path) (st : State) → GrownOf st (grow_stmt app d y ms p x st)
    stmt_grown (t.text_stmt z) ms p st = record { marks = node_marks (text_content z) st; rises = tt }
    stmt_grown (t.comment_stmt z) ms p st = record { marks = node_marks (comment_content z) st; rises = tt }
    stmt_grown (t.put e) ms p st =
        let b = bind_exprs app ms (one_expr e) st in let x = place b in let c = text_content (text_of (first_value x.pairs)) in
        record { marks = then_none st x.state (made_node c x.state) ((x.spot.ref, None) ∷ []) (place_marks st b (exprs ms (one_expr e) st)) (node_marks c x.state); rises = tt }
    stmt_grown (t.element tag ps b) ms p st =
        let z = bind_written app (mwritten_parts ms ps) st in
        let a = flush_parts z.parts z.state in
        let n = a.state.next a_node in
        let c = element_content tag a.attrs in
        let st1 = made_node c a.state in
        let r = grow_body app d y ms p 0 b st1 in
        let m = install_parts n 0 z.parts r.1 in
        let g = body_grown b ms p 0 st1 in
        let tag_marks = then_marks st z.state a.state [] (attr_marks a.spots) (written_make NoMarks no_marks both_none one_row app (mwritten_parts ms ps) st) (attrs_marks (attributes_waiting z.parts) (names_waiting (attributes_waiting z.parts)) z.state) in
        let h = then_none st a.state st1 (attr_marks a.spots) tag_marks (node_marks c a.state) in
        let k = mods_marks n 0 (modifiers_waiting z.parts) r.1 in
        record {
          marks = then_marks st st1 m.state (attr_marks a.spots) (marked_in r.0 ++ mod_marks m.spots) h (then_marks st1 r.1 m.state (marked_in r.0) (mod_marks m.spots) g.marks k);
          rises = rises_more_in (st1.next a_block) (st.next a_block) (r.1.next a_block) (m.state.next a_block) h.blocks k.blocks r.0 g.rises;
        }
    stmt_grown (t.component_stmt c ps given bs) ms p st =
        let a = bind_args app ms given st in
        let z = bind_written app (mwritten_parts ms ps) a.state in
        let k = z.state.next a_block in
        let st1 = make a_block block_row z.state in
        let h = both_none st a.state z.state (args_make NoMarks no_marks both_none one_row app ms given st) (written_make NoMarks no_marks both_none one_row app (mwritten_parts ms ps) a.state) in
        hd (into c ∷ p) (block_id k ∷ (a.made ++ z.made)) a.names k (mpassed k ps bs ms) st1 st (both_none st z.state st1 h (make_marks a_block block_row z.state)) h.blocks
        (let e = make_next a_block block_row z.state in omega (arith, e))
    stmt_grown (t.if_stmt e unless b c) ms p st =
        let x0 = bind_exprs app ms (one_expr e) st in let x = place x0 in
        if_grown (takes_first unless (first_value x.pairs)) x.spot st x.state
        (or_comment (grow_body app d y ms (main ∷ p) 0 b x.state)) (or_comment (grow_body app d y ms (otherwise ∷ p) 0 c x.state))
        (place_marks st x0 (exprs ms (one_expr e) st))
        (arm_grown x.state (grow_body app d y ms (main ∷ p) 0 b x.state) (body_grown b ms (main ∷ p) 0 x.state))
        (arm_grown x.state (grow_body app d y ms (otherwise ∷ p) 0 c x.state) (body_grown c ms (otherwise ∷ p) 0 x.state))
    stmt_grown (t.each e k ns b c) ms p st =
        let x0 = bind_exprs app ms (one_expr e) st in let x = place x0 in
        let body : MScope → Path → State → Lives × State = λ ms' q st'. grow_body app d y ms' q 0 b st' in
        each_grown (values_listed (first_value x.pairs)) x.spot st x.state
        (λ vs. grow_entries (grow_item body ms ns) (items ∷ p) (entries k 0 [] vs) x.state)
        (or_comment (grow_body app d y ms (otherwise ∷ p) 0 c x.state))
        (place_marks st x0 (exprs ms (one_expr e) st))
        (λ vs. entries_grown (grow_item body ms ns) (λ q u st'. item_grown body (λ ms' q' st''. body_grown b ms' q' 0 st'') ms ns q u st') (items ∷ p) (entries k 0 [] vs) x.state)
        (arm_grown x.state (grow_body app d y ms (otherwise ∷ p) 0 c x.state) (body_grown c ms (otherwise ∷ p) 0 x.state))
    stmt_grown (t.let_stmt es ns b) ms p st =
        let x = bind_exprs app ms es st in let z = bind_params ns x.ids x.state in let r = grow_body app d y (with_names z.names ms) (main ∷ p) 0 b z.state in
        let a = after_in st z.state [] r (both_none st x.state z.state (exprs ms es st) (params_make NoMarks no_marks both_none one_row ns x.ids x.state)) (body_grown b (with_names z.names ms) (main ∷ p) 0 z.state) in
        record { marks = a.marks; rises = a.rises }
    stmt_grown (t.yield es n) ms p st =
        let x = bind_exprs app ms es st in after_of st x.state (y n x.made x.ids p x.state) (exprs ms es st) (hy n x.made x.ids p x.state)

    pub body_grown : (b : t.Body) (ms : MScope) (p : Path) (i : ℕ) (st : State) → GrownIn st (grow_body app d y ms p i b st)
    body_grown t.end ms p i st = nothing_grown st
    body_grown (t.stmt x b) ms p i st =
        let r = grow_stmt app d y ms (at i ∷ p) x st in let z = grow_body app d y ms p (suc i) b r.1 in
        stmt_before st r z (stmt_grown x ms (at i ∷ p) st) (body_grown b ms p (suc i) r.1)

block_grown : (n : Text) (o : Option Block) (made : List Id) (rs : List ℕ) (f : Block → Names → State → Lives × State) → ((b : Block) (ns : Names) (st : State) → GrownIn st (f b ns st)) → (st : State) → GrownOf st (grow_block n o made rs f st)
block_grown n None made rs f h st = record { marks = no_marks st; rises = tt }
block_grown n (Some b) made rs f h st =
    let z = bind_params b.params rs st in let r = f b z.names z.state in
    let a = after_in st z.state [] r (params_make NoMarks no_marks both_none one_row b.params rs st) (h b z.names z.state) in record { marks = a.marks; rises = a.rises }

module _ (app : App) (d : GrowComponents) (hd : ComponentsGrow d) where
  pub yields_grown : (v : MPassed) → YieldsGrow (grow_yields app d v)
  yields_grown mnothing n made rs p st = record { marks = no_marks st; rises = tt }
  yields_grown (mpassed k ps bs (mscope i a l w)) n made rs p st =
      block_grown n (block_named n bs) made rs
      (λ b names st'. grow_body app d (grow_yields app d w) (mscope i a (l ++ names) w) (slot n ∷ p) 0 b.body st')
      (λ b names st'. body_grown app d (grow_yields app d w) hd (yields_grown w) b.body (mscope i a (l ++ names) w) (slot n ∷ p) 0 st') st

-- an instance, and its template's body
module _ (m : ℕ) (app : App) (τ : Store) (hd : ComponentsGrow (grow_components m app τ)) (q : Path) (made : List Id) (args : Names) (w : MPassed) (st : State) where
  instance_grown : let c = grow_cells app τ q (class_at app q).fields st in
      let i : Inst = record { id = c.state.next an_instance; path = q; cells = c.names } in
      let inner = grow_components m app τ in
      Grown st (grow_body app inner (grow_yields app inner w) (mscope i args [] w) q 0 (class_at app q).template (make an_instance (instance_row i) c.state)).1
      (marked_in (grow_body app inner (grow_yields app inner w) (mscope i args [] w) q 0 (class_at app q).template (make an_instance (instance_row i) c.state)).0)
      (λ b n. RisesIn b n (grow_body app inner (grow_yields app inner w) (mscope i args [] w) q 0 (class_at app q).template (make an_instance (instance_row i) c.state)).0)
  instance_grown =
      let c = grow_cells app τ q (class_at app q).fields st in
      let i : Inst = record { id = c.state.next an_instance; path = q; cells = c.names } in
      let inner = grow_components m app τ in
      let st1 = make an_instance (instance_row i) c.state in
      after_in st st1 [] (grow_body app inner (grow_yields app inner w) (mscope i args [] w) q 0 (class_at app q).template st1)
      (both_none st c.state st1 (cells_make NoMarks no_marks both_none one_row app τ q (class_at app q).fields st) (make_marks an_instance (instance_row i) c.state))
      (body_grown app inner (grow_yields app inner w) hd (yields_grown app inner hd w) (class_at app q).template (mscope i args [] w) q 0 st1)

pub components_grown : (m : ℕ) (app : App) (τ : Store) → ComponentsGrow (grow_components m app τ)
components_grown zero app τ q made args k w st st0 h le lt = record { marks = h; rises = tt }
components_grown (suc m) app τ q made args k w st st0 h le lt =
    let g = instance_grown m app τ (components_grown m app τ) q made args w st in
    let r = grow_components (suc m) app τ q made args (Some k) w st in
    record {
      marks = then_marks st0 st r.1 [] (marked r.0) h g.marks;
      rises = (le, let i = g.marks.blocks in omega (arith, lt, i), rises_of st r.1 k lt _ g.rises);
    }
  where
    rises_of : (st st' : State) (k : ℕ) → suc k ≤ st.next a_block → (ls : Lives) → RisesIn (st.next a_block) (st'.next a_block) ls → RisesIn (suc k) (st'.next a_block) ls
    rises_of st st' k lt ls h = rises_more_in (st.next a_block) (suc k) (st'.next a_block) (st'.next a_block) lt (omega arith) ls h

pub app_grown : (app : App) (τ : Store) (st : State) → GrownOf st (grow_app app τ st)
app_grown app τ st = by app.limit where
  by : (m : ℕ) → GrownOf st (grow_components m app τ [] [] [] None mnothing st)
  by zero = record { marks = no_marks st; rises = tt }
  by (suc m) = let g = instance_grown m app τ (components_grown m app τ) [] [] [] mnothing st in record { marks = g.marks; rises = g.rises }

pub appended_installs : AppendedInstalls
appended_installs app τ st = let g = app_grown app τ st in (g.marks.installs, g.marks.updates)
