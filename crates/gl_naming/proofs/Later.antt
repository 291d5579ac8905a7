-- What appending by numbers leaves as it was: all that was there, which old sources are touched, and which old modifiers are listed.
use Rattle.std.proofs.Common.{◌≡◌, ◌≢◌, ◌<◌, ◌≤◌, ℕ, zero, suc, List, [], ◌∷◌, ◌++◌, map, Bool, true, false, ◌||◌, ◌&&◌, Option, Some, None, cond, refl, sym, ◌∙◌, ap, subst, arith, inl, inr, ◌⊎◌}
use Rattle.std.specs.Prelude.{if◌then◌else◌, nat_eq}
use Rattle.std.proofs.lemmas.Bool.Decides.{eqb_tells}
use Rattle.gl_base.specs.Texts.{Text}
use Rattle.gl_base.specs.Names.{last_named}
use Rattle.gl_value.specs.Value.{undefined, text, action, no_values, plain, Values, value, count_value, text_of}
use Rattle.gl_ast.specs.Template as t
use Rattle.gl_ast.specs.Template.{Expr, Exprs, NamedExprs, AttrValue, Part, Plain, no_exprs, expr}
use Rattle.gl_meaning.specs.App.{App}
use Rattle.gl_meaning.specs.Path.{at, main, otherwise, items, item, into, slot, Path, V}
use Rattle.gl_meaning.specs.Scope.{sources_of}
use Rattle.gl_meaning.specs.Eval.{Store, class_at, cell_value, Member, field_member, getter_member, action_member, member_of, takes_first}
use Rattle.gl_meaning.specs.Parts.{Written, attribute_value}
use Rattle.gl_meaning.specs.Render.{Entry, entries, values_listed, Block, block_named}
use Rattle.gl_plain.specs.Ids.{a_ref, a_node, a_block, an_instance, a_modifier, Kind, kind_eq, Id, ref, modifier_id, block_id}
use Rattle.gl_plain.specs.State.{Form, constant_form, property_form, call_form, joined_form, source_form, MScope, mscope, MPassed, mnothing, mpassed, Inst, Names, inst_of, args_of, locals_in, own, any_of, row, content, instance_row, block_row, Content, text_content, comment_content, element_content, with_names, Thing, State, source_eq, make, note_evaluated, note_installed, all_form}
use Rattle.gl_plain.specs.Naming.{by_number, made_source}
use Rattle.gl_plain.specs.Binding.{Bound, BoundAll, made_row, old_ref, after_made, bind_along, bind_found, bind_bare, bind_member_as, bind_in_as, bind_all_in_as, bind_named_in_as, bind_deep_as, getters_in, bind_expr_as, bind_exprs_as, bind_pairs_as, bind_value_as, bind_args_as, bind_params, Spot, place, first_value}
use Rattle.gl_plain.specs.Parts.{mwritten_parts}
use Rattle.gl_plain.specs.Tags.{bind_part_as, bind_written_as, Given, fixed_given, live_given, taken_waiting, some_waiting_live, given_ref, given_refs, given_pairs, AttrsGiven, give_attrs, flush_parts, attributes_waiting, names_waiting, Waiting, WaitingModifier, modifiers_waiting, install, install_all, install_parts}
use Rattle.gl_plain.specs.Live.{item_names, Live, Lives, Items, have_node}
use Rattle.gl_plain.specs.Grow.{made_node, Arm, or_comment, ItemGrown, item_spot_as, grow_item_as, grow_entries, branch_from, items_or_else, GrowComponents, GrowYields, grow_block, grow_stmt_as, grow_body_as, grow_yields_as, grow_cells_as, grow_components_as}
use Rattle.gl_plain.proofs.Moves.{make_more, unhit, hit_num}
use Rattle.gl_naming.specs.Numbered.{number, OwnSource, NumberedThing, NoneCounted, Unlisted}
use Rattle.gl_naming.proofs.Low.{Whole, numbered_more, last_more, low_last, low_pairs}

pub record Later (st st' : State) : Type 0 where
  pub more : (q : Id) → st.next q.kind ≤ st'.next q.kind
  pub rows : (q : Id) → q.num < st.next q.kind → st'.look q ≡ st.look q
  pub warm : (k : ℕ) → k < st.next a_ref → st'.touched (number k) ≡ st.touched (number k)
  pub lists : (c : Id → ℕ) → ((q : Id) → st.next q.kind ≤ q.num → c q ≡ 0) → Unlisted c st → Unlisted c st'
  pub own : Whole st → Whole st'

pub later_all : (st : State) → Later st st
later_all st = record { more = λ q. omega arith; rows = λ q lt. refl; warm = λ k lt. refl; lists = λ c o u. u; own = λ w. w }

pub later_then : (st st1 st2 : State) → Later st st1 → Later st1 st2 → Later st st2
later_then st st1 st2 h g = record {
  more = λ q. let i = h.more q in let k = g.more q in omega (arith, i, k);
  rows = λ q lt. g.rows q (let i = h.more q in omega (arith, i, lt)) ∙ h.rows q lt;
  warm = λ k lt. g.warm k (let i = h.more (ref 0) in omega (arith, i, lt)) ∙ h.warm k lt;
  lists = λ c o u. g.lists c (λ q le. o q (let i = h.more q in omega (arith, i, le))) (h.lists c o u);
  own = λ w. g.own (h.own w);
}

-- a thing is made
made_later : (k : Kind) (x : Thing) (st : State) → (Whole st → Whole (make k x st)) → Later st (make k x st)
made_later k x st own = record {
  more = make_more k x st;
  rows = λ q lt.
      let new : Id = record { kind = k; num = st.next k } in
      ap (λ b. if b then Some x else st.look q) (unhit q new (hit_num q new (λ e f. let i : st.next q.kind ≡ st.next k = ap st.next e in omega (arith, lt, i, f))));
  warm = λ j lt. refl;
  lists = λ c o u. u;
  own = own;
}

-- of another kind than references
pub later_make : (k : Kind) (x : Thing) (st : State) → kind_eq a_ref k ≡ false → Later st (make k x st)
later_make k x st other = made_later k x st (λ w r. subst (λ b. NumberedThing (if b then suc (st.next k) else st.next a_ref) r (if b && nat_eq r (st.next k) then Some x else st.look (ref r))) (sym other) (w r))

-- a reference
ref_later : (x : Thing) (st : State) → (Whole st → NumberedThing (suc (st.next a_ref)) (st.next a_ref) (Some x)) → Later st (make a_ref x st)
ref_later x st fits = made_later a_ref x st (λ w r. by r (w r) (fits w) (eqb_tells r (st.next a_ref))) where
  by : (r : ℕ) → NumberedThing (st.next a_ref) r (st.look (ref r)) → NumberedThing (suc (st.next a_ref)) (st.next a_ref) (Some x)
      → ((nat_eq r (st.next a_ref) ≡ true) × (r ≡ st.next a_ref)) ⊎ ((nat_eq r (st.next a_ref) ≡ false) × (r ≢ st.next a_ref))
      → NumberedThing (suc (st.next a_ref)) r (if nat_eq r (st.next a_ref) then Some x else st.look (ref r))
  by r h k (inl e) = subst (λ b. NumberedThing (suc (st.next a_ref)) r (if b then Some x else st.look (ref r))) (sym e.0) (subst (λ i. NumberedThing (suc (st.next a_ref)) i (Some x)) (sym e.1) k)
  by r h k (inr e) =
      subst (λ b. NumberedThing (suc (st.next a_ref)) r (if b then Some x else st.look (ref r))) (sym e.0) (numbered_more (st.next a_ref) (suc (st.next a_ref)) r (omega arith) (st.look (ref r)) h)

later_row : (x : Form) (st : State) → OwnSource (suc (st.next a_ref)) (st.next a_ref) x → Later st (made_row x st)
later_row x st o = ref_later (row (record { form = x; last = any_of [] })) st (λ w. (o, λ t u e. refl))

more_row : (x : Form) (st st' : State) → OwnSource (suc (st'.next a_ref)) (st'.next a_ref) x → Later st st' → Later st (made_row x st')
more_row x st st' o h = later_then st st' (made_row x st') h (later_row x st' o)

-- another source isn't that of the number
pub other_number : (k r : ℕ) → k ≢ r → source_eq (number k) (number r) ≡ false
other_number k r ne = by (eqb_tells k r) where
  by : ((nat_eq k r ≡ true) × (k ≡ r)) ⊎ ((nat_eq k r ≡ false) × (k ≢ r)) → source_eq (number k) (number r) ≡ false
  by (inl e) = absurd (ne e.1)
  by (inr e) = ap (λ b. b && true) e.0

pub later_source : (v : V) (st : State) → Later st (made_source by_number (number (st.next a_ref)) v st)
later_source v st = let h = later_row (source_form (number (st.next a_ref)) v) st (refl, omega arith) in record {
  more = h.more;
  rows = h.rows;
  warm = λ k lt. ap (λ b. b || st.touched (number k)) (other_number k (st.next a_ref) (λ e. omega (arith, lt, e)));
  lists = h.lists;
  own = h.own;
}

-- Expressions

along_later : (ks : List Text) (st : State) (b : Bound) → Later st b.state → Later st (bind_along ks b).state
along_later [] st b h = h
along_later (k ∷ ks) st b h = along_later ks st (after_made b.made (property_form b.id k) b.state) (more_row (property_form b.id k) st b.state tt h)

found_later : (o : Option ℕ) (st : State) → Later st (bind_found o st).state
found_later (Some r) st = later_all st
found_later None st = later_row (constant_form undefined) st tt

bare_later : (n : Text) (ks : List Text) (o : Option ℕ) (st : State) → Later st (bind_bare n ks o st).state
bare_later n ks (Some r) st = along_later ks st (old_ref r st) (later_all st)
bare_later n ks None st = later_row (call_form n [] []) st tt

module _ (app : App) (getter : Expr → State → Bound) (ms : MScope) (getter_later : (e : Expr) (st : State) → Later st (getter e st).state) where
  member_later : (x : Text) (m : Member) (st : State) → Later st (bind_member_as by_number app getter ms x m st).state
  member_later x field_member st = later_all st
  member_later x (getter_member g) st = getter_later g st
  member_later x action_member st = later_row (constant_form (action (by_number.owner (inst_of ms)) x no_values)) st tt

  mutual
    expr_later : (e : Expr) (st : State) → Later st (bind_in_as by_number app getter ms e st).state
    expr_later (t.literal v) st = later_row (constant_form (plain v)) st tt
    expr_later (t.this x ks) st = let m = member_of (class_at app (inst_of ms).path) x in along_later ks st (bind_member_as by_number app getter ms x m st) (member_later x m st)
    expr_later (t.argument n ks) st = along_later ks st (bind_found (last_named n (args_of ms)) st) (found_later (last_named n (args_of ms)) st)
    expr_later (t.bare n ks) st = bare_later n ks (last_named n (locals_in ms)) st
    expr_later (t.call n es ns) st =
        let b = bind_all_in_as by_number app getter ms es st in
        let c = bind_named_in_as by_number app getter ms ns b.state in
        more_row (call_form n b.ids c.names) st c.state tt (later_then st b.state c.state (all_later es st) (named_later ns b.state))
    expr_later (t.cat es) st = let b = bind_all_in_as by_number app getter ms es st in more_row (joined_form b.ids) st b.state tt (all_later es st)

    all_later : (es : Exprs) (st : State) → Later st (bind_all_in_as by_number app getter ms es st).state
    all_later t.no_exprs st = later_all st
    all_later (t.expr e es) st =
        let b = bind_in_as by_number app getter ms e st in let c = bind_all_in_as by_number app getter ms es b.state in later_then st b.state c.state (expr_later e st) (all_later es b.state)

    named_later : (ns : NamedExprs) (st : State) → Later st (bind_named_in_as by_number app getter ms ns st).state
    named_later t.no_named st = later_all st
    named_later (t.named_expr n e ns) st =
        let b = bind_in_as by_number app getter ms e st in let c = bind_named_in_as by_number app getter ms ns b.state in later_then st b.state c.state (expr_later e st) (named_later ns b.state)

module _ (app : App) where
  deep_later : (n : ℕ) (ms : MScope) (e : Expr) (st : State) → Later st (bind_deep_as by_number n app ms e st).state
  deep_later zero ms e st = later_row (constant_form undefined) st tt
  deep_later (suc n) ms e st = expr_later app (bind_deep_as by_number n app (own ms)) ms (λ g st'. deep_later n (own ms) g st') e st

  bound_later : (ms : MScope) (e : Expr) (st : State) → Later st (bind_expr_as by_number app ms e st).state
  bound_later ms e st = deep_later (suc (getters_in app ms)) ms e st

  pub exprs_later : (ms : MScope) (es : Exprs) (st : State) → Later st (bind_exprs_as by_number app ms es st).state
  exprs_later ms es st = all_later app (bind_deep_as by_number (getters_in app ms) app (own ms)) ms (λ g st'. deep_later (getters_in app ms) (own ms) g st') es st

  pairs_later : (ms : MScope) (ns : NamedExprs) (st : State) → Later st (bind_pairs_as by_number app ms ns st).state
  pairs_later ms ns st = named_later app (bind_deep_as by_number (getters_in app ms) app (own ms)) ms (λ g st'. deep_later (getters_in app ms) (own ms) g st') ns st

  value_later : (ms : MScope) (v : AttrValue) (st : State) → Later st (bind_value_as by_number app ms v st).state
  value_later ms (t.fixed z) st = later_row (constant_form (text z)) st tt
  value_later ms (t.live e) st = bound_later ms e st

  pub args_later : (ms : MScope) (gs : List (Text × AttrValue)) (st : State) → Later st (bind_args_as by_number app ms gs st).state
  args_later ms [] st = later_all st
  args_later ms (g ∷ gs) st =
      let b = bind_value_as by_number app ms g.1 st in let c = bind_args_as by_number app ms gs b.state in later_then st b.state c.state (value_later ms g.1 st) (args_later ms gs b.state)

  -- Tags

  part_later : (ms : MScope) (p : Part) (st : State) → Later st (bind_part_as by_number app ms p st).state
  part_later ms (t.attribute n (t.fixed z)) st = later_all st
  part_later ms (t.attribute n (t.live e)) st = bound_later ms e st
  part_later ms (t.modifier n es ns) st =
      let b = bind_exprs_as by_number app ms es st in let c = bind_pairs_as by_number app ms ns b.state in later_then st b.state c.state (exprs_later ms es st) (pairs_later ms ns b.state)
  part_later ms t.spread st = later_all st

  pub written_later : (ws : List (Written MScope)) (st : State) → Later st (bind_written_as by_number app ws st).state
  written_later [] st = later_all st
  written_later (w ∷ ws) st =
      let b = bind_part_as by_number app w.by w.part st in let c = bind_written_as by_number app ws b.state in later_then st b.state c.state (part_later w.by w.part st) (written_later ws b.state)

  -- the cells of an instance
  pub cells_later : (σ : Store) (q : Path) (fs : List (Text × Plain)) (st : State) → Later st (grow_cells_as by_number app σ q fs st).state
  cells_later σ q [] st = later_all st
  cells_later σ q (x ∷ fs) st =
      let v = cell_value app σ q x.0 in
      let st1 = made_source by_number (number (st.next a_ref)) v st in
      later_then st st1 (grow_cells_as by_number app σ q fs st1).state (later_source v st) (cells_later σ q fs st1)

pub params_later : (ns : List Text) (rs : List ℕ) (st : State) → Later st (bind_params ns rs st).state
params_later [] rs st = later_all st
params_later (n ∷ ns) [] st =
    let st1 = made_row (constant_form undefined) st in later_then st st1 (bind_params ns [] st1).state (later_row (constant_form undefined) st tt) (params_later ns [] st1)
params_later (n ∷ ns) (r ∷ rs) st = params_later ns rs st

-- Positions

pub place_later : (st : State) (b : BoundAll) → Later st b.state → Later st (place b).state
place_later st b h =
    let x : Thing = row (record { form = all_form b.ids; last = any_of (sources_of (place b).pairs) }) in
    let fits : Whole b.state → NumberedThing (suc (b.state.next a_ref)) (b.state.next a_ref) (Some x) =
    (λ w. (tt, last_more (b.state.next a_ref) (suc (b.state.next a_ref)) (omega arith) (any_of (sources_of (place b).pairs)) (low_last (b.state.next a_ref) (sources_of (place b).pairs) (low_pairs b.state.look (b.state.next a_ref) w b.ids)))) in
    let m = later_then st b.state (make a_ref x b.state) h (ref_later x b.state fits) in
    record { more = m.more; rows = m.rows; warm = m.warm; lists = m.lists; own = m.own }

given_later : (g : Given) (st : State) → Later st (given_ref g st).state
given_later (fixed_given z) st = later_row (constant_form (text z)) st tt
given_later (live_given r) st = later_all st

givens_later : (gs : List (Text × Given)) (st : State) → Later st (given_refs gs st).state
givens_later [] st = later_all st
givens_later (g ∷ gs) st = let b = given_ref g.1 st in later_then st b.state (given_refs gs b.state).state (given_later g.1 st) (givens_later gs b.state)

attrs_later : (ws : List (Text × Given)) (ns : List Text) (st : State) → Later st (give_attrs ws ns st).state
attrs_later ws [] st = later_all st
attrs_later ws (n ∷ ns) st = by (some_waiting_live (taken_waiting n ws)) (attrs_later ws ns) where
  by : (u : Bool) → ((st' : State) → Later st' (give_attrs ws ns st').state)
      → let taken = taken_waiting n ws in
      let a : AttrsGiven = if u
      then (let x = place (given_refs taken st) in let r = give_attrs ws ns x.state in record { attrs = (n, attribute_value x.pairs) ∷ r.attrs; spots = record { name = n; spot = x.spot } ∷ r.spots; state = r.state })
      else (let r = give_attrs ws ns st in record { attrs = (n, attribute_value (given_pairs taken)) ∷ r.attrs; spots = r.spots; state = r.state }) in
      Later st a.state
  by true rest =
      let b = given_refs (taken_waiting n ws) st in
      let x = place b in
      later_then st x.state (give_attrs ws ns x.state).state (place_later st b (givens_later (taken_waiting n ws) st)) (rest x.state)
  by false rest = rest st

pub flush_later : (ps : List Waiting) (st : State) → Later st (flush_parts ps st).state
flush_later ps st = attrs_later (attributes_waiting ps) (names_waiting (attributes_waiting ps)) st

none_join : (c : Id → ℕ) (xs : List ℕ) (m : ℕ) → NoneCounted c xs → c (modifier_id m) ≡ 0 → NoneCounted c (xs ++ m ∷ [])
none_join c [] m h e = (e, tt)
none_join c (x ∷ xs) m h e = (h.0, none_join c xs m h.1 e)

later_installed : (x : Thing) (st : State) → Later st (note_installed (st.next a_modifier) (make a_modifier x st))
later_installed x st = let h = later_make a_modifier x st refl in record {
  more = h.more;
  rows = h.rows;
  warm = h.warm;
  lists = λ c o u. (none_join c st.installs (st.next a_modifier) u.0 (o (modifier_id (st.next a_modifier)) (omega arith)), u.1);
  own = h.own;
}

pub mods_later : (n i : ℕ) (ws : List WaitingModifier) (st : State) → Later st (install_all n i ws st).state
mods_later n i [] st = later_all st
mods_later n i (w ∷ ws) st =
    let b : BoundAll = record { ids = w.ids ++ map (λ y. y.1) w.names; made = []; state = st } in
    let x = install n i w (place b) in
    later_then st x.1 (install_all n (suc i) ws x.1).state
    (later_then st (place b).state x.1 (place_later st b (later_all st)) (later_installed _ (place b).state)) (mods_later n (suc i) ws x.1)

-- Arms and items

pub node_later : (c : Content) (st : State) → Later st (made_node c st)
node_later c st = later_make a_node (content c) st refl

pub arm_later : (st : State) (r : Lives × State) → Later st r.1 → Later st (or_comment r).state
arm_later st r h = by (have_node r.0) where
  by : (u : Bool) → let a : Arm = (if u then record { comment = None; lives = r.0; state = r.1 } else record { comment = Some (r.1.next a_node); lives = r.0; state = made_node (comment_content []) r.1 }) in Later st a.state
  by true = h
  by false = later_then st r.1 (made_node (comment_content []) r.1) h (node_later (comment_content []) r.1)

pub entries_later : (one : Path → Entry → State → ItemGrown) → ((q : Path) (x : Entry) (st : State) → Later st (one q x st).arm.state) → (p : Path) (xs : List Entry) (st : State) → Later st (grow_entries one p xs st).1
entries_later one h p [] st = later_all st
entries_later one h p (x ∷ xs) st =
    let q = item x.key x.occurrence ∷ p in let s = (one q x st).arm.state in later_then st s (grow_entries one p xs s).1 (h q x st) (entries_later one h p xs s)

pub spot_later : (ns : List Text) (q : Path) (x : Entry) (st : State) → Later st (item_spot_as by_number ns q x st).1
spot_later ns q x st =
    let st1 = made_source by_number (number (st.next a_ref)) x.value st in
    let st2 = made_source by_number (number (st1.next a_ref)) (count_value x.index) st1 in
    let rs : List ℕ = st.next a_ref ∷ st1.next a_ref ∷ [] in
    later_then st st2 (bind_params ns rs st2).state (later_then st st1 st2 (later_source x.value st) (later_source (count_value x.index) st1)) (params_later ns rs st2)

pub item_later : (body : MScope → Path → State → Lives × State) → ((ms : MScope) (q : Path) (st : State) → Later st (body ms q st).1)
    → (ms : MScope) (ns : List Text) (q : Path) (x : Entry) (st : State) → Later st (grow_item_as by_number body ms ns q x st).arm.state
item_later body h ms ns q x st =
    let s = item_spot_as by_number ns q x st in
    let r = body (with_names (item_names ns s.0) ms) q s.1 in
    later_then st s.1 (or_comment r).state (spot_later ns q x st) (arm_later s.1 r (h (with_names (item_names ns s.0) ms) q s.1))

if_later : (u : Bool) (z : Spot) (st : State) (f g : Arm) → Later st f.state → Later st g.state → Later st (cond {A = Live × State} u (branch_from z true f) (branch_from z false g)).1
if_later true z st f g hf hg = hf
if_later false z st f g hf hg = hg

each_later : (vs : Values Path) (z : Spot) (st : State) (F : Values Path → Items × State) (g : Arm) → ((us : Values Path) → Later st (F us).1) → Later st g.state → Later st (items_or_else z vs F g).1
each_later no_values z st F g hf hg = hg
each_later (value u us) z st F g hf hg = hf (value u us)

-- Templates

abbrev ComponentsLater : GrowComponents → Type 0
ComponentsLater d = (q : Path) (made : List Id) (args : Names) (k : Option ℕ) (w : MPassed) (st : State) → Later st (d q made args k w st).1

abbrev YieldsLater : GrowYields → Type 0
YieldsLater y = (n : Text) (made : List Id) (rs : List ℕ) (p : Path) (st : State) → Later st (y n made rs p st).1

module _ (app : App) (d : GrowComponents) (y : GrowYields) (hd : ComponentsLater d) (hy : YieldsLater y) where
  one_later : (e : Expr) (ms : MScope) (st : State) → Later st (place (bind_exprs_as by_number app ms (expr e no_exprs) st)).state
  one_later e ms st = place_later st (bind_exprs_as by_number app ms (expr e no_exprs) st) (exprs_later app ms (expr e no_exprs) st)

  mutual
    stmt_later : (x : t.Stmt) (ms : MScope) (p : Path) (st : State) → Later st (grow_stmt_as by_number app d y ms p x st).1
    stmt_later (t.text_stmt z) ms p st = node_later (text_content z) st
    stmt_later (t.comment_stmt z) ms p st = node_later (comment_content z) st
    stmt_later (t.put e) ms p st =
        let x = place (bind_exprs_as by_number app ms (expr e no_exprs) st) in
        let c = text_content (text_of (first_value x.pairs)) in
        later_then st x.state (made_node c x.state) (one_later e ms st) (node_later c x.state)
    stmt_later (t.element tag ps b) ms p st =
        let z = bind_written_as by_number app (mwritten_parts ms ps) st in
        let a = flush_parts z.parts z.state in
        let st1 = made_node (element_content tag a.attrs) a.state in
        let r = grow_body_as by_number app d y ms p 0 b st1 in
        let m = install_parts (a.state.next a_node) 0 z.parts r.1 in
        later_then st a.state m.state (later_then st z.state a.state (written_later app (mwritten_parts ms ps) st) (flush_later z.parts z.state))
        (later_then a.state st1 m.state (node_later (element_content tag a.attrs) a.state)
        (later_then st1 r.1 m.state (body_later b ms p 0 st1) (mods_later (a.state.next a_node) 0 (modifiers_waiting z.parts) r.1)))
    stmt_later (t.component_stmt c ps given bs) ms p st =
        let a = bind_args_as by_number app ms given st in
        let z = bind_written_as by_number app (mwritten_parts ms ps) a.state in
        let k = z.state.next a_block in
        let st1 = make a_block block_row z.state in
        let made = block_id k ∷ (a.made ++ z.made) in
        later_then st st1 (d (into c ∷ p) made a.names (Some k) (mpassed k ps bs ms) st1).1
        (later_then st z.state st1 (later_then st a.state z.state (args_later app ms given st) (written_later app (mwritten_parts ms ps) a.state)) (later_make a_block block_row z.state refl))
        (hd (into c ∷ p) made a.names (Some k) (mpassed k ps bs ms) st1)
    stmt_later (t.if_stmt e unless b c) ms p st =
        let x = place (bind_exprs_as by_number app ms (expr e no_exprs) st) in
        let f = grow_body_as by_number app d y ms (main ∷ p) 0 b x.state in
        let g = grow_body_as by_number app d y ms (otherwise ∷ p) 0 c x.state in
        later_then st x.state (cond {A = Live × State} (takes_first unless (first_value x.pairs)) (branch_from x.spot true (or_comment f)) (branch_from x.spot false (or_comment g))).1 (one_later e ms st)
        (if_later (takes_first unless (first_value x.pairs)) x.spot x.state (or_comment f) (or_comment g)
        (arm_later x.state f (body_later b ms (main ∷ p) 0 x.state)) (arm_later x.state g (body_later c ms (otherwise ∷ p) 0 x.state)))
    stmt_later (t.each e k ns b c) ms p st =
        let x = place (bind_exprs_as by_number app ms (expr e no_exprs) st) in
        let body : MScope → Path → State → Lives × State = λ ms' q st'. grow_body_as by_number app d y ms' q 0 b st' in
        let F : Values Path → Items × State = λ vs. grow_entries (grow_item_as by_number body ms ns) (items ∷ p) (entries k 0 [] vs) x.state in
        let g = grow_body_as by_number app d y ms (otherwise ∷ p) 0 c x.state in
        later_then st x.state (items_or_else x.spot (values_listed (first_value x.pairs)) F (or_comment g)).1 (one_later e ms st)
        (each_later (values_listed (first_value x.pairs)) x.spot x.state F (or_comment g)
        (λ vs. entries_later (grow_item_as by_number body ms ns) (λ q u st'. item_later body (λ ms' q' st''. body_later b ms' q' 0 st'') ms ns q u st') (items ∷ p) (entries k 0 [] vs) x.state)
        (arm_later x.state g (body_later c ms (otherwise ∷ p) 0 x.state)))
    stmt_later (t.let_stmt es ns b) ms p st =
        let x = bind_exprs_as by_number app ms es st in
        let z = bind_params ns x.ids x.state in
        later_then st z.state (grow_body_as by_number app d y (with_names z.names ms) (main ∷ p) 0 b z.state).1
        (later_then st x.state z.state (exprs_later app ms es st) (params_later ns x.ids x.state)) (body_later b (with_names z.names ms) (main ∷ p) 0 z.state)
    stmt_later (t.yield es n) ms p st =
        let x = bind_exprs_as by_number app ms es st in later_then st x.state (y n x.made x.ids p x.state).1 (exprs_later app ms es st) (hy n x.made x.ids p x.state)

    pub body_later : (b : t.Body) (ms : MScope) (p : Path) (i : ℕ) (st : State) → Later st (grow_body_as by_number app d y ms p i b st).1
    body_later t.end ms p i st = later_all st
    body_later (t.stmt x b) ms p i st =
        let r = grow_stmt_as by_number app d y ms (at i ∷ p) x st in
        later_then st r.1 (grow_body_as by_number app d y ms p (suc i) b r.1).1 (stmt_later x ms (at i ∷ p) st) (body_later b ms p (suc i) r.1)

block_later : (n : Text) (o : Option Block) (made : List Id) (rs : List ℕ) (f : Block → Names → State → Lives × State) → ((b : Block) (ns : Names) (st : State) → Later st (f b ns st).1)
    → (st : State) → Later st (grow_block n o made rs f st).1
block_later n None made rs f h st = later_all st
block_later n (Some b) made rs f h st = let z = bind_params b.params rs st in later_then st z.state (f b z.names z.state).1 (params_later b.params rs st) (h b z.names z.state)

module _ (app : App) (d : GrowComponents) (hd : ComponentsLater d) where
  pub yields_later : (v : MPassed) → YieldsLater (grow_yields_as by_number app d v)
  yields_later mnothing n made rs p st = later_all st
  yields_later (mpassed k ps bs (mscope i a l w)) n made rs p st =
      block_later n (block_named n bs) made rs
      (λ b names st'. grow_body_as by_number app d (grow_yields_as by_number app d w) (mscope i a (l ++ names) w) (slot n ∷ p) 0 b.body st')
      (λ b names st'. body_later app d (grow_yields_as by_number app d w) hd (yields_later w) b.body (mscope i a (l ++ names) w) (slot n ∷ p) 0 st') st

pub components_later : (m : ℕ) (app : App) (σ : Store) → ComponentsLater (grow_components_as by_number m app σ)
components_later zero app σ q made args k w st = later_all st
components_later (suc m) app σ q made args k w st =
    let fields = (class_at app q).fields in
    let c = grow_cells_as by_number app σ q fields st in
    let i : Inst = record { id = c.state.next an_instance; path = q; cells = c.names } in
    let st1 = make an_instance (instance_row i) c.state in
    let d = grow_components_as by_number m app σ in
    later_then st st1 (grow_body_as by_number app d (grow_yields_as by_number app d w) (mscope i args [] w) q 0 (class_at app q).template st1).1
    (later_then st c.state st1 (cells_later app σ q fields st) (later_make an_instance (instance_row i) c.state refl))
    (body_later app d (grow_yields_as by_number app d w) (components_later m app σ) (yields_later app d (components_later m app σ) w) (class_at app q).template (mscope i args [] w) q 0 st1)
