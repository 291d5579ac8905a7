-- What binding counts: it makes no node, and evaluates nothing but the positions that it places.
use Rattle.std.proofs.Common.{◌≡◌, ◌<◌, ◌≤◌, ℕ, zero, suc, List, [], ◌∷◌, ◌++◌, Bool, true, false, Option, Some, None, refl, sym, ◌∙◌, ap, subst, arith}
use Rattle.std.specs.Prelude.{map, length, if◌then◌else◌}
use Rattle.std.proofs.lemmas.List.{append-nil, append_assoc}
use Rattle.gl_base.specs.Texts.{Text}
use Rattle.gl_base.specs.Names.{last_named}
use Rattle.gl_value.specs.Value.{undefined, text, action, no_values, plain}
use Rattle.gl_ast.specs.Template.{Expr, Exprs, NamedExprs, AttrValue, Part, Plain}
use Rattle.gl_ast.specs.Template as t
use Rattle.gl_meaning.specs.App.{App}
use Rattle.gl_meaning.specs.Path.{Path}
use Rattle.gl_meaning.specs.Scope.{Pair, Source, cell, sources_of}
use Rattle.gl_meaning.specs.Eval.{Store, values_in, class_at, cell_value, Member, field_member, getter_member, action_member, member_of}
use Rattle.gl_meaning.specs.Parts.{Written}
use Rattle.gl_plain.specs.Ids.{a_ref, a_node, a_modifier, Kind, Id, ref}
use Rattle.gl_plain.specs.State.{Form, constant_form, source_form, property_form, call_form, joined_form, all_form, MScope, inst_of, args_of, locals_in, own, any_of, row, modifier_row, Installed, Thing, State, make}
use Rattle.gl_plain.specs.Binding.{Bound, BoundAll, made_row, old_ref, after_made, bind_along, bind_found, bind_bare, bind_member, bind_in, bind_all_in, bind_named_in, bind_deep, getters_in, bind_expr, bind_exprs, bind_pairs, bind_value, bind_args, bind_params, place}
use Rattle.gl_plain.specs.Tags.{first_values, named_with, values_from, bind_part, bind_written, Given, fixed_given, live_given, taken_waiting, some_waiting_live, given_ref, given_refs, given_pairs, AttrsGiven, give_attrs, flush_parts, attributes_waiting, names_waiting, Waiting, WaitingModifier, modifiers_waiting, install, install_all, install_parts}
use Rattle.gl_meaning.specs.Parts.{attribute_value}
use Rattle.gl_plain.specs.Grow.{grow_cells}
use Rattle.gl_plain.specs.Counts.{Runs, attr_positions, mod_positions}
use Rattle.gl_plain.proofs.Moves.{make_more, unhit, hit_num}

-- What a step that makes new things leaves as it was: the references that were there, and which sources are touched.
pub record Leaves (st st' : State) : Type 0 where
  pub more : st.next a_ref ≤ st'.next a_ref
  pub rows : (r : ℕ) → r < st.next a_ref → st'.look (ref r) ≡ st.look (ref r)
  pub touches : (x : Source) → st'.touched x ≡ st.touched x

leaves_all : (st : State) → Leaves st st
leaves_all st = record { more = omega arith; rows = λ r lt. refl; touches = λ x. refl }

leaves_then : (st st1 st2 : State) → Leaves st st1 → Leaves st1 st2 → Leaves st st2
leaves_then st st1 st2 h g = record {
  more = let i = h.more in let k = g.more in omega (arith, i, k);
  rows = λ r lt. g.rows r (let i = h.more in omega (arith, i, lt)) ∙ h.rows r lt;
  touches = λ x. g.touches x ∙ h.touches x;
}

-- another thing is made
pub leaves_make : (k : Kind) (x : Thing) (st st' : State) → Leaves st st' → Leaves st (make k x st')
leaves_make k x st st' h =
    leaves_then st st' (make k x st') h
    (record {
      more = make_more k x st' (ref 0);
      rows = λ r lt.
          let new : Id = record { kind = k; num = st'.next k } in
          ap (λ b. if b then Some x else st'.look (ref r)) (unhit (ref r) new (hit_num (ref r) new (λ e f. let i : st'.next a_ref ≡ st'.next k = ap st'.next e in omega (arith, lt, i, f))));
      touches = λ y. refl;
    })

-- each number is n or greater
abbrev pub AllFrom : ℕ → List ℕ → Type 0
AllFrom n [] = Unit {0}
AllFrom n (r ∷ rs) = (n ≤ r) × AllFrom n rs

from_join : (n m : ℕ) (xs ys : List ℕ) → n ≤ m → AllFrom n xs → AllFrom m ys → AllFrom n (xs ++ ys)
from_join n m [] [] le h g = tt
from_join n m [] (y ∷ ys) le h g = (let i = g.0 in omega (arith, i, le), from_join n m [] ys le h g.1)
from_join n m (x ∷ xs) ys le h g = (h.0, from_join n m xs ys le h.1 g)

-- a step that made these nodes in order, and evaluated these positions in order, which are new
pub record Steps (st st' : State) (ns rs : List ℕ) : Type 0 where
  pub nodes : Runs (st.next a_node) ns (st'.next a_node)
  pub positions : st'.evaluated ≡ st.evaluated ++ rs
  pub leaves : Leaves st st'
  pub late : AllFrom (st.next a_ref) rs

pub runs_join : (n m k : ℕ) (xs ys : List ℕ) → Runs n xs m → Runs m ys k → Runs n (xs ++ ys) k
runs_join n m k [] ys h g = subst (λ j. Runs j ys k) h g
runs_join n m k (x ∷ xs) ys h g = (h.0, runs_join (suc n) m k xs ys h.1 g)

pub no_steps : (st : State) → Steps st st [] []
no_steps st = record { nodes = refl; positions = sym (append-nil st.evaluated); leaves = leaves_all st; late = tt }

-- one step after another
pub then_steps : (st st1 st2 : State) (ns ns' rs rs' : List ℕ) → Steps st st1 ns rs → Steps st1 st2 ns' rs' → Steps st st2 (ns ++ ns') (rs ++ rs')
then_steps st st1 st2 ns ns' rs rs' h g = record {
  nodes = runs_join (st.next a_node) (st1.next a_node) (st2.next a_node) ns ns' h.nodes g.nodes;
  positions = g.positions ∙ (ap (λ xs. xs ++ rs') h.positions ∙ append_assoc st.evaluated rs rs');
  leaves = leaves_then st st1 st2 h.leaves g.leaves;
  late = from_join (st.next a_ref) (st1.next a_ref) rs rs' h.leaves.more h.late g.late;
}

-- the second evaluates nothing
pub then_nodes : (st st1 st2 : State) (ns ns' rs : List ℕ) → Steps st st1 ns rs → Steps st1 st2 ns' [] → Steps st st2 (ns ++ ns') rs
then_nodes st st1 st2 ns ns' rs h g = subst (λ xs. Steps st st2 (ns ++ ns') xs) (append-nil rs) (then_steps st st1 st2 ns ns' rs [] h g)

-- the second makes no node
pub then_positions : (st st1 st2 : State) (ns rs rs' : List ℕ) → Steps st st1 ns rs → Steps st1 st2 [] rs' → Steps st st2 ns (rs ++ rs')
then_positions st st1 st2 ns rs rs' h g = subst (λ xs. Steps st st2 xs (rs ++ rs')) (append-nil ns) (then_steps st st1 st2 ns [] rs rs' h g)

-- another reference is made
pub row_steps : (x : Form) (st st' : State) → Steps st st' [] [] → Steps st (made_row x st') [] []
row_steps x st st' h = record { nodes = h.nodes; positions = h.positions; leaves = leaves_make a_ref (row (record { form = x; last = any_of [] })) st st' h.leaves; late = tt }

pub one_row : (x : Form) (st : State) → Steps st (made_row x st) [] []
one_row x st = row_steps x st st (no_steps st)

-- Expressions

along_steps : (ks : List Text) (st : State) (b : Bound) → Steps st b.state [] [] → Steps st (bind_along ks b).state [] []
along_steps [] st b h = h
along_steps (k ∷ ks) st b h = along_steps ks st (after_made b.made (property_form b.id k) b.state) (row_steps (property_form b.id k) st b.state h)

found_steps : (o : Option ℕ) (st : State) → Steps st (bind_found o st).state [] []
found_steps (Some r) st = no_steps st
found_steps None st = one_row (constant_form undefined) st

bare_steps : (n : Text) (ks : List Text) (o : Option ℕ) (st : State) → Steps st (bind_bare n ks o st).state [] []
bare_steps n ks (Some r) st = along_steps ks st (old_ref r st) (no_steps st)
bare_steps n ks None st = one_row (call_form n [] []) st

module _ (app : App) (getter : Expr → State → Bound) (ms : MScope) (getter_steps : (e : Expr) (st : State) → Steps st (getter e st).state [] []) where
  member_steps : (x : Text) (m : Member) (st : State) → Steps st (bind_member app getter ms x m st).state [] []
  member_steps x field_member st = no_steps st
  member_steps x (getter_member g) st = getter_steps g st
  member_steps x action_member st = one_row (constant_form (action (inst_of ms).path x no_values)) st

  mutual
    expr_steps : (e : Expr) (st : State) → Steps st (bind_in app getter ms e st).state [] []
    expr_steps (t.literal v) st = one_row (constant_form (plain v)) st
    expr_steps (t.this x ks) st =
        let m = member_of (class_at app (inst_of ms).path) x in along_steps ks st (bind_member app getter ms x m st) (member_steps x m st)
    expr_steps (t.argument n ks) st = along_steps ks st (bind_found (last_named n (args_of ms)) st) (found_steps (last_named n (args_of ms)) st)
    expr_steps (t.bare n ks) st = bare_steps n ks (last_named n (locals_in ms)) st
    expr_steps (t.call n es ns) st =
        let b = bind_all_in app getter ms es st in
        let c = bind_named_in app getter ms ns b.state in
        row_steps (call_form n b.ids c.names) st c.state (then_steps st b.state c.state [] [] [] [] (all_steps es st) (named_steps ns b.state))
    expr_steps (t.cat es) st = let b = bind_all_in app getter ms es st in row_steps (joined_form b.ids) st b.state (all_steps es st)

    all_steps : (es : Exprs) (st : State) → Steps st (bind_all_in app getter ms es st).state [] []
    all_steps t.no_exprs st = no_steps st
    all_steps (t.expr e es) st =
        let b = bind_in app getter ms e st in let c = bind_all_in app getter ms es b.state in then_steps st b.state c.state [] [] [] [] (expr_steps e st) (all_steps es b.state)

    named_steps : (ns : NamedExprs) (st : State) → Steps st (bind_named_in app getter ms ns st).state [] []
    named_steps t.no_named st = no_steps st
    named_steps (t.named_expr n e ns) st =
        let b = bind_in app getter ms e st in let c = bind_named_in app getter ms ns b.state in then_steps st b.state c.state [] [] [] [] (expr_steps e st) (named_steps ns b.state)

module _ (app : App) where
  deep_steps : (n : ℕ) (ms : MScope) (e : Expr) (st : State) → Steps st (bind_deep n app ms e st).state [] []
  deep_steps zero ms e st = one_row (constant_form undefined) st
  deep_steps (suc n) ms e st = expr_steps app (bind_deep n app (own ms)) ms (λ g st'. deep_steps n (own ms) g st') e st

  bound_steps : (ms : MScope) (e : Expr) (st : State) → Steps st (bind_expr app ms e st).state [] []
  bound_steps ms e st = deep_steps (suc (getters_in app ms)) ms e st

  pub exprs_steps : (ms : MScope) (es : Exprs) (st : State) → Steps st (bind_exprs app ms es st).state [] []
  exprs_steps ms es st = all_steps app (bind_deep (getters_in app ms) app (own ms)) ms (λ g st'. deep_steps (getters_in app ms) (own ms) g st') es st

  pairs_steps : (ms : MScope) (ns : NamedExprs) (st : State) → Steps st (bind_pairs app ms ns st).state [] []
  pairs_steps ms ns st = named_steps app (bind_deep (getters_in app ms) app (own ms)) ms (λ g st'. deep_steps (getters_in app ms) (own ms) g st') ns st

  value_steps : (ms : MScope) (v : AttrValue) (st : State) → Steps st (bind_value app ms v st).state [] []
  value_steps ms (t.fixed z) st = one_row (constant_form (text z)) st
  value_steps ms (t.live e) st = bound_steps ms e st

  pub args_steps : (ms : MScope) (gs : List (Text × AttrValue)) (st : State) → Steps st (bind_args app ms gs st).state [] []
  args_steps ms [] st = no_steps st
  args_steps ms (g ∷ gs) st =
      let b = bind_value app ms g.1 st in let c = bind_args app ms gs b.state in then_steps st b.state c.state [] [] [] [] (value_steps ms g.1 st) (args_steps ms gs b.state)

  -- Tags

  part_steps : (ms : MScope) (p : Part) (st : State) → Steps st (bind_part app ms p st).state [] []
  part_steps ms (t.attribute n (t.fixed z)) st = no_steps st
  part_steps ms (t.attribute n (t.live e)) st = bound_steps ms e st
  part_steps ms (t.modifier n es ns) st =
      let b = bind_exprs app ms es st in let c = bind_pairs app ms ns b.state in then_steps st b.state c.state [] [] [] [] (exprs_steps ms es st) (pairs_steps ms ns b.state)
  part_steps ms t.spread st = no_steps st

  pub written_steps : (ws : List (Written MScope)) (st : State) → Steps st (bind_written app ws st).state [] []
  written_steps [] st = no_steps st
  written_steps (w ∷ ws) st =
      let b = bind_part app w.by w.part st in let c = bind_written app ws b.state in then_steps st b.state c.state [] [] [] [] (part_steps w.by w.part st) (written_steps ws b.state)

  -- the cells of an instance
  pub cells_steps : (τ : Store) (q : Path) (fs : List (Text × Plain)) (st : State) → Steps st (grow_cells app τ q fs st).state [] []
  cells_steps τ q [] st = no_steps st
  cells_steps τ q (f ∷ fs) st =
      let x = source_form (cell q f.0) (cell_value app τ q f.0) in
      let c = grow_cells app τ q fs (made_row x st) in
      then_steps st (made_row x st) c.state [] [] [] [] (one_row x st) (cells_steps τ q fs (made_row x st))

pub params_steps : (ns : List Text) (rs : List ℕ) (st : State) → Steps st (bind_params ns rs st).state [] []
params_steps [] rs st = no_steps st
params_steps (n ∷ ns) [] st =
    let st1 = made_row (constant_form undefined) st in let c = bind_params ns [] st1 in then_steps st st1 c.state [] [] [] [] (one_row (constant_form undefined) st) (params_steps ns [] st1)
params_steps (n ∷ ns) (r ∷ rs) st = params_steps ns rs st

-- Positions

-- a position over what was bound
pub place_steps : (st : State) (b : BoundAll) → Steps st b.state [] [] → Steps st (place b).state [] ((place b).spot.ref ∷ [])
place_steps st b h =
    let m = leaves_make a_ref (row (record { form = all_form b.ids; last = any_of (sources_of (place b).pairs) })) st b.state h.leaves in
    record {
      nodes = h.nodes;
      positions = ap (λ xs. xs ++ (place b).spot.ref ∷ []) (h.positions ∙ append-nil st.evaluated);
      leaves = record { more = m.more; rows = m.rows; touches = m.touches };
      late = (h.leaves.more, tt);
    }

given_steps : (g : Given) (st : State) → Steps st (given_ref g st).state [] []
given_steps (fixed_given z) st = one_row (constant_form (text z)) st
given_steps (live_given r) st = no_steps st

givens_steps : (gs : List (Text × Given)) (st : State) → Steps st (given_refs gs st).state [] []
givens_steps [] st = no_steps st
givens_steps (g ∷ gs) st =
    let b = given_ref g.1 st in let c = given_refs gs b.state in then_steps st b.state c.state [] [] [] [] (given_steps g.1 st) (givens_steps gs b.state)

attrs_steps : (ws : List (Text × Given)) (ns : List Text) (st : State) → let r = give_attrs ws ns st in Steps st r.state [] (attr_positions r.spots)
attrs_steps ws [] st = no_steps st
attrs_steps ws (n ∷ ns) st = by (some_waiting_live (taken_waiting n ws)) (attrs_steps ws ns) where
  by : (u : Bool) → ((st' : State) → let r = give_attrs ws ns st' in Steps st' r.state [] (attr_positions r.spots))
      → let taken = taken_waiting n ws in
      let a : AttrsGiven = if u
      then (let x = place (given_refs taken st) in let r = give_attrs ws ns x.state in record { attrs = (n, attribute_value x.pairs) ∷ r.attrs; spots = record { name = n; spot = x.spot } ∷ r.spots; state = r.state })
      else (let r = give_attrs ws ns st in record { attrs = (n, attribute_value (given_pairs taken)) ∷ r.attrs; spots = r.spots; state = r.state }) in
      Steps st a.state [] (attr_positions a.spots)
  by true rest =
      let b = given_refs (taken_waiting n ws) st in
      let x = place b in
      let r = give_attrs ws ns x.state in
      then_steps st x.state r.state [] [] (x.spot.ref ∷ []) (attr_positions r.spots) (place_steps st b (givens_steps (taken_waiting n ws) st)) (rest x.state)
  by false rest = rest st

pub flush_steps : (ps : List Waiting) (st : State) → let r = flush_parts ps st in Steps st r.state [] (attr_positions r.spots)
flush_steps ps st = attrs_steps (attributes_waiting ps) (names_waiting (attributes_waiting ps)) st

-- the row of a modifier that is installed
abbrev waiting_row : ℕ → ℕ → WaitingModifier → List Pair → Installed
waiting_row n i w ps =
    let vs = values_in ps in
    record { on_node = n; place = i; name = w.name; args = first_values (length w.ids) vs; names = named_with (map (λ y. y.0) w.names) (values_from (length w.ids) vs) }

mods_steps : (n i : ℕ) (ws : List WaitingModifier) (st : State) → let r = install_all n i ws st in Steps st r.state [] (mod_positions r.spots)
mods_steps n i [] st = no_steps st
mods_steps n i (w ∷ ws) st =
    let b : BoundAll = record { ids = w.ids ++ map (λ y. y.1) w.names; made = []; state = st } in
    let x = install n i w (place b) in
    let r = install_all n (suc i) ws x.1 in
    let h = place_steps st b (no_steps st) in
    let m = leaves_make a_modifier (modifier_row (waiting_row n i w (place b).pairs)) st (place b).state h.leaves in
    then_steps st x.1 r.state [] [] (x.0.spot.ref ∷ []) (mod_positions r.spots)
    (record { nodes = h.nodes; positions = h.positions; leaves = record { more = m.more; rows = m.rows; touches = m.touches }; late = h.late }) (mods_steps n (suc i) ws x.1)

pub install_steps : (n i : ℕ) (ps : List Waiting) (st : State) → let r = install_parts n i ps st in Steps st r.state [] (mod_positions r.spots)
install_steps n i ps st = mods_steps n i (modifiers_waiting ps) st
