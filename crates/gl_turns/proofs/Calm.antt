-- Binding installs and updates no modifier.
use Rattle.std.proofs.Common.{◌≡◌, ℕ, zero, suc, List, [], ◌∷◌, Bool, true, false, Option, Some, None, refl, ◌∙◌}
use Rattle.std.specs.Prelude.{if◌then◌else◌}
use Rattle.gl_base.specs.Texts.{Text}
use Rattle.gl_base.specs.Names.{last_named}
use Rattle.gl_value.specs.Value.{undefined, text, action, no_values, plain}
use Rattle.gl_ast.specs.Template.{Expr, Exprs, NamedExprs, AttrValue, Part, Plain}
use Rattle.gl_ast.specs.Template as t
use Rattle.gl_meaning.specs.App.{App}
use Rattle.gl_meaning.specs.Path.{Path}
use Rattle.gl_meaning.specs.Scope.{cell}
use Rattle.gl_meaning.specs.Eval.{Store, class_at, cell_value, Member, field_member, getter_member, action_member, member_of}
use Rattle.gl_meaning.specs.Parts.{Written}
use Rattle.gl_plain.specs.Ids.{a_modifier}
use Rattle.gl_plain.specs.State.{Form, constant_form, source_form, property_form, call_form, joined_form, MScope, inst_of, args_of, locals_in, own, State}
use Rattle.gl_plain.specs.Binding.{Bound, BoundAll, made_row, old_ref, after_made, bind_along, bind_found, bind_bare, bind_member, bind_in, bind_all_in, bind_named_in, bind_deep, getters_in, bind_expr, bind_exprs, bind_pairs, bind_value, bind_args, bind_params, place}
use Rattle.gl_plain.specs.Tags.{bind_part, bind_written, Given, fixed_given, live_given, taken_waiting, some_waiting_live, given_ref, given_refs, given_pairs, AttrsGiven, give_attrs, flush_parts, attributes_waiting, names_waiting, Waiting}
use Rattle.gl_meaning.specs.Parts.{attribute_value}
use Rattle.gl_plain.specs.Grow.{grow_cells}

pub record Calm (st st' : State) : Type 0 where
  pub installs : st'.installs ≡ st.installs
  pub updates : st'.updates ≡ st.updates
  pub modifiers : st'.next a_modifier ≡ st.next a_modifier

pub calm_all : (st : State) → Calm st st
calm_all st = record { installs = refl; updates = refl; modifiers = refl }

pub then_calm : (st st1 st2 : State) → Calm st st1 → Calm st1 st2 → Calm st st2
then_calm st st1 st2 h g = record { installs = g.installs ∙ h.installs; updates = g.updates ∙ h.updates; modifiers = g.modifiers ∙ h.modifiers }

row_calm : (x : Form) (st st' : State) → Calm st st' → Calm st (made_row x st')
row_calm x st st' h = record { installs = h.installs; updates = h.updates; modifiers = h.modifiers }

pub one_row : (x : Form) (st : State) → Calm st (made_row x st)
one_row x st = row_calm x st st (calm_all st)

-- Expressions

along_calm : (ks : List Text) (st : State) (b : Bound) → Calm st b.state → Calm st (bind_along ks b).state
along_calm [] st b h = h
along_calm (k ∷ ks) st b h = along_calm ks st (after_made b.made (property_form b.id k) b.state) (row_calm (property_form b.id k) st b.state h)

found_calm : (o : Option ℕ) (st : State) → Calm st (bind_found o st).state
found_calm (Some r) st = calm_all st
found_calm None st = one_row (constant_form undefined) st

bare_calm : (n : Text) (ks : List Text) (o : Option ℕ) (st : State) → Calm st (bind_bare n ks o st).state
bare_calm n ks (Some r) st = along_calm ks st (old_ref r st) (calm_all st)
bare_calm n ks None st = one_row (call_form n [] []) st

module _ (app : App) (getter : Expr → State → Bound) (ms : MScope) (getter_calm : (e : Expr) (st : State) → Calm st (getter e st).state) where
  member_calm : (x : Text) (m : Member) (st : State) → Calm st (bind_member app getter ms x m st).state
  member_calm x field_member st = calm_all st
  member_calm x (getter_member g) st = getter_calm g st
  member_calm x action_member st = one_row (constant_form (action (inst_of ms).path x no_values)) st

  mutual
    expr_calm : (e : Expr) (st : State) → Calm st (bind_in app getter ms e st).state
    expr_calm (t.literal v) st = one_row (constant_form (plain v)) st
    expr_calm (t.this x ks) st =
        let m = member_of (class_at app (inst_of ms).path) x in along_calm ks st (bind_member app getter ms x m st) (member_calm x m st)
    expr_calm (t.argument n ks) st = along_calm ks st (bind_found (last_named n (args_of ms)) st) (found_calm (last_named n (args_of ms)) st)
    expr_calm (t.bare n ks) st = bare_calm n ks (last_named n (locals_in ms)) st
    expr_calm (t.call n es ns) st =
        let b = bind_all_in app getter ms es st in
        let c = bind_named_in app getter ms ns b.state in
        row_calm (call_form n b.ids c.names) st c.state (then_calm st b.state c.state (all_calm es st) (named_calm ns b.state))
    expr_calm (t.cat es) st = let b = bind_all_in app getter ms es st in row_calm (joined_form b.ids) st b.state (all_calm es st)

    all_calm : (es : Exprs) (st : State) → Calm st (bind_all_in app getter ms es st).state
    all_calm t.no_exprs st = calm_all st
    all_calm (t.expr e es) st =
        let b = bind_in app getter ms e st in let c = bind_all_in app getter ms es b.state in then_calm st b.state c.state (expr_calm e st) (all_calm es b.state)

    named_calm : (ns : NamedExprs) (st : State) → Calm st (bind_named_in app getter ms ns st).state
    named_calm t.no_named st = calm_all st
    named_calm (t.named_expr n e ns) st =
        let b = bind_in app getter ms e st in let c = bind_named_in app getter ms ns b.state in then_calm st b.state c.state (expr_calm e st) (named_calm ns b.state)

module _ (app : App) where
  deep_calm : (n : ℕ) (ms : MScope) (e : Expr) (st : State) → Calm st (bind_deep n app ms e st).state
  deep_calm zero ms e st = one_row (constant_form undefined) st
  deep_calm (suc n) ms e st = expr_calm app (bind_deep n app (own ms)) ms (λ g st'. deep_calm n (own ms) g st') e st

  bound_calm : (ms : MScope) (e : Expr) (st : State) → Calm st (bind_expr app ms e st).state
  bound_calm ms e st = deep_calm (suc (getters_in app ms)) ms e st

  pub exprs_calm : (ms : MScope) (es : Exprs) (st : State) → Calm st (bind_exprs app ms es st).state
  exprs_calm ms es st = all_calm app (bind_deep (getters_in app ms) app (own ms)) ms (λ g st'. deep_calm (getters_in app ms) (own ms) g st') es st

  pairs_calm : (ms : MScope) (ns : NamedExprs) (st : State) → Calm st (bind_pairs app ms ns st).state
  pairs_calm ms ns st = named_calm app (bind_deep (getters_in app ms) app (own ms)) ms (λ g st'. deep_calm (getters_in app ms) (own ms) g st') ns st

  value_calm : (ms : MScope) (v : AttrValue) (st : State) → Calm st (bind_value app ms v st).state
  value_calm ms (t.fixed z) st = one_row (constant_form (text z)) st
  value_calm ms (t.live e) st = bound_calm ms e st

  pub args_calm : (ms : MScope) (gs : List (Text × AttrValue)) (st : State) → Calm st (bind_args app ms gs st).state
  args_calm ms [] st = calm_all st
  args_calm ms (g ∷ gs) st =
      let b = bind_value app ms g.1 st in let c = bind_args app ms gs b.state in then_calm st b.state c.state (value_calm ms g.1 st) (args_calm ms gs b.state)

  -- Tags

  part_calm : (ms : MScope) (p : Part) (st : State) → Calm st (bind_part app ms p st).state
  part_calm ms (t.attribute n (t.fixed z)) st = calm_all st
  part_calm ms (t.attribute n (t.live e)) st = bound_calm ms e st
  part_calm ms (t.modifier n es ns) st =
      let b = bind_exprs app ms es st in let c = bind_pairs app ms ns b.state in then_calm st b.state c.state (exprs_calm ms es st) (pairs_calm ms ns b.state)
  part_calm ms t.spread st = calm_all st

  pub written_calm : (ws : List (Written MScope)) (st : State) → Calm st (bind_written app ws st).state
  written_calm [] st = calm_all st
  written_calm (w ∷ ws) st =
      let b = bind_part app w.by w.part st in let c = bind_written app ws b.state in then_calm st b.state c.state (part_calm w.by w.part st) (written_calm ws b.state)

  -- the cells of an instance
  pub cells_calm : (τ : Store) (q : Path) (fs : List (Text × Plain)) (st : State) → Calm st (grow_cells app τ q fs st).state
  cells_calm τ q [] st = calm_all st
  cells_calm τ q (f ∷ fs) st =
      let x = source_form (cell q f.0) (cell_value app τ q f.0) in
      let c = grow_cells app τ q fs (made_row x st) in
      then_calm st (made_row x st) c.state (one_row x st) (cells_calm τ q fs (made_row x st))

pub params_calm : (ns : List Text) (rs : List ℕ) (st : State) → Calm st (bind_params ns rs st).state
params_calm [] rs st = calm_all st
params_calm (n ∷ ns) [] st =
    let st1 = made_row (constant_form undefined) st in let c = bind_params ns [] st1 in then_calm st st1 c.state (one_row (constant_form undefined) st) (params_calm ns [] st1)
params_calm (n ∷ ns) (r ∷ rs) st = params_calm ns rs st

-- Positions

-- a position over what was bound
pub place_calm : (st : State) (b : BoundAll) → Calm st b.state → Calm st (place b).state
place_calm st b h = record { installs = h.installs; updates = h.updates; modifiers = h.modifiers }

given_calm : (g : Given) (st : State) → Calm st (given_ref g st).state
given_calm (fixed_given z) st = one_row (constant_form (text z)) st
given_calm (live_given r) st = calm_all st

givens_calm : (gs : List (Text × Given)) (st : State) → Calm st (given_refs gs st).state
givens_calm [] st = calm_all st
givens_calm (g ∷ gs) st =
    let b = given_ref g.1 st in let c = given_refs gs b.state in then_calm st b.state c.state (given_calm g.1 st) (givens_calm gs b.state)

attrs_calm : (ws : List (Text × Given)) (ns : List Text) (st : State) → let r = give_attrs ws ns st in Calm st r.state
attrs_calm ws [] st = calm_all st
attrs_calm ws (n ∷ ns) st = by (some_waiting_live (taken_waiting n ws)) (attrs_calm ws ns) where
  by : (u : Bool) → ((st' : State) → let r = give_attrs ws ns st' in Calm st' r.state)
      → let taken = taken_waiting n ws in
      let a : AttrsGiven = if u
      then (let x = place (given_refs taken st) in let r = give_attrs ws ns x.state in record { attrs = (n, attribute_value x.pairs) ∷ r.attrs; spots = record { name = n; spot = x.spot } ∷ r.spots; state = r.state })
      else (let r = give_attrs ws ns st in record { attrs = (n, attribute_value (given_pairs taken)) ∷ r.attrs; spots = r.spots; state = r.state }) in
      Calm st a.state
  by true rest =
      let b = given_refs (taken_waiting n ws) st in
      let x = place b in
      let r = give_attrs ws ns x.state in
      then_calm st x.state r.state (place_calm st b (givens_calm (taken_waiting n ws) st)) (rest x.state)
  by false rest = rest st

pub flush_calm : (ps : List Waiting) (st : State) → let r = flush_parts ps st in Calm st r.state
flush_calm ps st = attrs_calm (attributes_waiting ps) (names_waiting (attributes_waiting ps)) st
