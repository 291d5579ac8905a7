-- How expressions become references.
use Rattle.std.specs.Prelude.{ℕ, zero, suc, List, [], ◌∷◌, ◌++◌, map, length, Option, Some, None}
use Rattle.gl_base.specs.Texts.{Text}
use Rattle.gl_base.specs.Names.{last_named, at_place}
use Rattle.gl_value.specs.Value.{undefined, text, action, no_values, plain}
use Rattle.gl_ast.specs.Template.{Expr, literal, this, argument, bare, call, cat, Exprs, no_exprs, expr, NamedExprs, no_named, named_expr, AttrValue, fixed, live}
use Rattle.gl_meaning.specs.App.{App}
use Rattle.gl_meaning.specs.Path.{V}
use Rattle.gl_meaning.specs.Scope.{Pair, absent, sources_of}
use Rattle.gl_meaning.specs.Eval.{class_at, Member, field_member, getter_member, action_member, member_of}
use Rattle.gl_plain.specs.Ids.{a_ref, Id, ref}
use Rattle.gl_plain.specs.State.{any_of, Form, constant_form, property_form, call_form, joined_form, all_form, Names, MScope, inst_of, args_of, locals_in, own, cell_ref, row, State, pair_of, make, note_evaluated}
use Rattle.gl_plain.specs.Naming.{Naming, by_path}

-- a reference, with those that were made for it
pub record Bound : Type 0 where
  pub id : ℕ
  pub made : List Id
  pub state : State

pub record BoundAll : Type 0 where
  pub ids : List ℕ
  pub made : List Id
  pub state : State

pub record BoundNames : Type 0 where
  pub names : Names
  pub made : List Id
  pub state : State

abbrev pub made_row : Form → State → State
made_row x st = make a_ref (row (record { form = x; last = any_of [] })) st

-- a reference that is there
abbrev pub old_ref : ℕ → State → Bound
old_ref r st = record { id = r; made = []; state = st }

-- a new one, which reads none of its own
abbrev pub new_ref : Form → State → Bound
new_ref x st = record { id = st.next a_ref; made = ref (st.next a_ref) ∷ []; state = made_row x st }

-- a new one after others were made
abbrev pub after_made : List Id → Form → State → Bound
after_made made x st = record { id = st.next a_ref; made = made ++ ref (st.next a_ref) ∷ []; state = made_row x st }

abbrev pub bind_along : List Text → Bound → Bound
bind_along [] b = b
bind_along (k ∷ ks) b = bind_along ks (after_made b.made (property_form b.id k) b.state)

abbrev pub bind_found : Option ℕ → State → Bound
bind_found (Some r) st = old_ref r st
bind_found None st = new_ref (constant_form undefined) st

abbrev pub bind_bare : Text → List Text → Option ℕ → State → Bound
bind_bare n ks (Some r) st = bind_along ks (old_ref r st)
bind_bare n ks None st = new_ref (call_form n [] []) st

abbrev pub getters_in : App → MScope → ℕ
getters_in app ms = length (class_at app (inst_of ms).path).getters

module _ (naming : Naming) where
  -- In one scope, given how a getter's expression is bound.
  module _ (app : App) (getter : Expr → State → Bound) (ms : MScope) where
    abbrev pub bind_member_as : Text → Member → State → Bound
    bind_member_as x field_member st = old_ref (cell_ref (inst_of ms) x) st
    bind_member_as x (getter_member e) st = getter e st
    bind_member_as x action_member st = new_ref (constant_form (action (naming.owner (inst_of ms)) x no_values)) st

    abbrev mutual
      pub bind_in_as : Expr → State → Bound
      bind_in_as (literal v) st = new_ref (constant_form (plain v)) st
      bind_in_as (this x ks) st = bind_along ks (bind_member_as x (member_of (class_at app (inst_of ms).path) x) st)
      bind_in_as (argument n ks) st = bind_along ks (bind_found (last_named n (args_of ms)) st)
      bind_in_as (bare n ks) st = bind_bare n ks (last_named n (locals_in ms)) st
      bind_in_as (call n es ns) st =
          let b = bind_all_in_as es st in let c = bind_named_in_as ns b.state in
          after_made (b.made ++ c.made) (call_form n b.ids c.names) c.state
      bind_in_as (cat es) st = let b = bind_all_in_as es st in after_made b.made (joined_form b.ids) b.state

      pub bind_all_in_as : Exprs → State → BoundAll
      bind_all_in_as no_exprs st = record { ids = []; made = []; state = st }
      bind_all_in_as (expr e es) st =
          let b = bind_in_as e st in let c = bind_all_in_as es b.state in record { ids = b.id ∷ c.ids; made = b.made ++ c.made; state = c.state }

      pub bind_named_in_as : NamedExprs → State → BoundNames
      bind_named_in_as no_named st = record { names = []; made = []; state = st }
      bind_named_in_as (named_expr n e ns) st =
          let b = bind_in_as e st in let c = bind_named_in_as ns b.state in record { names = (n, b.id) ∷ c.names; made = b.made ++ c.made; state = c.state }

  abbrev pub bind_deep_as : ℕ → App → MScope → Expr → State → Bound
  bind_deep_as zero app ms e st = new_ref (constant_form undefined) st
  bind_deep_as (suc n) app ms e st = bind_in_as app (bind_deep_as n app (own ms)) ms e st

  abbrev pub bind_expr_as : App → MScope → Expr → State → Bound
  bind_expr_as app ms e st = bind_deep_as (suc (getters_in app ms)) app ms e st

  abbrev pub bind_exprs_as : App → MScope → Exprs → State → BoundAll
  bind_exprs_as app ms es st = bind_all_in_as app (bind_deep_as (getters_in app ms) app (own ms)) ms es st

  abbrev pub bind_pairs_as : App → MScope → NamedExprs → State → BoundNames
  bind_pairs_as app ms ns st = bind_named_in_as app (bind_deep_as (getters_in app ms) app (own ms)) ms ns st

  -- what an attribute or an argument is given
  abbrev pub bind_value_as : App → MScope → AttrValue → State → Bound
  bind_value_as app ms (fixed t) st = new_ref (constant_form (text t)) st
  bind_value_as app ms (live e) st = bind_expr_as app ms e st

  abbrev pub bind_args_as : App → MScope → List (Text × AttrValue) → State → BoundNames
  bind_args_as app ms [] st = record { names = []; made = []; state = st }
  bind_args_as app ms (g ∷ gs) st =
      let b = bind_value_as app ms g.1 st in let c = bind_args_as app ms gs b.state in record { names = (g.0, b.id) ∷ c.names; made = b.made ++ c.made; state = c.state }

-- By paths.

abbrev pub bind_member : App → (Expr → State → Bound) → MScope → Text → Member → State → Bound
bind_member = bind_member_as by_path

abbrev pub bind_in : App → (Expr → State → Bound) → MScope → Expr → State → Bound
bind_in = bind_in_as by_path

abbrev pub bind_all_in : App → (Expr → State → Bound) → MScope → Exprs → State → BoundAll
bind_all_in = bind_all_in_as by_path

abbrev pub bind_named_in : App → (Expr → State → Bound) → MScope → NamedExprs → State → BoundNames
bind_named_in = bind_named_in_as by_path

abbrev pub bind_deep : ℕ → App → MScope → Expr → State → Bound
bind_deep = bind_deep_as by_path

abbrev pub bind_expr : App → MScope → Expr → State → Bound
bind_expr = bind_expr_as by_path

abbrev pub bind_exprs : App → MScope → Exprs → State → BoundAll
bind_exprs = bind_exprs_as by_path

abbrev pub bind_pairs : App → MScope → NamedExprs → State → BoundNames
bind_pairs = bind_pairs_as by_path

abbrev pub bind_value : App → MScope → AttrValue → State → Bound
bind_value = bind_value_as by_path

abbrev pub bind_args : App → MScope → List (Text × AttrValue) → State → BoundNames
bind_args = bind_args_as by_path

-- Parameters with the references given. One without has a reference of its own, which is undefined.
abbrev pub bind_params : List Text → List ℕ → State → BoundNames
bind_params [] rs st = record { names = []; made = []; state = st }
bind_params (n ∷ ns) [] st =
    let b = new_ref (constant_form undefined) st in let c = bind_params ns [] b.state in record { names = (n, b.id) ∷ c.names; made = b.made ++ c.made; state = c.state }
bind_params (n ∷ ns) (r ∷ rs) st = let c = bind_params ns rs st in record { names = (n, r) ∷ c.names; made = c.made; state = c.state }

-- Positions

-- a position's reference, and all that were made for it, itself last
pub record Spot : Type 0 where
  pub ref : ℕ
  pub made : List Id

pub record Placed : Type 0 where
  pub spot : Spot
  pub pairs : List Pair
  pub state : State

-- The position over some references, evaluated for the first time.
abbrev pub place : BoundAll → Placed
place b =
    let r = b.state.next a_ref in let ps = map (pair_of b.state.look) b.ids in
    record {
      spot = record { ref = r; made = b.made ++ ref r ∷ [] };
      pairs = ps;
      state = note_evaluated r (make a_ref (row (record { form = all_form b.ids; last = any_of (sources_of ps) })) b.state);
    }

abbrev pub first_value : List Pair → V
first_value ps = (at_place absent 0 ps).value
