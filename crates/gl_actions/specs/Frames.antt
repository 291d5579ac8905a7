-- What the steps of an action see of their instance, and what an expression gives there.
use Rattle.std.specs.Prelude.{◌≡◌, ℕ, List, [], map}
use Rattle.gl_base.specs.Texts.{Text}
use Rattle.gl_value.specs.Value.{Value}
use Rattle.gl_ast.specs.Template.{Expr, Exprs, NamedExprs}
use Rattle.gl_meaning.specs.Path.{Path, V}
use Rattle.gl_meaning.specs.Scope.{Pair, NamedPairs, Scope, scope, nothing_passed}
use Rattle.gl_meaning.specs.Eval.{field_member, member_of, cell_value, member_pair, eval_in, eval_all_in, eval_named_in, eval_deep}
use Rattle.gl_meaning.specs.Order.{names_of}
use Rattle.gl_meaning.specs.View.{class_view, path_view}
use Rattle.gl_plain.specs.State.{Names, Inst, cell_ref}
use Rattle.gl_vm.specs.View.{name_stamps}
use Rattle.gl_vm.specs.declared.vm.Vm.{Vm}
use Rattle.gl_code.specs.View.{seen_owner}
use Rattle.gl_actions.specs.World.{World, app_in, tables_in, owner_in, read_in, class_in, arguments_in, store_in, params_in}
use Rattle.gl_actions.specs.declared.frame.Frame.{Frame}
use Rattle.gl_actions.specs.declared.frame.Here.{Here}

-- names with what their references give
abbrev pub names_read : World → Vm → Names → List (Text × V)
names_read w vm ns = map (λ n. (n.0, read_in w vm n.1)) ns

-- names with their values
abbrev pub pair_values : NamedPairs → List (Text × V)
pair_values ns = map (λ n. (n.0, n.1.value)) ns

-- The machine has what the meaning has of an instance: its path; in its cells what the store holds for its fields; and its arguments as
-- they stand in the rendering.
pub record InstanceRead (w : World) (vm : Vm) (i : Inst) (args : Names) : Type 0 where
  pub owner : owner_in w i.id ≡ i.path
  pub cells : (x : Text) → member_of (class_in w i.path) x ≡ field_member → read_in w vm (cell_ref i x) ≡ cell_value (app_in w) w.store i.path x
  pub arguments : names_read w vm args ≡ pair_values (arguments_in w i.path)

abbrev pub inst_in : World → Frame → Inst
inst_in w f = seen_owner (tables_in w) f.owner.now

-- the path of the instance
abbrev pub this_in : Frame → Path
this_in f = path_view f.owner.now.path

-- What is seen is an instance that the machine has so, with the members of its class.
pub record Fits (w : World) (f : Frame) : Type 0 where
  pub instance : InstanceRead w f.vm.now (inst_in w f) (name_stamps f.args.now)
  pub number : f.number ≡ f.owner.now.id.1
  pub names : (tables_in w).fields f.owner.now.class ≡ names_of (class_view f.numbered.now).fields
  pub fields : (class_in w (this_in f)).fields ≡ (class_view f.class.now).fields
  pub getters : (class_in w (this_in f)).getters ≡ (class_view f.class.now).getters
  pub actions : (class_in w (this_in f)).actions ≡ (class_view f.class.now).actions

abbrev pub IsField : World → Frame → Text → Type 0
IsField w f x = member_of (class_in w (this_in f)) x ≡ field_member

-- the scope of the steps
abbrev pub scope_in : World → Frame → List (Text × Value ℕ) → Scope
scope_in w f ps = scope (this_in f) (arguments_in w (this_in f)) (params_in w ps) nothing_passed

-- What is given there, where getters nest so deep.
module _ (w : World) (h : Here) (n : ℕ) where
  abbrev pub getter_in : Expr → Pair
  getter_in e = eval_deep n (app_in w) (store_in w h.sets.now) (scope_in w h.frame []) e

  abbrev pub pair_in : Expr → Pair
  pair_in e = eval_in (app_in w) (store_in w h.sets.now) getter_in (scope_in w h.frame h.params.now) e

  abbrev pub pairs_in : Exprs → List Pair
  pairs_in es = eval_all_in (app_in w) (store_in w h.sets.now) getter_in (scope_in w h.frame h.params.now) es

  abbrev pub named_in : NamedExprs → NamedPairs
  named_in ns = eval_named_in (app_in w) (store_in w h.sets.now) getter_in (scope_in w h.frame h.params.now) ns

  -- a member of `this`
  abbrev pub member_in : Text → Pair
  member_in x = member_pair (app_in w) (store_in w h.sets.now) getter_in (scope_in w h.frame h.params.now) x (member_of (class_in w (this_in h.frame)) x)
