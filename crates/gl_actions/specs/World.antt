-- The rendering over which actions run, and the names that it has for what is numbered.
use Rattle.std.specs.Prelude.{◌≡◌, ℕ, List, [], map, Bool, unwrap_or}
use Rattle.gl_base.specs.Texts.{Text}
use Rattle.gl_base.specs.Names.{at_place}
use Rattle.gl_value.specs.Value.{Value}
use Rattle.gl_value.specs.Owners.{with_owners}
use Rattle.gl_ast.specs.Template.{Body}
use Rattle.gl_meaning.specs.App.{Class, App}
use Rattle.gl_meaning.specs.Path.{Path, V, at_path}
use Rattle.gl_meaning.specs.Scope.{Source, of_value, NamedPairs, arguments_of}
use Rattle.gl_meaning.specs.Eval.{Held, Store, class_at}
use Rattle.gl_meaning.specs.Render.{Forest}
use Rattle.gl_meaning.specs.Changes.{scopes, Sets}
use Rattle.gl_meaning.specs.Actions.{no_scope, lay}
use Rattle.gl_meaning.specs.Manifest.{Manifest, app_of}
use Rattle.gl_meaning.specs.Order.{names_of}
use Rattle.gl_plain.specs.State.{pair_of}
use Rattle.gl_vm.specs.Labels.{owner_path}
use Rattle.gl_vm.specs.View.{Tables, state_of}
use Rattle.gl_vm.specs.declared.vm.Vm.{Vm}
use Rattle.gl_code.specs.Tables.{tables_of}
use Rattle.gl_actions.specs.Sets as s

-- The app, with a template for each class; the path of each owner, which no two owners have in common; the cells as they were when the
-- turn began, and what was rendered over them.
pub record World : Type 0 where
  pub manifest : Manifest
  pub templates : List Body
  pub names : Path → Path
  pub once : (o p : Path) → names o ≡ names p → o ≡ p
  pub touched : Source → Bool
  pub store : Store
  pub forest : Forest

abbrev pub app_in : World → App
app_in w = app_of w.manifest w.templates

abbrev pub tables_in : World → Tables
tables_in w = tables_of w.manifest

-- the path of the instance with a number
abbrev pub owner_in : World → ℕ → Path
owner_in w k = w.names (owner_path k)

-- a value, with its owners by their paths
abbrev pub value_in : World → Value ℕ → V
value_in w v = with_owners (owner_in w) v

-- what the reference with a number gives
abbrev pub read_in : World → Vm → ℕ → V
read_in w vm r = with_owners w.names (pair_of (state_of (tables_in w) vm w.touched).look r).value

abbrev pub class_in : World → Path → Class
class_in w p = class_at (app_in w) p

-- the arguments of the instance at a path, as they stand in the rendering
abbrev pub arguments_in : World → Path → NamedPairs
arguments_in w p = arguments_of (unwrap_or (at_path p (scopes w.forest)) no_scope)

-- the field of an instance at a place of its class
abbrev pub field_in : World → Path → ℕ → Text
field_in w p k = at_place [] k (names_of (class_in w p).fields)

abbrev pub set_in : World → s.Set → Held
set_in w x = record { instance = owner_in w x.owner.1; field = field_in w (owner_in w x.owner.1) x.field; value = value_in w x.to }

abbrev pub sets_in : World → List s.Set → Sets
sets_in w xs = map (set_in w) xs

-- the cells with these sets laid on
abbrev pub store_in : World → List s.Set → Store
store_in w xs = lay (sets_in w xs) w.store

-- parameters with their values
abbrev pub params_in : World → List (Text × Value ℕ) → NamedPairs
params_in w ps = map (λ p. (p.0, of_value (value_in w p.1))) ps
