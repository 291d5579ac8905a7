-- The value of an expression, with the sources that are read for it.
--
-- This is computed eagerly, over the classes and the cells alone. Nothing is kept from one evaluation to the next.
use Rattle.std.specs.Prelude.{ℕ, zero, suc, List, [], ◌∷◌, ◌++◌, map, length, Bool, true, false, ◌&&◌, not, if◌then◌else◌, Option, Some, None, unwrap_or}
use Rattle.std.specs.Str.{bytes_eq}
use Rattle.gl_base.specs.Texts.{Text}
use Rattle.gl_base.specs.Names.{named, last_named, at_place}
use Rattle.gl_value.specs.Value.{undefined, text, action, no_values, truthy, join_values, properties, plain}
use Rattle.gl_value.specs.Helpers.{Helper, if_helper, unless_helper, helper_table, helper_value}
use Rattle.gl_ast.specs.Template.{Expr, literal, this, argument, bare, call, cat, Exprs, no_exprs, expr, NamedExprs, no_named, named_expr, AttrValue, fixed, live, end}
use Rattle.gl_meaning.specs.App.{Class, App}
use Rattle.gl_meaning.specs.Path.{Path, into, V, path_eq}
use Rattle.gl_meaning.specs.Scope.{cell, Pair, absent, of_value, sources_of, NamedPairs, Scope, this_of, arguments_of, locals_of, own_scope}

-- Classes and cells

abbrev pub no_class : Class
no_class = record { name = []; file = []; fields = []; getters = []; actions = []; teardown = false; template = end }

abbrev pub class_named : Text → List Class → Class
class_named n [] = no_class
class_named n (c ∷ cs) = if bytes_eq n c.name then c else class_named n cs

-- The class of the instance at a path: the path names it, but for the root's.
abbrev pub class_at : App → Path → Class
class_at app [] = class_named app.root app.classes
class_at app (into c ∷ p) = class_named c app.classes
class_at app (s ∷ p) = no_class

-- a field of an instance, with what it holds
pub record Held : Type 0 where
  pub instance : Path
  pub field : Text
  pub value : V

-- The cells that are held, the one that was set last first: the first that fits counts.
abbrev pub Store : Type 0
Store = List Held

abbrev pub held_at : Path → Text → Store → Option V
held_at t f [] = None
held_at t f (h ∷ hs) = if path_eq t h.instance && bytes_eq f h.field then Some h.value else held_at t f hs

-- What a field of an instance holds: what the store has for it, or else the initial value.
abbrev pub cell_value : App → Store → Path → Text → V
cell_value app store t f = unwrap_or (held_at t f store) (plain (unwrap_or (named f (class_at app t).fields) undefined))

-- Members

-- What `this.x` is in a class. A name that is neither a field nor a getter is an action, since the names of an app are known.
pub data Member : Type 0 where
  field_member : Member
  getter_member : Expr → Member
  action_member : Member

abbrev pub getter_or_action : Option Expr → Member
getter_or_action (Some e) = getter_member e
getter_or_action None = action_member

abbrev pub field_or : {A : Type 0} → Option A → Member → Member
field_or (Some v) m = field_member
field_or None m = m

abbrev pub member_of : Class → Text → Member
member_of c x = field_or (named x c.fields) (getter_or_action (named x c.getters))

-- Pairs made of Pairs

abbrev pub values_in : List Pair → List V
values_in ps = map (λ p. p.value) ps

-- The names after the first: properties of the value, with the sources of the value.
abbrev pub with_properties : List Text → Pair → Pair
with_properties ks p = record { value = properties ks p.value; sources = p.sources }

-- whether the first branch is taken: of `if` where the condition is true, of `unless` where it is false
abbrev pub takes_first : Bool → V → Bool
takes_first unless v = if unless then not (truthy v) else truthy v

-- a value that was read after another was
abbrev pub after_reading : Pair → Pair → Pair
after_reading c p = record { value = p.value; sources = c.sources ++ p.sources }

-- `if` and `unless` read the condition and the branch that is taken.
abbrev pub branch_pair : Bool → Pair → Pair → Pair → Pair
branch_pair unless c p q = after_reading c (if takes_first unless c.value then p else q)

-- Every other helper reads all its arguments, named ones too.
abbrev pub all_pair : Helper → List Pair → NamedPairs → Pair
all_pair h ps ns = record {
  value = helper_value path_eq (values_in ps) (map (λ n. (n.0, n.1.value)) ns) h;
  sources = sources_of ps ++ sources_of (map (λ n. n.1) ns);
}

-- the helpers that take a branch, each with whether it is `unless`
abbrev pub branch_of : Helper → Option Bool
branch_of if_helper = Some false
branch_of unless_helper = Some true
branch_of _ = None

abbrev pub pair_read : Option Bool → Helper → List Pair → NamedPairs → Pair
pair_read (Some unless) h ps ns = branch_pair unless (at_place absent 0 ps) (at_place absent 1 ps) (at_place absent 2 ps)
pair_read None h ps ns = all_pair h ps ns

-- A name that is no helper's gives nothing; the names of an app are known.
abbrev pub helper_pair : Option Helper → List Pair → NamedPairs → Pair
helper_pair None ps ns = absent
helper_pair (Some h) ps ns = pair_read (branch_of h) h ps ns

-- A call of a helper by its name.
abbrev pub call_pair : Text → List Pair → NamedPairs → Pair
call_pair n ps ns = helper_pair (named n helper_table) ps ns

-- A bare name: the block parameter of that name, or else the helper of that name without arguments.
abbrev pub bare_pair : Text → List Text → Option Pair → Pair
bare_pair n ks (Some p) = with_properties ks p
bare_pair n ks None = call_pair n [] []

-- Texts and mustaches in one quoted value: the parts joined, with the sources of all.
abbrev pub cat_pair : List Pair → Pair
cat_pair ps = record { value = join_values (values_in ps); sources = sources_of ps }

-- Expressions

-- In one scope, given what a getter's expression gives.
module _ (app : App) (store : Store) (getter : Expr → Pair) (s : Scope) where
  -- A field is its cell's value and reads the cell. An action is that action of this instance and reads nothing.
  abbrev pub member_pair : Text → Member → Pair
  member_pair x field_member = record { value = cell_value app store (this_of s) x; sources = cell (this_of s) x ∷ [] }
  member_pair x (getter_member e) = getter e
  member_pair x action_member = of_value (action (this_of s) x no_values)

  -- A literal reads nothing. An argument is what was passed, the last of its name; a block parameter is the innermost of its name.
  abbrev mutual
    pub eval_in : Expr → Pair
    eval_in (literal v) = of_value (plain v)
    eval_in (this x ks) = with_properties ks (member_pair x (member_of (class_at app (this_of s)) x))
    eval_in (argument n ks) = with_properties ks (unwrap_or (last_named n (arguments_of s)) absent)
    eval_in (bare n ks) = bare_pair n ks (last_named n (locals_of s))
    eval_in (call n es ns) = call_pair n (eval_all_in es) (eval_named_in ns)
    eval_in (cat es) = cat_pair (eval_all_in es)

    pub eval_all_in : Exprs → List Pair
    eval_all_in no_exprs = []
    eval_all_in (expr e es) = eval_in e ∷ eval_all_in es

    pub eval_named_in : NamedExprs → NamedPairs
    eval_named_in no_named = []
    eval_named_in (named_expr n e ns) = (n, eval_in e) ∷ eval_named_in ns

-- A getter's expression is evaluated with the same `this` and the same arguments, without block parameters. Getters that a
-- getter mentions are evaluated so in turn, n of them one in the other.
abbrev pub eval_deep : ℕ → App → Store → Scope → Expr → Pair
eval_deep zero app store s e = absent
eval_deep (suc n) app store s e = eval_in app store (eval_deep n app store (own_scope s)) s e

-- Where no getter reaches itself, no chain of getters is longer than their number: so the end of the count is never reached.
-- `laws::getter_value` says what this comes to.
abbrev pub getters_count : App → Scope → ℕ
getters_count app s = length (class_at app (this_of s)).getters

abbrev pub eval : App → Store → Scope → Expr → Pair
eval app store s e = eval_deep (suc (getters_count app s)) app store s e

abbrev pub eval_all : App → Store → Scope → Exprs → List Pair
eval_all app store s es = eval_all_in app store (eval_deep (getters_count app s) app store (own_scope s)) s es

abbrev pub eval_named : App → Store → Scope → NamedExprs → NamedPairs
eval_named app store s ns = eval_named_in app store (eval_deep (getters_count app s) app store (own_scope s)) s ns

-- what an attribute or an argument is given
abbrev pub eval_value : App → Store → Scope → AttrValue → Pair
eval_value app store s (fixed t) = of_value (text t)
eval_value app store s (live e) = eval app store s e

abbrev pub eval_given : App → Store → Scope → List (Text × AttrValue) → NamedPairs
eval_given app store s gs = map (λ g. (g.0, eval_value app store s g.1)) gs
