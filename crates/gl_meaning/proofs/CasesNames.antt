-- Worked apps: names that are unknown, and getters that reach themselves.
use Rattle.std.specs.Prelude.{◌≡◌, pos, List, [], ◌∷◌, false, codes, Option, Some, None, refl}
use Rattle.std.proofs.Common.{inl}
use Rattle.gl_base.specs.Texts.{Text}
use Rattle.gl_value.specs.Value.{integer}
use Rattle.gl_ast.specs.Template.{Expr, literal, this, bare, call, cat, no_exprs, expr, no_named, named_expr, live, attribute, modifier, put, element, component_stmt, if_stmt, each, let_stmt, yield, Body, end, stmt, no_slots, block}
use Rattle.gl_meaning.specs.App.{set_step, call_step, Action, Class, App}
use Rattle.gl_meaning.specs.Known.{Kind, component_kind, helper_kind, modifier_kind, member_kind, local_kind, field_kind, Place, first_unknown, unknowns, mention, onward, IsCyclic}

-- an app of one class with a field `n`
abbrev class_of : List (Text × Expr) → List (Text × Action) → Body → Class
class_of getters actions template = record { name = codes "App"; file = codes "app.hbs"; fields = (codes "n", integer (pos 0)) ∷ []; getters = getters; actions = actions; teardown = false; template = template }

abbrev app_of : List (Text × Expr) → List (Text × Action) → Body → App
app_of getters actions template = record { root = codes "App"; limit = 16; modifiers = codes "tip" ∷ []; classes = class_of getters actions template ∷ [] }

abbrev with_template : Body → App
with_template template = app_of [] [] template

abbrev with_action : Action → App
with_action a = app_of [] ((codes "go", a) ∷ []) end

abbrev unknown_in : Option Text → Kind → Text → Place
unknown_in file kind name = record { unknown = record { kind = kind; name = name }; template = file }

abbrev in_app : Kind → Text → Place
in_app = unknown_in (Some (codes "app.hbs"))

abbrev in_manifest : Kind → Text → Place
in_manifest = unknown_in None

-- {{nope}}
a_lone_name_is_a_helper : first_unknown (with_template (stmt (put (bare (codes "nope") [])) end)) ≡ Some (in_app helper_kind (codes "nope"))
a_lone_name_is_a_helper = refl

-- {{nope.x}} and {{if nope 1}}
another_bare_name_is_a_local : unknowns (with_template (stmt (put (bare (codes "nope") (codes "x" ∷ []))) (stmt (put (call (codes "if") (expr (bare (codes "nope") []) (expr (literal (integer (pos 1))) no_exprs)) no_named)) end))) ≡ in_app local_kind (codes "nope") ∷ in_app local_kind (codes "nope") ∷ []
another_bare_name_is_a_local = refl

-- {{this.m}}
a_member_that_the_class_lacks : first_unknown (with_template (stmt (put (this (codes "m") [])) end)) ≡ Some (in_app member_kind (codes "m"))
a_member_that_the_class_lacks = refl

-- <Kid @a={{x}} b={{y}}>{{z}}</Kid>: the class, then the arguments, then the parts, then the block
a_component_in_order : unknowns (with_template (stmt (component_stmt (codes "Kid") (attribute (codes "b") (live (bare (codes "y") [])) ∷ []) ((codes "a", live (bare (codes "x") [])) ∷ []) (block (codes "default") [] (stmt (put (bare (codes "z") [])) end) no_slots)) end)) ≡ in_app component_kind (codes "Kid") ∷ in_app helper_kind (codes "x") ∷ in_app helper_kind (codes "y") ∷ in_app helper_kind (codes "z") ∷ []
a_component_in_order = refl

-- <p {{tip}} {{on}} {{top this.m}}></p>
a_modifier_that_is_not_listed : unknowns (with_template (stmt (element (codes "p") (modifier (codes "tip") no_exprs no_named ∷ modifier (codes "on") no_exprs no_named ∷ modifier (codes "top") (expr (this (codes "m") []) no_exprs) no_named ∷ []) end) end)) ≡ in_app modifier_kind (codes "top") ∷ in_app member_kind (codes "m") ∷ []
a_modifier_that_is_not_listed = refl

-- {{#each this.n as |x i|}}{{x}}{{i}}{{else}}{{x}}{{/each}}: the parameters are known in the main body alone
parameters_of_a_block : unknowns (with_template (stmt (each (this (codes "n") []) (codes "@identity") (codes "x" ∷ codes "i" ∷ []) (stmt (put (bare (codes "x") [])) (stmt (put (bare (codes "i") [])) end)) (stmt (put (bare (codes "x") [])) end)) end)) ≡ in_app helper_kind (codes "x") ∷ []
parameters_of_a_block = refl

-- {{#let 1 as |nope|}}{{nope}}{{(nope nope)}}{{/let}}: a called name is a helper's
a_called_name : unknowns (with_template (stmt (let_stmt (expr (literal (integer (pos 1))) no_exprs) (codes "nope" ∷ []) (stmt (put (bare (codes "nope") [])) (stmt (put (call (codes "nope") (expr (bare (codes "nope") []) no_exprs) no_named)) end))) end)) ≡ in_app helper_kind (codes "nope") ∷ []
a_called_name = refl

-- <p title="a{{x}}"></p>{{yield y}}{{#if z}}{{/if}}{{if 1 k=w}}: in a quoted value a lone name may be a helper's, elsewhere it is a parameter's
lone_names : unknowns (with_template (
    stmt (element (codes "p") (attribute (codes "title") (live (cat (expr (literal (integer (pos 1))) (expr (bare (codes "x") []) no_exprs)))) ∷ []) end)
    (stmt (yield (expr (bare (codes "y") []) no_exprs) (codes "default"))
    (stmt (if_stmt (bare (codes "z") []) false end end)
    (stmt (put (call (codes "if") (expr (literal (integer (pos 1))) no_exprs) (named_expr (codes "k") (bare (codes "w") []) no_named))) end)))
    )) ≡ in_app helper_kind (codes "x") ∷ in_app local_kind (codes "y") ∷ in_app local_kind (codes "z") ∷ in_app local_kind (codes "w") ∷ []
lone_names = refl

-- {{#let 1 as |a|}}<App as |b|>{{a}}{{b}}</App>{{/let}}: parameters of blocks one in the other
parameters_in_parameters : unknowns (with_template (stmt (let_stmt (expr (literal (integer (pos 1))) no_exprs) (codes "a" ∷ []) (stmt (let_stmt no_exprs (codes "c" ∷ []) (stmt (component_stmt (codes "App") [] [] (block (codes "default") (codes "b" ∷ []) (stmt (put (bare (codes "a") [])) (stmt (put (bare (codes "b") [])) (stmt (put (bare (codes "c") [])) end))) no_slots)) end)) end)) end)) ≡ []
parameters_in_parameters = refl

-- {{this.n}}{{this.g}}{{this.go}}: a field, a getter and an action
members_of_a_class : unknowns (app_of ((codes "g", literal (integer (pos 1))) ∷ []) ((codes "go", record { params = []; steps = [] }) ∷ []) (stmt (put (this (codes "n") [])) (stmt (put (this (codes "g") [])) (stmt (put (this (codes "go") [])) end)))) ≡ []
members_of_a_class = refl

-- the root, the template, the getters, the actions: `when` before `set` before `to`, and the values of `call`
the_whole_order : unknowns (record {
  root = codes "Main";
  limit = 16;
  modifiers = [];
  classes = class_of
      ((codes "g", this (codes "h") []) ∷ [])
      ((
        codes "go",
        record {
          params = codes "v" ∷ [];
          steps = set_step (Some (bare (codes "a") [])) (codes "b") (this (codes "c") []) ∷ call_step (Some (bare (codes "d") [])) (codes "v") [] (expr (bare (codes "e") []) no_exprs) ∷ [];
        },
      ) ∷ [])
      (stmt (put (this (codes "m") [])) end) ∷ [];
}) ≡ in_manifest component_kind (codes "Main") ∷ in_app member_kind (codes "m") ∷ in_manifest member_kind (codes "h") ∷ in_manifest local_kind (codes "a") ∷ in_manifest field_kind (codes "b") ∷ in_manifest member_kind (codes "c") ∷ in_manifest local_kind (codes "d") ∷ in_manifest local_kind (codes "e") ∷ []
the_whole_order = refl

-- two getters that mention one another: the first by name
abbrev two_getters : List (Text × Expr)
two_getters = (codes "a", this (codes "b") []) ∷ (codes "b", this (codes "a") []) ∷ []

cycle_of_two : IsCyclic (app_of two_getters [] end) (record { of_class = class_of two_getters [] end; name = codes "a" })
cycle_of_two = inl (refl, onward {x = codes "b"} (mention refl (inl refl)) (mention refl (inl refl)))

-- (if false this.c 1): a branch that is never taken counts
abbrev untaken : List (Text × Expr)
untaken = (codes "c", call (codes "if") (expr (literal (integer (pos 0))) (expr (this (codes "c") []) no_exprs)) no_named) ∷ []

cycle_in_an_untaken_branch : IsCyclic (app_of untaken [] end) (record { of_class = class_of untaken [] end; name = codes "c" })
cycle_in_an_untaken_branch = inl (refl, mention refl (inl refl))

-- (hash k=this.d): named arguments count
abbrev by_name : List (Text × Expr)
by_name = (codes "d", call (codes "hash") no_exprs (named_expr (codes "k") (this (codes "d") []) no_named)) ∷ []

cycle_by_a_named_argument : IsCyclic (app_of by_name [] end) (record { of_class = class_of by_name [] end; name = codes "d" })
cycle_by_a_named_argument = inl (refl, mention refl (inl refl))

-- a quoted value too
abbrev in_parts : List (Text × Expr)
in_parts = (codes "e", cat (expr (literal (integer (pos 0))) (expr (this (codes "e") []) no_exprs))) ∷ []

cycle_in_a_quoted_value : IsCyclic (app_of in_parts [] end) (record { of_class = class_of in_parts [] end; name = codes "e" })
cycle_in_a_quoted_value = inl (refl, mention refl (inl refl))
