-- Worked: an expression and the positions of a page, by the machine with numbers and by the meaning.
use Rattle.std.proofs.Common.{◌≡◌, zero, suc, List, [], ◌∷◌, map, refl}
use Rattle.std.specs.Prelude.{true, false, Bool, filter_map, codes}
use Rattle.gl_value.specs.Value.{boolean, text}
use Rattle.gl_ast.specs.Template.{Expr, literal, this, call, no_exprs, expr, no_named, Body, put, if_stmt, end, stmt}
use Rattle.gl_meaning.specs.App.{App}
use Rattle.gl_meaning.specs.Path.{at, Path}
use Rattle.gl_meaning.specs.Scope.{Source, cell, item_value, item_index, Pair}
use Rattle.gl_meaning.specs.Eval.{eval}
use Rattle.gl_meaning.specs.Render.{draw}
use Rattle.gl_meaning.specs.Changes.{Position, positions}
use Rattle.gl_plain.specs.Ids.{ref, hit}
use Rattle.gl_plain.specs.Live.{Live}
use Rattle.gl_plain.specs.Grow.{grow_app_as}
use Rattle.gl_plain.specs.Stands.{top}
use Rattle.gl_plain.specs.Renew.{spot_ids, last_of}
use Rattle.gl_turns.specs.Places.{position_in, places}
use Rattle.gl_plain.specs.State.{MScope, mscope, mnothing, scope_by, source_eq, State}
use Rattle.gl_plain.specs.Naming.{by_number, made_source}
use Rattle.gl_plain.specs.Turns.{blank}
use Rattle.gl_plain.specs.Binding.{bind_expr_as}
use Rattle.gl_naming.specs.Numbered.{number}
use Rattle.gl_means.specs.Means.{sees}

-- an app of one class, of which the root's fields have the cells 0 and 1
unfoldable pub app : Bool → Body → App
app a body = record {
  root = codes "App";
  limit = 1;
  modifiers = [];
  classes = record { name = codes "App"; file = codes "app.hbs"; fields = (codes "a", boolean a) ∷ (codes "b", text (codes "yes")) ∷ []; getters = []; actions = []; teardown = false; template = body } ∷ [];
}

-- {{if this.a this.b "no"}}
abbrev chosen : Expr
chosen = call (codes "if") (expr (this (codes "a") []) (expr (this (codes "b") []) (expr (literal (text (codes "no"))) no_exprs))) no_named

abbrev root : MScope
root = mscope (record { id = 0; path = []; cells = (codes "a", 0) ∷ (codes "b", 1) ∷ [] }) [] [] mnothing

abbrev made : Bool → State
made a = made_source by_number (number 1) (text (codes "yes")) (made_source by_number (number 0) (boolean a) blank)

-- the names of these numbers, and any others for the rest
abbrev owner : Path → Path
owner p = []

abbrev source : Source → Source
source (item_value (at zero ∷ [])) = cell [] (codes "a")
source (item_value (at (suc zero) ∷ [])) = cell [] (codes "b")
source x = item_index []

-- what the reference means, and what the expression gives
abbrev both : Bool → List Pair
both a =
    let b = bind_expr_as by_number (app a end) root chosen (made a) in
    sees owner source b.state.look b.id ∷ eval (app a end) [] (scope_by (sees owner source b.state.look) root) chosen ∷ []

abbrev twice : Pair → List Pair
twice p = p ∷ p ∷ []

-- the condition and the branch that is taken are read, and no other
taken : both true ≡ twice (record { value = text (codes "yes"); sources = cell [] (codes "a") ∷ cell [] (codes "b") ∷ [] })
unfolding app
taken = refl

passed_over : both false ≡ twice (record { value = text (codes "no"); sources = cell [] (codes "a") ∷ [] })
unfolding app
passed_over = refl

-- {{#if this.a}}{{this.b}}{{/if}}
abbrev page : Body
page = stmt (if_stmt (this (codes "a") []) false (stmt (put (this (codes "b") [])) end) end) end

abbrev first : Live × State
first = grow_app_as by_number (app true page) [] blank

-- each position with what it reads means, and whether just its sources were read last
abbrev reads_are : List Position
reads_are = map (λ z. record { path = z.0; pairs = map (sees owner source first.1.look) (spot_ids (first.1.look (ref z.1))) }) (filter_map position_in (places [] first.0))

read : reads_are ≡ positions (draw (app true page) [])
unfolding app hit top
read = refl

-- the second position read the cell b last, and no other
abbrev last_read : List Bool
last_read = map (λ (x : Source). last_of (first.1.look (ref 3)) (λ y. source_eq (source y) x)) (cell [] (codes "a") ∷ cell [] (codes "b") ∷ [])

read_last : last_read ≡ false ∷ true ∷ []
unfolding app hit top
read_last = refl
