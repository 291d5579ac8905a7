-- Worked turns: what the machine does, beside what the meaning counts.
use Rattle.std.proofs.Common.{◌≡◌, ℕ, List, [], ◌∷◌, length, refl}
use Rattle.std.specs.Prelude.{pos, true, false, codes}
use Rattle.gl_value.specs.Value.{boolean, integer, text, list, values_of}
use Rattle.gl_ast.specs.Template.{Plain, this, bare, argument, no_exprs, expr, no_named, fixed, live, attribute, modifier, spread, Body, text_stmt, put, element, component_stmt, if_stmt, each, yield, end, stmt, no_slots, block}
use Rattle.gl_meaning.specs.App.{App}
use Rattle.gl_meaning.specs.Path.{V}
use Rattle.gl_meaning.specs.Scope.{cell}
use Rattle.gl_meaning.specs.Eval.{Store}
use Rattle.gl_meaning.specs.Render.{Forest, no_pieces, draw}
use Rattle.gl_meaning.specs.Work.{Work, work}
use Rattle.gl_plain.specs.Ids.{a_node, hit}
use Rattle.gl_plain.specs.State.{State, touch}
use Rattle.gl_plain.specs.Live.{Live}
use Rattle.gl_plain.specs.Grow.{grow_app}
use Rattle.gl_plain.specs.Renew.{renew_app}
use Rattle.gl_plain.specs.Stands.{top}
use Rattle.gl_plain.specs.Drawn.{drawn_app}
use Rattle.gl_plain.specs.Turns.{blank, begin}
use Rattle.gl_plain.specs.Counts.{nodes_of, positions_of}

-- what a turn did: the positions it evaluated, the nodes it made, the modifiers it installed and updated
pub record Done : Type 0 where
  pub evaluated : ℕ
  pub installs : List ℕ
  pub updates : List ℕ
  pub nodes : ℕ
  pub shown : Forest

-- The first turn of an app, and one more in which a field of the root, of which the cell has the number r, is set.
module _ (app : App) (r : ℕ) (f : List ℕ) (v : V) where
  abbrev first : Live × State
  first = grow_app app [] blank

  abbrev store : Store
  store = record { instance = []; field = f; value = v } ∷ []

  abbrev second : Live × State
  second = renew_app app store first.0 (touch r (cell [] f) v (begin first.1))

  abbrev done : Live × State → Done
  done x = record { evaluated = length x.1.evaluated; installs = x.1.installs; updates = x.1.updates; nodes = x.1.next a_node; shown = drawn_app app x.1.look x.0 }

  abbrev pub turns : List Done
  turns = done first ∷ done second ∷ []

  -- the nodes after each turn, in order
  abbrev pub numbers : List (List ℕ)
  numbers = nodes_of first.0 ∷ nodes_of second.0 ∷ []

  -- the positions after each turn, in order, and those that it evaluated
  abbrev pub positions : List (List ℕ × List ℕ)
  positions = (positions_of first.0, first.1.evaluated) ∷ (positions_of second.0, second.1.evaluated) ∷ []

  -- what the meaning counts for both turns
  abbrev pub works : List Work
  works = work no_pieces (draw app []) [] ∷ work (draw app []) (draw app store) store ∷ []

  abbrev pub drawings : List Forest
  drawings = draw app [] ∷ draw app store ∷ []

abbrev one_class : List (List ℕ × Plain) → Body → App
one_class fields body = record {
  root = codes "App";
  limit = 3;
  modifiers = codes "m" ∷ [];
  classes = record { name = codes "App"; file = codes "app.hbs"; fields = fields; getters = []; actions = []; teardown = false; template = body } ∷ [];
}

-- A branch that flips: {{#if this.on}}<b>{{this.n}}</b>{{else}}no{{/if}}
unfoldable pub branch_app : App
branch_app = one_class ((codes "n", text (codes "x")) ∷ (codes "on", boolean true) ∷ []) (stmt (if_stmt (this (codes "on") []) false (stmt (element (codes "b") [] (stmt (put (this (codes "n") [])) end)) end) (stmt (text_stmt (codes "no")) end)) end)

branch : turns branch_app 1 (codes "on") (boolean false)
    ≡ record { evaluated = 2; installs = []; updates = []; nodes = 2; shown = draw branch_app [] }
    ∷ record { evaluated = 1; installs = []; updates = []; nodes = 3; shown = draw branch_app (store branch_app 1 (codes "on") (boolean false)) }
    ∷ []
unfolding branch_app hit top
branch = refl

branch_numbers : numbers branch_app 1 (codes "on") (boolean false) ≡ (0 ∷ 1 ∷ []) ∷ (2 ∷ []) ∷ []
unfolding branch_app hit top
branch_numbers = refl

branch_positions : positions branch_app 1 (codes "on") (boolean false) ≡ (2 ∷ 3 ∷ [], 2 ∷ 3 ∷ []) ∷ (2 ∷ [], 2 ∷ []) ∷ []
unfolding branch_app hit top
branch_positions = refl

branch_work : works branch_app 1 (codes "on") (boolean false) ≡ record { evaluated = 2; made = 2; moved = 0 } ∷ record { evaluated = 1; made = 1; moved = 0 } ∷ []
unfolding branch_app
branch_work = refl

-- A keyed list that moves: {{#each this.xs key="@identity" as |x|}}<i>{{x}}</i>{{/each}}
unfoldable pub list_app : App
list_app = one_class ((codes "xs", list (values_of (text (codes "a") ∷ text (codes "b") ∷ []))) ∷ []) (stmt (each (this (codes "xs") []) (codes "@identity") (codes "x" ∷ []) (stmt (element (codes "i") [] (stmt (put (bare (codes "x") [])) end)) end) end) end)

abbrev pub list_now : V
list_now = list (values_of (text (codes "b") ∷ text (codes "a") ∷ text (codes "c") ∷ []))

moves : turns list_app 0 (codes "xs") list_now
    ≡ record { evaluated = 3; installs = []; updates = []; nodes = 4; shown = draw list_app [] }
    ∷ record { evaluated = 2; installs = []; updates = []; nodes = 6; shown = draw list_app (store list_app 0 (codes "xs") list_now) }
    ∷ []
unfolding list_app hit top
moves = refl

moves_numbers : numbers list_app 0 (codes "xs") list_now ≡ (0 ∷ 1 ∷ 2 ∷ 3 ∷ []) ∷ (2 ∷ 3 ∷ 0 ∷ 1 ∷ 4 ∷ 5 ∷ []) ∷ []
unfolding list_app hit top
moves_numbers = refl

moves_work : works list_app 0 (codes "xs") list_now ≡ record { evaluated = 3; made = 4; moved = 0 } ∷ record { evaluated = 2; made = 2; moved = 1 } ∷ []
unfolding list_app
moves_work = refl

-- A component with a yielded block and a modifier that is passed on:
--
-- app.hbs: <Box @v={{this.n}} class="z" {{m this.n}} as |p|>{{p}}</Box>
-- box.hbs: <div ...attributes>{{yield @v}}</div>
unfoldable pub component_app : App
component_app = record {
  root = codes "App";
  limit = 3;
  modifiers = codes "m" ∷ [];
  classes = record {
    name = codes "App";
    file = codes "app.hbs";
    fields = (codes "n", integer (pos 1)) ∷ [];
    getters = [];
    actions = [];
    teardown = false;
    template = stmt (component_stmt (codes "Box") (attribute (codes "class") (fixed (codes "z")) ∷ modifier (codes "m") (expr (this (codes "n") []) no_exprs) no_named ∷ []) ((codes "v", live (this (codes "n") [])) ∷ [])
        (block (codes "default") (codes "p" ∷ []) (stmt (put (bare (codes "p") [])) end) no_slots)) end;
  } ∷ record {
    name = codes "Box";
    file = codes "box.hbs";
    fields = [];
    getters = [];
    actions = [];
    teardown = false;
    template = stmt (element (codes "div") (spread ∷ []) (stmt (yield (expr (argument (codes "v") []) no_exprs) (codes "default")) end)) end;
  } ∷ [];
}

component : turns component_app 0 (codes "n") (integer (pos 2))
    ≡ record { evaluated = 2; installs = 0 ∷ []; updates = []; nodes = 2; shown = draw component_app [] }
    ∷ record { evaluated = 2; installs = []; updates = 0 ∷ []; nodes = 2; shown = draw component_app (store component_app 0 (codes "n") (integer (pos 2))) }
    ∷ []
unfolding component_app hit top
component = refl

component_work : works component_app 0 (codes "n") (integer (pos 2)) ≡ record { evaluated = 2; made = 2; moved = 0 } ∷ record { evaluated = 2; made = 0; moved = 0 } ∷ []
unfolding component_app
component_work = refl
