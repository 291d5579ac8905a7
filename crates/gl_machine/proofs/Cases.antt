-- A worked session over words: what the machine records and does in two turns, beside the machine over trees and the rendering.
--
-- app.hbs: <p class={{this.some}} {{tip this.on}}></p>
--          {{#each this.rows key="@index" as |r i|}}{{r}}{{i}}{{/each}}
--          <Row @x={{this.some}} class="b" as |v|>{{v}}</Row>
-- row.hbs: <div ...attributes>{{yield @x}}</div>
--
-- The getter `some` is `(not this.on)`.
use Rattle.std.proofs.Common.{◌≡◌, ℕ, List, [], ◌∷◌, true, false, Option, Some, None, refl}
use Rattle.std.specs.Prelude.{pos, codes, ⊤}
use Rattle.gl_value.specs.Value.{boolean, integer, list, values_of}
use Rattle.gl_ast.specs.Template.{Expr, this, bare, argument, call, no_exprs, expr, no_named, fixed, live, attribute, modifier, spread, Body, put, element, component_stmt, each, yield, end, stmt, no_slots, block}
use Rattle.gl_names.specs.Helpers.{helper_rows}
use Rattle.gl_ops.specs.Finding.{op_of}
use Rattle.gl_ops.specs.Words.{decoded}
use Rattle.gl_meaning.specs.App.{App}
use Rattle.gl_meaning.specs.Path.{Path}
use Rattle.gl_meaning.specs.Eval.{Store}
use Rattle.gl_meaning.specs.Manifest.{Manifest, app_of}
use Rattle.gl_meaning.specs.Render.{Forest, draw}
use Rattle.gl_program.specs.ClassProgram.{ClassProgram}
use Rattle.gl_plain.specs.Ids.{a_node, hit}
use Rattle.gl_plain.specs.State.{Thing, State, touch}
use Rattle.gl_plain.specs.Naming.{Naming, by_path, by_number}
use Rattle.gl_plain.specs.Live.{Live}
use Rattle.gl_plain.specs.Grow.{grow_app}
use Rattle.gl_plain.specs.Renew.{renew_app}
use Rattle.gl_plain.specs.Drawn.{drawn_app}
use Rattle.gl_plain.specs.Turns.{blank, begin}
use Rattle.gl_machine.specs.Code.{Code, live_of}
use Rattle.gl_machine.specs.Outcome.{Outcome, ok, on_ok}
use Rattle.gl_machine.specs.Env.{Env}
use Rattle.gl_machine.specs.Shape.{Nest, map_nest, placed_nest}
use Rattle.gl_machine.specs.Step.{run_for_as}
use Rattle.gl_machine.specs.Root.{append_page_as, renew_root_code_as}
use Rattle.gl_machine.specs.UpdateLaws.{kept_content}

some_of : Expr
some_of = call (codes "not") (expr (this (codes "on") []) no_exprs) no_named

app_template : Body
app_template =
    stmt (element (codes "p") (attribute (codes "class") (live (this (codes "some") [])) ∷ modifier (codes "tip") (expr (this (codes "on") []) no_exprs) no_named ∷ []) end)
    (stmt (each (this (codes "rows") []) (codes "@index") (codes "r" ∷ codes "i" ∷ []) (stmt (put (bare (codes "r") [])) (stmt (put (bare (codes "i") [])) end)) end)
    (stmt (component_stmt (codes "Row") (attribute (codes "class") (fixed (codes "b")) ∷ []) ((codes "x", live (this (codes "some") [])) ∷ []) (block (codes "default") (codes "v" ∷ []) (stmt (put (bare (codes "v") [])) end) no_slots)) end))

row_template : Body
row_template = stmt (element (codes "div") (spread ∷ []) (stmt (yield (expr (argument (codes "x") []) no_exprs) (codes "default")) end)) end

manifest : Manifest
manifest = record {
  root = codes "App";
  limit = 3;
  modifiers = codes "tip" ∷ [];
  classes = record {
    name = codes "App";
    file = codes "app.hbs";
    fields = (codes "on", boolean true) ∷ (codes "rows", list (values_of (integer (pos 7) ∷ integer (pos 8) ∷ []))) ∷ [];
    getters = (codes "some", some_of) ∷ [];
    actions = [];
    teardown = false;
  } ∷ record { name = codes "Row"; file = codes "row.hbs"; fields = []; getters = []; actions = []; teardown = false } ∷ [];
}

programs : List ClassProgram
programs = record {
  template = record {
    words =
        0x03_000000_00000000 ∷ 0x27_000000_00000000 ∷ 0x05_000000_00000000 ∷ 0x26_000000_00000000 ∷ 0x07_000001_00000001 ∷ 0x08_000000_00000000 ∷ 0x09_000000_00000000
        ∷ 0x26_000001_00000000 ∷ 0x0F_000001_00000010 ∷ 0x10_000001_00000002 ∷ 0x24_000000_00000000 ∷ 0x0A_000000_00000000 ∷ 0x24_000001_00000000 ∷ 0x0A_000000_00000000
        ∷ 0x11_000000_00000000 ∷ 0x0D_000000_00000010 ∷ 0x12_000000_00000000 ∷ 0x16_000001_00000000 ∷ 0x27_000000_00000000 ∷ 0x17_000002_00000000 ∷ 0x04_000000_00000001
        ∷ 0x18_000003_0000001A ∷ 0x19_000002_00000000 ∷ 0x24_000002_00000000 ∷ 0x0A_000000_00000000 ∷ 0x1A_000000_00000000 ∷ 0x1C_000000_00000000 ∷ 0x2D_000000_00000000 ∷ [];
    texts = codes "p" ∷ codes "b" ∷ [];
    names = codes "class" ∷ codes "@index" ∷ codes "x" ∷ codes "default" ∷ [];
    ints = [];
  };
  getters = record { words = 0x26_000000_00000000 ∷ 0x2A_00000E_00000001 ∷ 0x2D_000000_00000000 ∷ []; texts = []; names = []; ints = [] } ∷ [];
  actions = [];
} ∷ record {
  template = record {
    words = 0x03_000000_00000000 ∷ 0x06_000000_00000000 ∷ 0x08_000000_00000000 ∷ 0x25_000000_00000000 ∷ 0x1D_000001_00000001 ∷ 0x09_000000_00000000 ∷ 0x2D_000000_00000000 ∷ [];
    texts = codes "div" ∷ [];
    names = codes "x" ∷ codes "default" ∷ [];
    ints = [];
  };
  getters = [];
  actions = [];
} ∷ []

app : App
app = app_of manifest (app_template ∷ row_template ∷ [])

env : Env
env = record { app = app; manifest = manifest; programs = programs }

-- what is seen after a turn
record Seen : Type 0 where
  tree : Live
  nodes : ℕ
  evaluated : List ℕ
  installs : List ℕ
  updates : List ℕ
  shown : Forest

abbrev seen_as : Live × State → Seen
seen_as x = record { tree = x.0; nodes = x.1.next a_node; evaluated = x.1.evaluated; installs = x.1.installs; updates = x.1.updates; shown = drawn_app app x.1.look x.0 }

abbrev told : Outcome (Code × State) → Option Seen
told (ok r) = Some (seen_as (live_of r.0, r.1))
told _ = None

-- The same but for sources, which naming names: what was recorded, and the nodes as they are nested, each with what it is.
record Recorded : Type 0 where
  code : Code
  nodes : Nest (Path × Option Thing)
  next : ℕ
  evaluated : List ℕ
  installs : List ℕ
  updates : List ℕ

abbrev recorded : Outcome (Code × State) → Option Recorded
recorded (ok r) =
    Some (record {
      code = r.0;
      nodes = map_nest (kept_content r.1.look) (placed_nest [] (live_of r.0));
      next = r.1.next a_node;
      evaluated = r.1.evaluated;
      installs = r.1.installs;
      updates = r.1.updates;
    })
recorded _ = None

-- The root's field `on`, of which the cell has the number 0, is set to false.
abbrev store : Store
store = record { instance = []; field = codes "on"; value = boolean false } ∷ []

abbrev with_set : Naming → State → State
with_set naming st = touch 0 (naming.cell_source 0 [] (codes "on")) (boolean false) (begin st)

abbrev first : Naming → ℕ → Outcome (Code × State)
first naming n = append_page_as naming 3 env [] (run_for_as naming env [] n) 0 blank

abbrev second : Naming → ℕ → Outcome (Code × State)
second naming n = on_ok (first naming n) (λ r. renew_root_code_as naming 3 (run_for_as naming env store n) r.0 (with_set naming r.1))

abbrev tree_first : Live × State
tree_first = grow_app app [] blank

unfoldable on_literals : ⊤
unfolding decoded op_of helper_rows some_of app_template row_template manifest programs app env hit
on_literals = tt

appended : told (first by_path 60) ≡ Some (seen_as tree_first)
unfolding on_literals
appended = refl

updated : told (second by_path 60) ≡ Some (seen_as (renew_app app store tree_first.0 (with_set by_path tree_first.1)))
unfolding on_literals
updated = refl

shows : (seen_as tree_first).shown ≡ draw app []
unfolding on_literals
shows = refl

-- with too few steps it is not over
too_few : told (first by_path 40) ≡ None
unfolding on_literals
too_few = refl

-- By numbers the machine records and does the same, and the nodes are the same.
appended_by_number : recorded (first by_number 60) ≡ recorded (first by_path 60)
unfolding on_literals
appended_by_number = refl

updated_by_number : recorded (second by_number 60) ≡ recorded (second by_path 60)
unfolding on_literals
updated_by_number = refl
