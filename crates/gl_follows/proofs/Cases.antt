-- A worked session by numbers: a branch with a component goes, and comes again; then a field of the instance that came again is set by its
-- listener. Each turn stands beside that of the session.
use Rattle.std.proofs.Common.{◌≡◌, List, [], ◌∷◌, map, length, true, false, Some, None, refl}
use Rattle.std.specs.Prelude.{codes}
use Rattle.gl_value.specs.Value.{boolean, text, undefined}
use Rattle.gl_ast.specs.Template.{literal, this, expr, no_exprs, no_named, modifier, element, put, component_stmt, if_stmt, stmt, end, no_slots}
use Rattle.gl_meaning.specs.App.{App, set_step, Event, set_event, fire}
use Rattle.gl_meaning.specs.Path.{at, main, into, Path}
use Rattle.gl_meaning.specs.Scope.{Source, cell}
use Rattle.gl_meaning.specs.Session as session
use Rattle.gl_meaning.specs.Session.{Turn, first_state, applied, step}
use Rattle.gl_plain.specs.Ids.{a_node, node, hit}
use Rattle.gl_plain.specs.State.{text_content, content, State}
use Rattle.gl_plain.specs.Live.{Live, is_deep}
use Rattle.gl_plain.specs.Naming.{by_number}
use Rattle.gl_plain.specs.Turns.{begin}
use Rattle.gl_plain.specs.Grow.{grow_app_as}
use Rattle.gl_plain.specs.Renew.{renew_app_as}
use Rattle.gl_naming.specs.Numbered.{number}
use Rattle.gl_naming.specs.Ties.{owners_in, sources_in}
use Rattle.gl_turns.specs.Numbers.{numbers_of}
use Rattle.gl_turns.proofs.Turning.{turn_after}
use Rattle.gl_follows.specs.Sets.{set_all_by, AreThere, put_all}
use Rattle.gl_follows.specs.Turns.{rooted}

-- {{#if this.on}}<Child />{{/if}}, where Child is <b {{on "click" this.go}}>{{this.n}}</b>, and go sets n
unfoldable app : App
app = record {
  root = codes "App";
  limit = 3;
  modifiers = [];
  classes = record {
    name = codes "App";
    file = codes "app.hbs";
    fields = (codes "on", boolean true) ∷ [];
    getters = [];
    actions = [];
    teardown = false;
    template = stmt (if_stmt (this (codes "on") []) false (stmt (component_stmt (codes "Child") [] [] no_slots) end) end) end;
  } ∷ record {
    name = codes "Child";
    file = codes "child.hbs";
    fields = (codes "n", text (codes "a")) ∷ [];
    getters = [];
    actions = (codes "go", record { params = []; steps = set_step None (codes "n") (literal (text (codes "b"))) ∷ [] }) ∷ [];
    teardown = false;
    template = stmt (element (codes "b") (modifier (codes "on") (expr (literal (text (codes "click"))) (expr (this (codes "go") []) no_exprs)) no_named ∷ []) (stmt (put (this (codes "n") [])) end)) end;
  } ∷ [];
}

abbrev child : Path
child = into (codes "Child") ∷ at 0 ∷ main ∷ at 0 ∷ []

abbrev on : Source
on = cell [] (codes "on")

abbrev shown : Source
shown = cell child (codes "n")

-- The session: it begins, the branch goes, it comes again, and its element is clicked.
abbrev turn_0 : Turn
turn_0 = turn_after app first_state None

abbrev goes : Event
goes = set_event (codes "on") (boolean false)

abbrev turn_1 : Turn
turn_1 = turn_after app turn_0.state (Some goes)

abbrev comes : Event
comes = set_event (codes "on") (boolean true)

abbrev turn_2 : Turn
turn_2 = turn_after app turn_1.state (Some comes)

abbrev click : Event
click = fire 4 (codes "click") undefined

abbrev turn_3 : Turn
turn_3 = turn_after app turn_2.state (Some click)

-- the machine by numbers
abbrev next : session.State → Event → Live × State → Live × State
next s e m = renew_app_as by_number app [] m.0 (set_all_by app m.0 (applied app s (Some e)).sets (begin m.1))

abbrev machine_0 : Live × State
machine_0 = grow_app_as by_number app [] rooted

abbrev machine_1 : Live × State
machine_1 = next turn_0.state goes machine_0

abbrev machine_2 : Live × State
machine_2 = next turn_1.state comes machine_1

abbrev machine_3 : Live × State
machine_3 = next turn_2.state click machine_2

abbrev machines : List (Live × State)
machines = machine_0 ∷ machine_1 ∷ machine_2 ∷ machine_3 ∷ []

-- the numbers of nodes
numbers_follow : map (λ m. numbers_of m.1 m.0) machines ≡ map (λ t. t.state.numbers) (turn_0 ∷ turn_1 ∷ turn_2 ∷ turn_3 ∷ [])
unfolding app hit
numbers_follow = refl

nodes_made : map (λ m. m.1.next a_node) machines ≡ 3 ∷ 4 ∷ 6 ∷ 6 ∷ []
unfolding app hit
nodes_made = refl

-- the work, and what was installed and updated
work_follows : map (λ t. t.work) (turn_0 ∷ turn_1 ∷ turn_2 ∷ turn_3 ∷ [])
    ≡ record { evaluated = 3; made = 2; moved = 0 } ∷ record { evaluated = 1; made = 1; moved = 0 } ∷ record { evaluated = 3; made = 2; moved = 0 } ∷ record { evaluated = 1; made = 0; moved = 0 } ∷ []
unfolding app hit
work_follows = refl

evaluated_follow : map (λ m. length m.1.evaluated) machines ≡ 3 ∷ 1 ∷ 3 ∷ 1 ∷ []
unfolding app hit
evaluated_follow = refl

installs_follow : map (λ m. m.1.installs) machines ≡ (0 ∷ []) ∷ [] ∷ (1 ∷ []) ∷ [] ∷ []
unfolding app hit
installs_follow = refl

updates_follow : map (λ m. m.1.updates) machines ≡ [] ∷ [] ∷ [] ∷ [] ∷ []
unfolding app hit
updates_follow = refl

-- the instance that came again has another number, and so has its cell
owners_follow : map (λ m. owners_in m.0) machines ≡ ((0, []) ∷ (1, child) ∷ []) ∷ ((0, []) ∷ []) ∷ ((0, []) ∷ (2, child) ∷ []) ∷ ((0, []) ∷ (2, child) ∷ []) ∷ []
unfolding app hit
owners_follow = refl

cells_follow : sources_in machine_0.0 ∷ sources_in machine_2.0 ∷ [] ≡ ((0, on) ∷ (2, shown) ∷ []) ∷ ((0, on) ∷ (7, shown) ∷ []) ∷ []
unfolding app hit
cells_follow = refl

-- the click sets its field, and nothing else is touched
click_sets : (applied app turn_2.state (Some click)).sets ≡ record { instance = child; field = codes "n"; value = text (codes "b") } ∷ []
unfolding app hit
click_sets = refl

click_touches : map (λ r. machine_3.1.touched (number r)) (0 ∷ 2 ∷ 7 ∷ []) ≡ false ∷ false ∷ true ∷ []
unfolding app hit
click_touches = refl

click_is_there : AreThere app machine_2.0 (applied app turn_2.state (Some click)).sets
unfolding app hit
click_is_there = (record { inst = record { id = 2; path = child; cells = (codes "n", 7) ∷ [] }; at = refl; field = refl }, tt)

-- by the number of its owner it is the same set
click_puts : set_all_by app machine_2.0 (applied app turn_2.state (Some click)).sets (begin machine_2.1) ≡ put_all (record { owner = 2; field = codes "n"; value = text (codes "b") } ∷ []) (begin machine_2.1)
unfolding app hit
click_puts = refl

-- an element that is gone has no listener any more
old_click : (applied app turn_2.state (Some (fire 1 (codes "click") undefined))) ≡ record { sets = []; missing = 1 ∷ [] }
unfolding app hit
old_click = refl

text_follows : machine_2.1.look (node 5) ∷ machine_3.1.look (node 5) ∷ [] ≡ Some (content (text_content (codes "a"))) ∷ Some (content (text_content (codes "b"))) ∷ []
unfolding app hit
text_follows = refl

-- Where components may nest no deeper than the root there is no first turn.
abbrev shallow_app : App
shallow_app = record app { limit = 1 }

stops : (step shallow_app first_state None ≡ None) × (is_deep (grow_app_as by_number shallow_app [] rooted).0 ≡ true)
unfolding app hit
stops = (refl, refl)
