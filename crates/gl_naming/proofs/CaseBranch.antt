-- A worked case: a branch with a component goes, and comes again. Its instance has the same path, and another number.
use Rattle.std.proofs.Common.{◌≡◌, [], ◌∷◌, map, true, false, refl}
use Rattle.std.specs.Prelude.{codes, if◌then◌else◌}
use Rattle.gl_value.specs.Value.{boolean, action, no_values}
use Rattle.gl_ast.specs.Template.{this, stmt, end, put, component_stmt, if_stmt, no_slots}
use Rattle.gl_meaning.specs.App.{App}
use Rattle.gl_meaning.specs.Path.{at, main, into, Path, path_eq}
use Rattle.gl_meaning.specs.Scope.{Source, cell, item_value}
use Rattle.gl_plain.specs.Ids.{hit}
use Rattle.gl_plain.specs.State.{State, pair_of, source_eq, touch}
use Rattle.gl_plain.specs.Naming.{by_number}
use Rattle.gl_plain.specs.Live.{Live}
use Rattle.gl_plain.specs.Grow.{grow_app, grow_app_as}
use Rattle.gl_plain.specs.Renew.{renew_app, renew_app_as}
use Rattle.gl_plain.specs.Turns.{blank, begin}
use Rattle.gl_naming.specs.Renamed.{pair_with, Right}
use Rattle.gl_naming.specs.Numbered.{number}
use Rattle.gl_naming.specs.Ties.{owners_in, sources_in}

-- {{#if this.on}}<Child />{{/if}}, where Child is {{this.go}}, an action of its own
unfoldable app : App
app = record {
  root = codes "App";
  limit = 3;
  modifiers = [];
  classes = record {
    name = codes "App";
    file = codes "app.hbs";
    fields = (codes "on", boolean true) ∷ [];
    getters = [];
    actions = [];
    teardown = false;
    template = stmt (if_stmt (this (codes "on") []) false (stmt (component_stmt (codes "Child") [] [] no_slots) end) end) end;
  }
      ∷ record {
        name = codes "Child";
        file = codes "child.hbs";
        fields = [];
        getters = [];
        actions = [];
        teardown = false;
        template = stmt (put (this (codes "go") [])) end;
      }
      ∷ [];
}

abbrev child : Path
child = into (codes "Child") ∷ at 0 ∷ main ∷ at 0 ∷ []

abbrev on : Source
on = cell [] (codes "on")

-- By numbers: first, without the branch, and with it again. What is new has the initial values.
abbrev first : Live × State
first = grow_app_as by_number app [] blank

abbrev second : Live × State
second = renew_app_as by_number app [] first.0 (touch 0 (number 0) (boolean false) (begin first.1))

abbrev third : Live × State
third = renew_app_as by_number app [] second.0 (touch 0 (number 0) (boolean true) (begin second.1))

-- by paths
abbrev first_by_paths : Live × State
first_by_paths = grow_app app [] blank

abbrev second_by_paths : Live × State
second_by_paths = renew_app app [] first_by_paths.0 (touch 0 on (boolean false) (begin first_by_paths.1))

abbrev third_by_paths : Live × State
third_by_paths = renew_app app [] second_by_paths.0 (touch 0 on (boolean true) (begin second_by_paths.1))

same_trees : first_by_paths.0 ∷ second_by_paths.0 ∷ third_by_paths.0 ∷ [] ≡ first.0 ∷ second.0 ∷ third.0 ∷ []
unfolding app hit
same_trees = refl

same_lists : map (λ (r : Live × State). r.1.evaluated) (first_by_paths ∷ second_by_paths ∷ third_by_paths ∷ []) ≡ map (λ (r : Live × State). r.1.evaluated) (first ∷ second ∷ third ∷ [])
unfolding app hit
same_lists = refl

-- the instance has the number 1, goes, and comes again with the number 2
instances : map owners_in (first.0 ∷ second.0 ∷ third.0 ∷ []) ≡ ((0, []) ∷ (1, child) ∷ []) ∷ ((0, []) ∷ []) ∷ ((0, []) ∷ (2, child) ∷ []) ∷ []
unfolding app hit
instances = refl

cells : map sources_in (first.0 ∷ second.0 ∷ third.0 ∷ []) ≡ ((0, on) ∷ []) ∷ ((0, on) ∷ []) ∷ ((0, on) ∷ []) ∷ []
unfolding app hit
cells = refl

-- the names before, and those after: 1 and 2 change places
abbrev names : Path → Path
names p = if path_eq p (at 0 ∷ []) then [] else (if path_eq p (at 1 ∷ []) then child else (if path_eq p [] then at 0 ∷ [] else (if path_eq p child then at 1 ∷ [] else p)))

abbrev later_names : Path → Path
later_names p = if path_eq p (at 0 ∷ []) then [] else (if path_eq p (at 2 ∷ []) then child else (if path_eq p [] then at 0 ∷ [] else (if path_eq p child then at 1 ∷ [] else (if path_eq p (at 1 ∷ []) then at 2 ∷ [] else p))))

abbrev sources : Source → Source
sources x = if source_eq x (item_value (at 0 ∷ [])) then on else (if source_eq x on then item_value (at 0 ∷ []) else x)

-- for the tree without the branch both are right, for each of the others one
right_names : Right names sources [] first.0 × Right names sources [] second.0 × Right later_names sources [] second.0 × Right later_names sources [] third.0
unfolding app hit
right_names = (
  (refl, (refl, tt), (((refl, tt, (tt, tt)), tt), tt)),
  (refl, (refl, tt), (tt, tt)),
  (refl, (refl, tt), (tt, tt)),
  (refl, (refl, tt), (((refl, tt, (tt, tt)), tt), tt)),
)

-- what the references of the branch mean: an action of the instance, by its number and by its path
owner_first : (pair_of first.1.look 2).value ∷ (pair_of first_by_paths.1.look 2).value ∷ [] ≡ action (at 1 ∷ []) (codes "go") no_values ∷ action child (codes "go") no_values ∷ []
unfolding app hit
owner_first = refl

owner_again : (pair_of third.1.look 4).value ∷ (pair_of third_by_paths.1.look 4).value ∷ [] ≡ action (at 2 ∷ []) (codes "go") no_values ∷ action child (codes "go") no_values ∷ []
unfolding app hit
owner_again = refl

same_values : map (pair_of third_by_paths.1.look) (0 ∷ 1 ∷ 2 ∷ 3 ∷ 4 ∷ 5 ∷ []) ≡ map (λ p. pair_with later_names sources p) (map (pair_of third.1.look) (0 ∷ 1 ∷ 2 ∷ 3 ∷ 4 ∷ 5 ∷ []))
unfolding app hit
same_values = refl
