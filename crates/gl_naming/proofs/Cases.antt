-- A worked case: a component that is given an action of its owner, and lists items, of which one goes, one stays and one is new.
use Rattle.std.proofs.Common.{◌≡◌, ◌<◌, ◌||◌, ℕ, zero, suc, List, [], ◌∷◌, ◌++◌, map, length, true, false, refl, ap, arith}
use Rattle.std.specs.Prelude.{codes, if◌then◌else◌}
use Rattle.gl_value.specs.Value.{text, list, action, no_values, values_of}
use Rattle.gl_ast.specs.Template.{this, bare, argument, live, stmt, end, put, component_stmt, each, no_slots}
use Rattle.gl_meaning.specs.App.{App}
use Rattle.gl_meaning.specs.Path.{at, item, items, into, Path, V, path_eq}
use Rattle.gl_meaning.specs.Scope.{Source, cell, item_value, item_index}
use Rattle.gl_plain.specs.Ids.{a_ref, ref, hit}
use Rattle.gl_plain.specs.State.{State, pair_of, source_eq, touch}
use Rattle.gl_plain.specs.Naming.{by_number}
use Rattle.gl_plain.specs.Live.{Live}
use Rattle.gl_plain.specs.Grow.{grow_app, grow_app_as}
use Rattle.gl_plain.specs.Renew.{renew_app, renew_app_as}
use Rattle.gl_plain.specs.Turns.{blank, begin}
use Rattle.gl_naming.specs.Renamed.{pair_with, Right}
use Rattle.gl_naming.specs.Numbered.{number, NumberedThing}

-- <Child @act={{this.go}}/>, where Child is {{#each this.xs key="@identity" as |x|}}{{x}}{{/each}}{{@act}}
unfoldable app : App
app = record {
  root = codes "App";
  limit = 3;
  modifiers = [];
  classes = record {
    name = codes "App";
    file = codes "app.hbs";
    fields = [];
    getters = [];
    actions = [];
    teardown = false;
    template = stmt (component_stmt (codes "Child") [] ((codes "act", live (this (codes "go") [])) ∷ []) no_slots) end;
  }
      ∷ record {
        name = codes "Child";
        file = codes "child.hbs";
        fields = (codes "xs", list (values_of (text (codes "a") ∷ text (codes "b") ∷ []))) ∷ [];
        getters = [];
        actions = [];
        teardown = false;
        template = stmt (each (this (codes "xs") []) (codes "@identity") (codes "x" ∷ []) (stmt (put (bare (codes "x") [])) end) end) (stmt (put (argument (codes "act") [])) end);
      }
      ∷ [];
}

abbrev child : Path
child = into (codes "Child") ∷ at 0 ∷ []

abbrev place : List ℕ → Path
place x = item (text x) 0 ∷ items ∷ at 0 ∷ child

-- the paths of both instances, by their numbers
abbrev names : Path → Path
names p = if path_eq p (at 0 ∷ []) then [] else (if path_eq p (at 1 ∷ []) then child else p)

-- the cell, and the items with their indices: both of the first list, and the new one of the second
abbrev sources : Source → Source
sources x =
    if source_eq x (item_value (at 1 ∷ [])) then cell child (codes "xs")
    else (if source_eq x (item_value (at 3 ∷ [])) then item_value (place (codes "a"))
    else (if source_eq x (item_value (at 4 ∷ [])) then item_index (place (codes "a"))
    else (if source_eq x (item_value (at 6 ∷ [])) then item_value (place (codes "b"))
    else (if source_eq x (item_value (at 7 ∷ [])) then item_index (place (codes "b"))
    else (if source_eq x (item_value (at 10 ∷ [])) then item_value (place (codes "c"))
    else (if source_eq x (item_value (at 11 ∷ [])) then item_index (place (codes "c")) else x))))))

abbrev by_numbers : Live × State
by_numbers = grow_app_as by_number app [] blank

abbrev by_paths : Live × State
by_paths = grow_app app [] blank

abbrev refs : List ℕ
refs = 0 ∷ 1 ∷ 2 ∷ 3 ∷ 4 ∷ 5 ∷ 6 ∷ 7 ∷ 8 ∷ 9 ∷ []

right : Right names sources [] by_numbers.0
unfolding app hit
right = (refl, tt, ((refl, (refl, tt), (((refl, refl), (tt, tt), ((refl, refl), (tt, tt), tt)), (tt, tt))), tt))

same_tree : by_paths.0 ≡ by_numbers.0
unfolding app hit
same_tree = refl

-- the argument is an action of the root, which has the number 0
owner : map (λ r. (pair_of by_numbers.1.look r).value) (0 ∷ []) ≡ action (at 0 ∷ []) (codes "go") no_values ∷ []
unfolding app hit
owner = refl

-- what all references mean
same_values : map (pair_of by_paths.1.look) refs ≡ map (λ p. pair_with names sources p) (map (pair_of by_numbers.1.look) refs)
unfolding app hit
same_values = refl

-- a reference was made for each, and for no more
all_refs : by_numbers.1.next a_ref ≡ length refs
unfolding app hit
all_refs = refl

-- all references that are there are numbered
all_numbered : (r : ℕ) → r < 10 → NumberedThing 10 r (by_numbers.1.look (ref r))
unfolding app hit
all_numbered zero lt = (tt, λ t u e. refl)
all_numbered (suc zero) lt = ((refl, omega arith), λ t u e. refl)
all_numbered (suc (suc zero)) lt = (tt, λ t u e. ap (λ b. b || false) (e 1 (omega arith)))
all_numbered (suc (suc (suc zero))) lt = ((refl, omega arith), λ t u e. refl)
all_numbered (suc (suc (suc (suc zero)))) lt = ((refl, omega arith), λ t u e. refl)
all_numbered (suc (suc (suc (suc (suc zero))))) lt = (tt, λ t u e. ap (λ b. b || false) (e 3 (omega arith)))
all_numbered (suc (suc (suc (suc (suc (suc zero)))))) lt = ((refl, omega arith), λ t u e. refl)
all_numbered (suc (suc (suc (suc (suc (suc (suc zero))))))) lt = ((refl, omega arith), λ t u e. refl)
all_numbered (suc (suc (suc (suc (suc (suc (suc (suc zero)))))))) lt = (tt, λ t u e. ap (λ b. b || false) (e 6 (omega arith)))
all_numbered (suc (suc (suc (suc (suc (suc (suc (suc (suc zero))))))))) lt = (tt, λ t u e. refl)
all_numbered (suc (suc (suc (suc (suc (suc (suc (suc (suc (suc n)))))))))) lt = absurd (omega (arith, lt))

-- The list becomes ["b", "c"].
abbrev second_list : V
second_list = list (values_of (text (codes "b") ∷ text (codes "c") ∷ []))

abbrev then_numbers : Live × State
then_numbers = renew_app_as by_number app [] by_numbers.0 (touch 1 (number 1) second_list (begin by_numbers.1))

abbrev then_paths : Live × State
then_paths = renew_app app [] by_paths.0 (touch 1 (cell child (codes "xs")) second_list (begin by_paths.1))

then_right : Right names sources [] then_numbers.0
unfolding app hit
then_right = (refl, tt, ((refl, (refl, tt), (((refl, refl), (tt, tt), ((refl, refl), (tt, tt), tt)), (tt, tt))), tt))

then_tree : then_paths.0 ≡ then_numbers.0
unfolding app hit
then_tree = refl

then_values : map (pair_of then_paths.1.look) (refs ++ 10 ∷ 11 ∷ 12 ∷ []) ≡ map (λ p. pair_with names sources p) (map (pair_of then_numbers.1.look) (refs ++ 10 ∷ 11 ∷ 12 ∷ []))
unfolding app hit
then_values = refl

-- the list is evaluated, and the new item's text, and nothing else
then_evaluated : then_numbers.1.evaluated ∷ then_paths.1.evaluated ∷ [] ≡ (2 ∷ 12 ∷ []) ∷ (2 ∷ 12 ∷ []) ∷ []
unfolding app hit
then_evaluated = refl

-- of the sources that were there the cell and the index of "b" are touched, by both; by numbers the new item's are too, which isn't seen
then_touched : map (λ r. then_numbers.1.touched (number r)) (1 ∷ 3 ∷ 4 ∷ 6 ∷ 7 ∷ 10 ∷ 11 ∷ []) ≡ true ∷ false ∷ false ∷ false ∷ true ∷ true ∷ true ∷ []
unfolding app hit
then_touched = refl

then_touched_by_paths : map (λ r. then_paths.1.touched (sources (number r))) (1 ∷ 3 ∷ 4 ∷ 6 ∷ 7 ∷ 10 ∷ 11 ∷ []) ≡ true ∷ false ∷ false ∷ false ∷ true ∷ false ∷ false ∷ []
unfolding app hit
then_touched_by_paths = refl
