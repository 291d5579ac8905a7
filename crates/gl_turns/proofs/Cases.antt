-- Worked turns: what the machine keeps, beside what the meaning says. The apps are those of the machine's own worked turns.
use Rattle.std.proofs.Common.{◌≡◌, ℕ, List, [], ◌∷◌, map, Bool, true, false, refl}
use Rattle.std.specs.Prelude.{flat_map, nat_eq, not, pos, filter, filter_map, codes}
use Rattle.gl_value.specs.Value.{boolean, integer}
use Rattle.gl_meaning.specs.App.{App}
use Rattle.gl_meaning.specs.Path.{Path, V, at, main, otherwise, items, item}
use Rattle.gl_meaning.specs.Scope.{Source, cell, item_value, item_index}
use Rattle.gl_meaning.specs.Changes.{Numbers, number, Sets, touched}
use Rattle.gl_meaning.specs.Actions.{lay}
use Rattle.gl_meaning.specs.Render.{draw}
use Rattle.gl_plain.specs.Ids.{hit}
use Rattle.gl_plain.specs.State.{State}
use Rattle.gl_plain.specs.Live.{Live}
use Rattle.gl_plain.specs.Stands.{top}
use Rattle.gl_plain.specs.Grow.{grow_app}
use Rattle.gl_plain.specs.Renew.{renew_app}
use Rattle.gl_plain.specs.Turns.{blank, begin}
use Rattle.gl_plain.proofs.Cases.{branch_app, list_app, list_now, component_app}
use Rattle.gl_turns.specs.Places.{position_in, places}
use Rattle.gl_turns.specs.Numbers.{numbers_of}
use Rattle.gl_turns.specs.Evaluated.{new_or_stale}
use Rattle.gl_turns.specs.Sets.{set_all}
use Rattle.gl_ast.specs.Template.{this, no_exprs, no_named, modifier, Body, element, if_stmt, end, stmt}
use Rattle.gl_meaning.specs.Path.{modifier_at, has_path}
use Rattle.gl_meaning.specs.Changes.{stale}
use Rattle.gl_meaning.specs.Print.{modifier_paths, children_first}
use Rattle.gl_plain.specs.Live.{times}
use Rattle.gl_turns.specs.Places.{id_of, modifier_in}
use Rattle.gl_turns.specs.Leaving.{Leaver, modifier_leaves, leavers, goes, leaver_of, leaving}

-- The first turn of an app, and one more in which a field of the root is set.
module _ (app : App) (f : List ℕ) (v : V) where
  abbrev sets : Sets
  sets = record { instance = []; field = f; value = v } ∷ []

  abbrev first : Live × State
  first = grow_app app [] blank

  abbrev second : Live × State
  second = renew_app app (lay sets []) first.0 (set_all app first.0 sets (begin first.1))

  abbrev pub numbers : List Numbers
  numbers = numbers_of first.1 first.0 ∷ numbers_of second.1 second.0 ∷ []

  -- those that the meaning gives
  abbrev pub meant_numbers : List Numbers
  meant_numbers = number (record { of = []; next = 0 }) (draw app []) ∷ number (number (record { of = []; next = 0 }) (draw app [])) (draw app (lay sets [])) ∷ []

  -- what the second turn evaluated, and the positions of its tree that are new or stale
  abbrev pub evaluated : List ℕ
  evaluated = second.1.evaluated

  abbrev pub due : List ℕ
  due = map (λ q. q.1) (filter (λ q. new_or_stale (draw app []) (draw app (lay sets [])) sets q.0) (filter_map position_in (places [] second.0)))

  -- whether sources are touched at its end, and whether the meaning names them
  abbrev pub touched_now : List Source → List Bool
  touched_now xs = map second.1.touched xs

  abbrev pub named_now : List Source → List Bool
  named_now xs = map (touched (draw app []) (draw app (lay sets [])) sets) xs

-- A branch that flips: the text is made anew, and gets the next number.
branch_numbers : numbers branch_app (codes "on") (boolean false) ≡ meant_numbers branch_app (codes "on") (boolean false)
unfolding branch_app hit top
branch_numbers = refl

branch_text : numbers branch_app (codes "on") (boolean false)
    ≡ record { of = (at 0 ∷ main ∷ at 0 ∷ [], 0) ∷ (at 0 ∷ at 0 ∷ main ∷ at 0 ∷ [], 1) ∷ []; next = 2 }
    ∷ record { of = (at 0 ∷ otherwise ∷ at 0 ∷ [], 2) ∷ []; next = 3 }
    ∷ []
unfolding branch_app hit top
branch_text = refl

branch_evaluates : (evaluated branch_app (codes "on") (boolean false) ≡ 2 ∷ []) × (due branch_app (codes "on") (boolean false) ≡ 2 ∷ [])
unfolding branch_app hit top
branch_evaluates = (refl, refl)

-- A keyed list that moves: the items keep their nodes and aren't evaluated; their indexes are touched, and their values aren't.
list_numbers : numbers list_app (codes "xs") list_now ≡ meant_numbers list_app (codes "xs") list_now
unfolding list_app hit top
list_numbers = refl

list_evaluates : evaluated list_app (codes "xs") list_now ≡ due list_app (codes "xs") list_now
unfolding list_app hit top
list_evaluates = refl

first_item : Path
first_item = item (Rattle.gl_value.specs.Value.text (codes "a")) 0 ∷ items ∷ at 0 ∷ []

list_touched : (touched_now list_app (codes "xs") list_now (cell [] (codes "xs") ∷ item_value first_item ∷ item_index first_item ∷ []) ≡ true ∷ false ∷ true ∷ [])
    × (named_now list_app (codes "xs") list_now (cell [] (codes "xs") ∷ item_value first_item ∷ item_index first_item ∷ []) ≡ true ∷ false ∷ true ∷ [])
unfolding list_app first_item hit top
list_touched = (refl, refl)

-- A component with a yielded block and a modifier: nothing is made, and both positions are evaluated.
component_numbers : numbers component_app (codes "n") (integer (pos 2)) ≡ meant_numbers component_app (codes "n") (integer (pos 2))
unfolding component_app hit top
component_numbers = refl

component_evaluates : evaluated component_app (codes "n") (integer (pos 2)) ≡ due component_app (codes "n") (integer (pos 2))
unfolding component_app hit top
component_evaluates = refl

-- The log: what the first turn installed, what the second one installed and updated, and what it destroyed, beside what the meaning says.
module _ (app : App) (f : List ℕ) (v : V) where
  abbrev now : Sets
  now = record { instance = []; field = f; value = v } ∷ []

  abbrev before : Live × State
  before = grow_app app [] blank

  abbrev after : Live × State
  after = renew_app app (lay now []) before.0 (set_all app before.0 now (begin before.1))

  abbrev pub logged : List (List ℕ)
  logged = before.1.installs ∷ after.1.installs ∷ after.1.updates ∷ []

  abbrev pub meant_log : List (List ℕ)
  meant_log =
      map (λ z. z.1) (filter_map modifier_in (places [] before.0))
      ∷ map (λ z. z.1) (filter (λ z. not (has_path z.0 (modifier_paths (draw app [])))) (filter_map modifier_in (places [] after.0)))
      ∷ map (λ z. z.1) (filter (λ z. stale (draw app []) (draw app (lay now [])) now z.0) (filter_map modifier_in (places [] after.0)))
      ∷ []

  abbrev pub destroyed : List Leaver
  destroyed = flat_map leaver_of (filter (λ a. nat_eq (times (id_of a) after.0) 0) (leaving [] before.0))

  abbrev pub meant_destroyed : List Leaver
  meant_destroyed = filter (goes (draw app (lay now []))) (flat_map leavers (children_first (draw app [])))

component_log : logged component_app (codes "n") (integer (pos 2)) ≡ (0 ∷ []) ∷ [] ∷ (0 ∷ []) ∷ []
unfolding component_app hit top
component_log = refl

component_meant : meant_log component_app (codes "n") (integer (pos 2)) ≡ (0 ∷ []) ∷ [] ∷ (0 ∷ []) ∷ []
unfolding component_app hit top
component_meant = refl

component_destroys : destroyed component_app (codes "n") (integer (pos 2)) ≡ []
unfolding component_app hit top
component_destroys = refl

-- Modifiers in one another: {{#if this.on}}<b {{m}}><i {{m}}></i></b>{{/if}}
abbrev modified : Body → Body
modified inside = stmt (element (codes "b") (modifier (codes "m") no_exprs no_named ∷ []) inside) end

unfoldable pub nested_app : App
nested_app = record {
  root = codes "App";
  limit = 3;
  modifiers = codes "m" ∷ [];
  classes = record {
    name = codes "App";
    file = codes "app.hbs";
    fields = (codes "on", boolean true) ∷ [];
    getters = [];
    actions = [];
    teardown = false;
    template = stmt (if_stmt (this (codes "on") []) false (modified (modified end)) end) end;
  } ∷ [];
}

-- That of the inner element is installed first, and destroyed first.
nested_log : logged nested_app (codes "on") (boolean false) ≡ (0 ∷ 1 ∷ []) ∷ [] ∷ [] ∷ []
unfolding nested_app hit top
nested_log = refl

nested_destroys : destroyed nested_app (codes "on") (boolean false) ≡ modifier_leaves (modifier_at 0 ∷ at 0 ∷ at 0 ∷ main ∷ at 0 ∷ []) ∷ modifier_leaves (modifier_at 0 ∷ at 0 ∷ main ∷ at 0 ∷ []) ∷ []
unfolding nested_app hit top
nested_destroys = refl

nested_meant : meant_destroyed nested_app (codes "on") (boolean false) ≡ destroyed nested_app (codes "on") (boolean false)
unfolding nested_app hit top
nested_meant = refl
