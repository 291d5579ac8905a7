-- Worked turns: what the state names after each, beside what the tree names.
use Rattle.std.proofs.Common.{◌≡◌, ◌≢◌, ℕ, zero, suc, List, [], ◌∷◌, ◌++◌, map, Bool, true, false, true≢false, Option, Some, None, refl, sym, ap}
use Rattle.std.specs.Prelude.{slice_get, sum, pos, filter, nat_lt, codes}
use Rattle.gl_value.specs.Value.{boolean, integer, text, list, values_of}
use Rattle.gl_meaning.specs.App.{App}
use Rattle.gl_meaning.specs.Path.{at, items, item, Path, V}
use Rattle.gl_meaning.specs.Scope.{cell}
use Rattle.gl_meaning.specs.Eval.{Store}
use Rattle.gl_meaning.specs.Render.{entries, values_listed, draw}
use Rattle.gl_meaning.specs.Work.{work}
use Rattle.gl_each.specs.Key.{Key, same_key}
use Rattle.gl_each.specs.Sync.{retain, move, insert, AreSteps}
use Rattle.gl_each.specs.Moved.{items_at, moves}
use Rattle.gl_kept.specs.Listed.{lists, keyed_lists, tree_lists, keys_at}
use Rattle.gl_plain.specs.Ids.{Kind, a_ref, a_node, an_instance, a_block, a_modifier, Id, ref, hit}
use Rattle.gl_plain.specs.State.{row, Thing, State, touch}
use Rattle.gl_plain.specs.Live.{Live, times}
use Rattle.gl_plain.specs.Grow.{grow_app}
use Rattle.gl_plain.specs.Renew.{renew_app}
use Rattle.gl_plain.specs.Reads.{reads}
use Rattle.gl_plain.specs.Stands.{top}
use Rattle.gl_plain.specs.Turns.{blank, begin}
use Rattle.gl_plain.proofs.Cases.{branch_app, list_app, list_now, component_app}

abbrev numbers_below : ℕ → List ℕ
numbers_below zero = []
numbers_below (suc n) = numbers_below n ++ n ∷ []

abbrev is_there : Option Thing → Bool
is_there None = false
is_there (Some x) = true

abbrev reads_of : Option Thing → List ℕ
reads_of (Some (row x)) = reads x.form
reads_of _ = []

-- the numbers of each kind
record Numbers : Type 0 where
  refs : List ℕ
  nodes : List ℕ
  instances : List ℕ
  blocks : List ℕ
  modifiers : List ℕ

abbrev numbers : (Id → Bool) → State → Numbers
numbers test st =
    let all : Kind → List ℕ = λ k. filter (λ n. test (record { kind = k; num = n })) (numbers_below (st.next k)) in
    record { refs = all a_ref; nodes = all a_node; instances = all an_instance; blocks = all a_block; modifiers = all a_modifier }

-- what the state names, and what the tree names
abbrev named : Live × State → Numbers
named x = numbers (λ q. is_there (x.1.look q)) x.1

abbrev counted : Live × State → Numbers
counted x = numbers (λ q. nat_lt 0 (times q x.0)) x.1

-- what each reference reads
abbrev reading : Live × State → List (List ℕ)
reading x = map (λ n. reads_of (x.1.look (ref n))) (numbers_below (x.1.next a_ref))

-- The first turn of an app, and one more in which a field of the root, of which the cell has the number r, is set.
module _ (app : App) (r : ℕ) (f : List ℕ) (v : V) where
  abbrev first : Live × State
  first = grow_app app [] blank

  abbrev second : Live × State
  second = renew_app app (record { instance = []; field = f; value = v } ∷ []) first.0 (touch r (cell [] f) v (begin first.1))

-- A branch that flips: {{#if this.on}}<b>{{this.n}}</b>{{else}}no{{/if}}
--
-- The cells of `n` and `on`, the position of the condition, and that of the text, which goes.
branch_first : named (first branch_app 1 (codes "on") (boolean false)) ≡ record { refs = 0 ∷ 1 ∷ 2 ∷ 3 ∷ []; nodes = 0 ∷ 1 ∷ []; instances = 0 ∷ []; blocks = []; modifiers = [] }
unfolding branch_app hit top
branch_first = refl

branch_second : named (second branch_app 1 (codes "on") (boolean false)) ≡ record { refs = 0 ∷ 1 ∷ 2 ∷ []; nodes = 2 ∷ []; instances = 0 ∷ []; blocks = []; modifiers = [] }
unfolding branch_app hit top
branch_second = refl

branch_counted : counted (second branch_app 1 (codes "on") (boolean false)) ≡ named (second branch_app 1 (codes "on") (boolean false))
unfolding branch_app hit top
branch_counted = refl

branch_reading : reading (first branch_app 1 (codes "on") (boolean false)) ≡ [] ∷ [] ∷ (1 ∷ []) ∷ (0 ∷ []) ∷ []
unfolding branch_app hit top
branch_reading = refl

-- A keyed list that moves, and gets one item more: {{#each this.xs key="@identity" as |x|}}<i>{{x}}</i>{{/each}}
--
-- The cell of `xs` and the position of the list; of each item its value, its index and the position of its text.
moves_first : named (first list_app 0 (codes "xs") list_now) ≡ record { refs = 0 ∷ 1 ∷ 2 ∷ 3 ∷ 4 ∷ 5 ∷ 6 ∷ 7 ∷ []; nodes = 0 ∷ 1 ∷ 2 ∷ 3 ∷ []; instances = 0 ∷ []; blocks = []; modifiers = [] }
unfolding list_app hit top
moves_first = refl

moves_second : named (second list_app 0 (codes "xs") list_now)
    ≡ record { refs = 0 ∷ 1 ∷ 2 ∷ 3 ∷ 4 ∷ 5 ∷ 6 ∷ 7 ∷ 8 ∷ 9 ∷ 10 ∷ []; nodes = 0 ∷ 1 ∷ 2 ∷ 3 ∷ 4 ∷ 5 ∷ []; instances = 0 ∷ []; blocks = []; modifiers = [] }
unfolding list_app hit top
moves_second = refl

moves_reading : reading (second list_app 0 (codes "xs") list_now) ≡ [] ∷ (0 ∷ []) ∷ [] ∷ [] ∷ (2 ∷ []) ∷ [] ∷ [] ∷ (5 ∷ []) ∷ [] ∷ [] ∷ (8 ∷ []) ∷ []
unfolding list_app hit top
moves_reading = refl

-- Its items, list by list, are its entries, and the plan from the old ones moves as many as the meaning counts: the second stays, the first is
-- moved behind it, and one is put in.
abbrev list_store : Store
list_store = record { instance = []; field = codes "xs"; value = list_now } ∷ []

abbrev at_list : Path
at_list = items ∷ at 0 ∷ []

moves_lists : lists (draw list_app [])
    ≡ (at_list, record { path = item (text (codes "a")) 0 ∷ at_list; value = text (codes "a"); index = 0 } ∷ record { path = item (text (codes "b")) 0 ∷ at_list; value = text (codes "b"); index = 1 } ∷ []) ∷ []
unfolding list_app
moves_lists = refl

moves_entries : lists (draw list_app list_store) ≡ (at_list, items_at at_list (entries (codes "@identity") 0 [] (values_listed list_now))) ∷ []
unfolding list_app
moves_entries = refl

abbrev first_keys : List Key
first_keys = (text (codes "a"), 0) ∷ (text (codes "b"), 0) ∷ []

abbrev new_key : Key
new_key = (text (codes "c"), 0)

abbrev is_new : Option Key → Bool
is_new None = false
is_new (Some k) = same_key new_key k

moves_steps : AreSteps (keys_at at_list (keyed_lists (draw list_app []))) [] (keys_at at_list (keyed_lists (draw list_app list_store))) (retain 1 ∷ move 0 ∷ insert ∷ [])
unfolding list_app
moves_steps = ((refl, refl), ((refl, refl), (none, tt))) where
  none : (i : ℕ) → slice_get first_keys i ≢ Some new_key
  none zero e = true≢false (sym (ap is_new e))
  none (suc zero) e = true≢false (sym (ap is_new e))
  none (suc (suc i)) e = true≢false (sym (ap is_new e))

moves_tree : tree_lists [] (second list_app 0 (codes "xs") list_now).0 ≡ keyed_lists (draw list_app list_store)
unfolding list_app hit top
moves_tree = refl

moves_moved : sum (map moves ((retain 1 ∷ move 0 ∷ insert ∷ []) ∷ [])) ≡ (work (draw list_app []) (draw list_app list_store) list_store).moved
unfolding list_app
moves_moved = refl

-- The same list, of which the first item goes.
abbrev list_less : V
list_less = list (values_of (text (codes "b") ∷ []))

goes_second : named (second list_app 0 (codes "xs") list_less) ≡ record { refs = 0 ∷ 1 ∷ 5 ∷ 6 ∷ 7 ∷ []; nodes = 2 ∷ 3 ∷ []; instances = 0 ∷ []; blocks = []; modifiers = [] }
unfolding list_app hit top
goes_second = refl

goes_counted : counted (second list_app 0 (codes "xs") list_less) ≡ named (second list_app 0 (codes "xs") list_less)
unfolding list_app hit top
goes_counted = refl

-- A component with a yielded block and a modifier that is passed on:
--
-- app.hbs: <Box @v={{this.n}} class="z" {{m this.n}} as |p|>{{p}}</Box>
-- box.hbs: <div ...attributes>{{yield @v}}</div>
--
-- The cell of `n`, which the argument, the parameter and the modifier's argument are too; the position of the text, and that of the modifier.
component_first : named (first component_app 0 (codes "n") (integer (pos 2))) ≡ record { refs = 0 ∷ 1 ∷ 2 ∷ []; nodes = 0 ∷ 1 ∷ []; instances = 0 ∷ 1 ∷ []; blocks = 0 ∷ []; modifiers = 0 ∷ [] }
unfolding component_app hit top
component_first = refl

component_second : named (second component_app 0 (codes "n") (integer (pos 2))) ≡ named (first component_app 0 (codes "n") (integer (pos 2)))
unfolding component_app hit top
component_second = refl

component_counted : counted (second component_app 0 (codes "n") (integer (pos 2))) ≡ named (second component_app 0 (codes "n") (integer (pos 2)))
unfolding component_app hit top
component_counted = refl

component_reading : reading (second component_app 0 (codes "n") (integer (pos 2))) ≡ [] ∷ (0 ∷ []) ∷ (0 ∷ []) ∷ []
unfolding component_app hit top
component_reading = refl
