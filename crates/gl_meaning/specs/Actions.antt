-- What an event sets.
use Rattle.std.specs.Prelude.{ℕ, suc, List, [], ◌∷◌, ◌++◌, map, filter, flat_map, filter_map, Bool, true, false, ◌&&◌, nat_eq, if◌then◌else◌, Option, Some, None, unwrap_or, codes}
use Rattle.std.specs.Str.{bytes_eq}
use Rattle.gl_base.specs.Texts.{Text}
use Rattle.gl_base.specs.Names.{named, last_named, at_place}
use Rattle.gl_value.specs.Value.{undefined, action, list_of, truthy, text_of, plain, properties}
use Rattle.gl_ast.specs.Template.{Plain, Expr}
use Rattle.gl_meaning.specs.App.{Step, set_step, call_step, Action, App, Event, set_event, fire, batch, Events, no_events, event}
use Rattle.gl_meaning.specs.Path.{Path, V, path_eq, at_path, nesting}
use Rattle.gl_meaning.specs.Scope.{absent, of_value, Scope, scope, nothing_passed, this_of, arguments_of, bind}
use Rattle.gl_meaning.specs.Eval.{Store, class_at, values_in, eval, eval_all}
use Rattle.gl_meaning.specs.Parts.{Modifier}
use Rattle.gl_meaning.specs.Render.{Piece, Forest}
use Rattle.gl_meaning.specs.Changes.{pieces, node_path, modifiers_on, scopes, Numbers, Sets}

-- the store with the sets laid on, the last one of a field counting
abbrev pub lay : Sets → Store → Store
lay [] store = store
lay (h ∷ hs) store = lay hs (h ∷ store)

-- Steps of an action

abbrev pub no_action : Action
no_action = record { params = []; steps = [] }

abbrev pub no_scope : Scope
no_scope = scope [] [] [] nothing_passed

-- What a step sees: the owner as `this`, its arguments as they stand in the rendering, and the parameters with the plain forms of
-- what the action was given; a missing one is undefined.
abbrev pub action_scope : Forest → Path → List Text → List V → Scope
action_scope f owner params given =
    scope owner (arguments_of (unwrap_or (at_path owner (scopes f)) no_scope)) (bind params (map (λ v. of_value (plain v)) given)) nothing_passed

abbrev pub action_at : App → Path → Text → Action
action_at app owner n = unwrap_or (named n (class_at app owner).actions) no_action

-- What calling a value with arguments adds to the sets so far. A value that is no action adds nothing.
abbrev pub Calls : Type 0
Calls = V → List V → Sets → Sets

-- The steps in order. Expressions are evaluated over the store with the sets so far laid on: a field reads as last set, a getter is
-- evaluated over these fields, an argument reads as in the rendering.
module _ (app : App) (store : Store) (calls : Calls) (s : Scope) where
  -- a step with `when` runs only where that value is true
  abbrev pub runs : Option Expr → Sets → Bool
  runs None sofar = true
  runs (Some e) sofar = truthy (eval app (lay sofar store) s e).value

  abbrev pub run_step : Step → Sets → Sets
  run_step (set_step when f e) sofar =
      if runs when sofar
      then sofar ++ record { instance = this_of s; field = f; value = plain (eval app (lay sofar store) s e).value } ∷ []
      else sofar
  run_step (call_step when a ks es) sofar =
      if runs when sofar
      then calls (properties ks (unwrap_or (last_named a (arguments_of s)) absent).value) (values_in (eval_all app (lay sofar store) s es)) sofar
      else sofar

  abbrev pub run_steps : List Step → Sets → Sets
  run_steps [] sofar = sofar
  run_steps (t ∷ ts) sofar = run_steps ts (run_step t sofar)

-- An action runs with its fixed arguments and then those that it is given. An action that is found in an argument has an owner
-- nearer to the root, so this recurses over the nesting of the owner; `laws::calls_end` says that no further level adds anything.
abbrev pub run_at : ℕ → App → Store → Forest → Calls
run_at (suc n) app store f (action owner name fixed) given sofar =
    let a = action_at app owner name in
    run_steps app store (run_at n app store f) (action_scope f owner a.params (list_of fixed ++ given)) a.steps sofar
run_at _ app store f _ given sofar = sofar

abbrev pub owner_nesting : V → ℕ
owner_nesting (action owner name fixed) = nesting owner
owner_nesting _ = 0

abbrev pub run : App → Store → Forest → Calls
run app store f v given sofar = run_at (owner_nesting v) app store f v given sofar

-- Listeners

-- the value of a modifier's positional argument at a place; a missing one is undefined
abbrev pub argument_value : ℕ → Modifier → V
argument_value i m = at_place undefined i (values_in m.args)

-- A modifier `on` listens for the event whose name is its first argument's text; its second argument is called.
abbrev pub listener : Text → Modifier → Option V
listener name m =
    if bytes_eq m.name (codes "on") && bytes_eq (text_of (argument_value 0 m)) name then Some (argument_value 1 m) else None

abbrev pub is_at : Path → Option Path → Bool
is_at p None = false
is_at p (Some q) = path_eq p q

-- the pieces that are the node at a path
abbrev pub at_node : Path → List Piece → List Piece
at_node p qs = filter (λ q. is_at p (node_path q)) qs

-- what listens at the node at a path for an event's name, in the order of the modifiers
abbrev pub listeners : Forest → Path → Text → List V
listeners f p name = filter_map (listener name) (flat_map modifiers_on (at_node p (pieces f)))

abbrev pub paths_numbered : ℕ → List (Path × ℕ) → List Path
paths_numbered n [] = []
paths_numbered n (e ∷ es) = if nat_eq n e.1 then e.0 ∷ paths_numbered n es else paths_numbered n es

-- each of these called in order, with the payload in plain form
abbrev pub run_all : App → Store → Forest → List V → Plain → Sets → Sets
run_all app store f [] payload sofar = sofar
run_all app store f (v ∷ vs) payload sofar = run_all app store f vs payload (run app store f v (plain payload ∷ []) sofar)

-- Events

-- what is set in order, and the numbers for which there was no such node or no such listener
pub record Applied : Type 0 where
  pub sets : Sets
  pub missing : List ℕ

abbrev pub nothing_applied : Applied
nothing_applied = record { sets = []; missing = [] }

-- Numbers, listeners and arguments are those of the last rendering, for all events of a batch.
module _ (app : App) (store : Store) (f : Forest) (numbers : Numbers) where
  abbrev pub fire_at : ℕ → List V → Plain → Applied → Applied
  fire_at n [] payload a = record { sets = a.sets; missing = a.missing ++ n ∷ [] }
  fire_at n (v ∷ vs) payload a = record { sets = run_all app store f (v ∷ vs) payload a.sets; missing = a.missing }

  abbrev mutual
    pub apply_event : Event → Applied → Applied
    apply_event (set_event x v) a = record { sets = a.sets ++ record { instance = []; field = x; value = plain v } ∷ []; missing = a.missing }
    apply_event (fire n name payload) a = fire_at n (flat_map (λ p. listeners f p name) (paths_numbered n numbers.of)) payload a
    apply_event (batch es) a = apply_events es a

    pub apply_events : Events → Applied → Applied
    apply_events no_events a = a
    apply_events (event e es) a = apply_events es (apply_event e a)

  abbrev pub apply : Event → Applied
  apply e = apply_event e nothing_applied
