-- What a step of an action adds.
use Rattle.std.specs.Prelude.{ℕ, List, [], ◌∷◌, unwrap_or}
use Rattle.gl_base.specs.Texts.{Text}
use Rattle.gl_base.specs.Names.{last_named}
use Rattle.gl_value.specs.Value.{Value, undefined, plain, properties}
use Rattle.gl_ast.specs.Template.{Expr, Exprs}
use Rattle.gl_meaning.specs.Changes.{Sets}
use Rattle.gl_meaning.specs.Path.{V}
use Rattle.gl_meaning.specs.Scope.{Pair, absent}
use Rattle.gl_meaning.specs.Eval.{eval, eval_all}
use Rattle.gl_meaning.specs.Actions.{Calls, run_at, run}
use Rattle.gl_actions.specs.World.{World, app_in, store_in, arguments_in}
use Rattle.gl_actions.specs.Frames.{this_in, scope_in}
use Rattle.gl_actions.specs.Sets.{Set}
use Rattle.gl_actions.specs.declared.frame.Frame.{Frame}
use Rattle.gl_actions.specs.declared.frame.Here.{Here}

-- parameters with the plain forms of what is given: a missing one is undefined, a surplus one is ignored
abbrev pub bind_values : List Text → List (Value ℕ) → List (Text × Value ℕ)
bind_values [] vs = []
bind_values (n ∷ ns) [] = (n, undefined) ∷ bind_values ns []
bind_values (n ∷ ns) (v ∷ vs) = (n, plain v) ∷ bind_values ns vs

-- what an expression gives, whatever getters it mentions
abbrev pub given_at : World → Frame → List (Text × Value ℕ) → List Set → Expr → Pair
given_at w f ps ss e = eval (app_in w) (store_in w ss) (scope_in w f ps) e

abbrev pub all_at : World → Frame → List (Text × Value ℕ) → List Set → Exprs → List Pair
all_at w f ps ss es = eval_all (app_in w) (store_in w ss) (scope_in w f ps) es

abbrev pub given_in : World → Here → Expr → Pair
given_in w h e = given_at w h.frame h.params.now h.sets.now e

abbrev pub all_in : World → Here → Exprs → List Pair
all_in w h es = all_at w h.frame h.params.now h.sets.now es

-- what a step calls: an argument, along further names
abbrev pub callee_in : World → Frame → Text → List Text → V
callee_in w f n ks = properties ks (unwrap_or (last_named n (arguments_in w (this_in f))) absent).value

-- calls of which so many may nest
abbrev pub calls_in : World → ℕ → Calls
calls_in w n = run_at n (app_in w) w.store w.forest

-- each of these called in order with one value
abbrev pub runs_all : World → List V → V → Sets → Sets
runs_all w [] payload sofar = sofar
runs_all w (v ∷ vs) payload sofar = runs_all w vs payload (run (app_in w) w.store w.forest v (payload ∷ []) sofar)
