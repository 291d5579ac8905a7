-- What an event sets has no owner of an action in it.
use Rattle.std.proofs.Common.{ℕ, zero, suc, List, [], ◌∷◌, ◌++◌, Bool, true, false, Some}
use Rattle.std.specs.Prelude.{if◌then◌else◌, flat_map}
use Rattle.gl_value.specs.Value as v
use Rattle.gl_ast.specs.Template.{Plain}
use Rattle.gl_meaning.specs.App.{Event, Events, set_event, Step, no_events, call_step, set_step, event, App, fire, batch}
use Rattle.gl_meaning.specs.Path.{V}
use Rattle.gl_meaning.specs.Scope.{Scope}
use Rattle.gl_meaning.specs.Eval.{Store, values_in, eval, eval_all}
use Rattle.gl_meaning.specs.Render.{Forest}
use Rattle.gl_meaning.specs.Changes.{Sets, Numbers}
use Rattle.gl_meaning.specs.Actions
use Rattle.gl_meaning.specs.Actions.{lay}
use Rattle.gl_meaning.specs.Laws.{NoPath, HoldsNoAction}
use Rattle.gl_meaning.specs.Session.{State, applied}
use Rattle.gl_meaning.proofs.Reach.{owners_plain, owners_plain_of}

both : (xs ys : Sets) → HoldsNoAction xs → HoldsNoAction ys → HoldsNoAction (xs ++ ys)
both [] ys g k = k
both (x ∷ xs) ys g k = (g.0, both xs ys g.1 k)

pub laid_plain : (sets : Sets) (σ : Store) → HoldsNoAction sets → HoldsNoAction σ → HoldsNoAction (lay sets σ)
laid_plain [] σ g k = k
laid_plain (x ∷ xs) σ g k = laid_plain xs (x ∷ σ) g.1 (g.0, k)

one_of : (b : Bool) (x y : Sets) → HoldsNoAction x → HoldsNoAction y → HoldsNoAction (if b then x else y)
one_of true x y g k = g
one_of false x y g k = k

module _ (app : App) (σ : Store) where
  module _ (calls : Actions.Calls) (h : (x : V) (given : List V) (z : Sets) → HoldsNoAction z → HoldsNoAction (calls x given z)) (w : Scope) where
    step_plain : (q : Step) (z : Sets) → HoldsNoAction z → HoldsNoAction (Actions.run_step app σ calls w q z)
    step_plain (set_step u f x) z g = one_of (Actions.runs app σ calls w u z) _ z (both z _ g (owners_plain_of NoPath (eval app (lay z σ) w x).value, tt)) g
    step_plain (call_step u m ks es) z g = one_of (Actions.runs app σ calls w u z) _ z (h _ (values_in (eval_all app (lay z σ) w es)) z g) g

    steps_plain : (qs : List Step) (z : Sets) → HoldsNoAction z → HoldsNoAction (Actions.run_steps app σ calls w qs z)
    steps_plain [] z g = g
    steps_plain (q ∷ qs) z g = steps_plain qs (Actions.run_step app σ calls w q z) (step_plain q z g)

  module _ (f : Forest) (ns : Numbers) where
    run_plain : (m : ℕ) (x : V) (given : List V) (z : Sets) → HoldsNoAction z → HoldsNoAction (Actions.run_at m app σ f x given z)
    run_plain zero x given z g = g
    run_plain (suc m) (v.action i k vs) given z g =
        let q = Actions.action_at app i k in
        steps_plain (Actions.run_at m app σ f) (run_plain m) (Actions.action_scope f i q.params (v.list_of vs ++ given)) q.steps z g
    run_plain (suc m) v.undefined given z g = g
    run_plain (suc m) v.null given z g = g
    run_plain (suc m) (v.boolean b) given z g = g
    run_plain (suc m) (v.integer b) given z g = g
    run_plain (suc m) (v.text b) given z g = g
    run_plain (suc m) (v.list b) given z g = g
    run_plain (suc m) (v.pairs b) given z g = g

    all_plain : (xs : List V) (d : Plain) (z : Sets) → HoldsNoAction z → HoldsNoAction (Actions.run_all app σ f xs d z)
    all_plain [] d z g = g
    all_plain (x ∷ xs) d z g = all_plain xs d (Actions.run app σ f x (v.plain d ∷ []) z) (run_plain (Actions.owner_nesting x) x (v.plain d ∷ []) z g)

    fire_plain : (m : ℕ) (xs : List V) (d : Plain) (z : Actions.Applied) → HoldsNoAction z.sets → HoldsNoAction (Actions.fire_at app σ f ns m xs d z).sets
    fire_plain m [] d z g = g
    fire_plain m (x ∷ xs) d z g = all_plain (x ∷ xs) d z.sets g

    mutual
      event_plain : (q : Event) (z : Actions.Applied) → HoldsNoAction z.sets → HoldsNoAction (Actions.apply_event app σ f ns q z).sets
      event_plain (set_event x y) z g = both z.sets _ g (owners_plain NoPath y, tt)
      event_plain (fire m name d) z g = fire_plain m (flat_map (λ i. Actions.listeners f i name) (Actions.paths_numbered m ns.of)) d z g
      event_plain (batch qs) z g = events_plain qs z g

      events_plain : (qs : Events) (z : Actions.Applied) → HoldsNoAction z.sets → HoldsNoAction (Actions.apply_events app σ f ns qs z).sets
      events_plain no_events z g = g
      events_plain (event q qs) z g = events_plain qs (Actions.apply_event app σ f ns q z) (event_plain q z g)

pub sets_plain : (app : App) (s : State) (e : Event) → HoldsNoAction (applied app s (Some e)).sets
sets_plain app s e = event_plain app s.store s.rendering s.numbers e (record { sets = []; missing = [] }) tt
