-- The stores of a session hold no owner of an action.
use Rattle.gl_meaning.specs.Laws.{Owners, HeldIn}
use Rattle.std.proofs.Common.{ℕ, zero, suc, List, [], ◌∷◌, ◌++◌, map, Bool, true, false, Option, Some, None}
use Rattle.std.specs.Prelude.{if◌then◌else◌, unwrap_or, flat_map, ◌&&◌}
use Rattle.std.specs.Str.{bytes_eq}
use Rattle.gl_base.specs.Texts.{Text}
use Rattle.gl_meaning.specs.App.{Event, Events, set_event, Step, no_events, call_step, set_step, event, App, fire, batch}
use Rattle.gl_meaning.proofs.Reach
use Rattle.gl_meaning.specs.Actions
use Rattle.gl_meaning.specs.Changes
use Rattle.gl_meaning.specs.Eval
use Rattle.gl_meaning.specs.Path
use Rattle.gl_meaning.specs.Render
use Rattle.gl_meaning.specs.Scope
use Rattle.gl_meaning.specs.Session
use Rattle.gl_ast.specs.Template
use Rattle.gl_value.specs.Value

-- for a property of owners, whichever it is: there is none
module _ (P : Path.Path → Type 0) where
  plain-append : (xs ys : List Eval.Held) → HeldIn P xs → HeldIn P ys → HeldIn P (xs ++ ys)
  plain-append [] ys g k = k
  plain-append (x ∷ xs) ys g k = (g.0, plain-append xs ys g.1 k)

  plain-lay : (sets : Changes.Sets) (σ : Eval.Store) → HeldIn P sets → HeldIn P σ → HeldIn P (Actions.lay sets σ)
  plain-lay [] σ g k = k
  plain-lay (x ∷ xs) σ g k = plain-lay xs (x ∷ σ) g.1 (g.0, k)

  -- what a cell holds
  OptionPlain : Option Path.V → Type 0
  OptionPlain None = Unit {0}
  OptionPlain (Some x) = Owners P x

  plain-held : (i : Path.Path) (x : Text) (σ : Eval.Store) → HeldIn P σ → OptionPlain (Eval.held_at i x σ)
  unfolding OptionPlain
  plain-held i x [] g = tt
  plain-held i x (h ∷ σ) g = chosen (Path.path_eq i h.instance && bytes_eq x h.field) (plain-held i x σ g.1) where
    chosen : (b : Bool) → OptionPlain (Eval.held_at i x σ) → OptionPlain (if b then Some h.value else Eval.held_at i x σ)
    chosen true k = g.0
    chosen false k = k

  plain-unwrap : (m : Option Path.V) (z : Template.Plain) → OptionPlain m → Owners P (unwrap_or m (Value.plain z))
  unfolding OptionPlain
  plain-unwrap None z g = Reach.owners_plain P z
  plain-unwrap (Some x) z g = g

  pub cell_plain : (app : App) (σ : Eval.Store) → HeldIn P σ → (i : Path.Path) (x : Text) → Owners P (Eval.cell_value app σ i x)
  cell_plain app σ g i x = plain-unwrap (Eval.held_at i x σ) _ (plain-held i x σ g)

  plain-cells : (app : App) (σ : Eval.Store) → HeldIn P σ → (i : Path.Path) (fs : List (Text × Template.Plain)) → HeldIn P (map (λ f. record { instance = i; field = f.0; value = Eval.cell_value app σ i f.0 }) fs)
  plain-cells app σ g i [] = tt
  plain-cells app σ g i (f ∷ fs) = (cell_plain app σ g i f.0, plain-cells app σ g i fs)

  plain-settle : (app : App) (σ : Eval.Store) → HeldIn P σ → (js : List Path.Path) → HeldIn P (flat_map (Changes.cells_of app σ) js)
  plain-settle app σ g [] = tt
  plain-settle app σ g (i ∷ js) = plain-append (Changes.cells_of app σ i) _ (plain-cells app σ g i (Eval.class_at app i).fields) (plain-settle app σ g js)

  plain-if : (b : Bool) (x y : Changes.Sets) → HeldIn P x → HeldIn P y → HeldIn P (if b then x else y)
  plain-if true x y g k = g
  plain-if false x y g k = k

  module _ (app : App) (σ : Eval.Store) where
    module _ (calls : Actions.Calls) (h : (x : Path.V) (given : List Path.V) (z : Changes.Sets) → HeldIn P z → HeldIn P (calls x given z)) (w : Scope.Scope) where
      plain-step : (q : Step) (z : Changes.Sets) → HeldIn P z → HeldIn P (Actions.run_step app σ calls w q z)
      plain-step (set_step u f x) z g = plain-if (Actions.runs app σ calls w u z) _ z (plain-append z _ g (Reach.owners_plain_of P (Eval.eval app (Actions.lay z σ) w x).value, tt)) g
      plain-step (call_step u m ks es) z g = plain-if (Actions.runs app σ calls w u z) _ z (h _ (Eval.values_in (Eval.eval_all app (Actions.lay z σ) w es)) z g) g

      plain-steps : (qs : List Step) (z : Changes.Sets) → HeldIn P z → HeldIn P (Actions.run_steps app σ calls w qs z)
      plain-steps [] z g = g
      plain-steps (q ∷ qs) z g = plain-steps qs (Actions.run_step app σ calls w q z) (plain-step q z g)

    module _ (f : Render.Forest) where
      plain-run : (m : ℕ) (x : Path.V) (given : List Path.V) (z : Changes.Sets) → HeldIn P z → HeldIn P (Actions.run_at m app σ f x given z)
      plain-run zero x given z g = g
      plain-run (suc m) (Value.action i k vs) given z g =
          let q = Actions.action_at app i k in
          plain-steps (Actions.run_at m app σ f) (plain-run m) (Actions.action_scope f i q.params (Value.list_of vs ++ given)) q.steps z g
      plain-run (suc m) Value.undefined given z g = g
      plain-run (suc m) Value.null given z g = g
      plain-run (suc m) (Value.boolean b) given z g = g
      plain-run (suc m) (Value.integer b) given z g = g
      plain-run (suc m) (Value.text b) given z g = g
      plain-run (suc m) (Value.list b) given z g = g
      plain-run (suc m) (Value.pairs b) given z g = g

      plain-all : (xs : List Path.V) (d : Template.Plain) (z : Changes.Sets) → HeldIn P z → HeldIn P (Actions.run_all app σ f xs d z)
      plain-all [] d z g = g
      plain-all (x ∷ xs) d z g = plain-all xs d (Actions.run app σ f x (Value.plain d ∷ []) z) (plain-run (Actions.owner_nesting x) x (Value.plain d ∷ []) z g)

      module _ (ns : Changes.Numbers) where
        plain-fire : (m : ℕ) (xs : List Path.V) (d : Template.Plain) (z : Actions.Applied) → HeldIn P z.sets → HeldIn P (Actions.fire_at app σ f ns m xs d z).sets
        plain-fire m [] d z g = g
        plain-fire m (x ∷ xs) d z g = plain-all (x ∷ xs) d z.sets g

        mutual
          plain-event : (q : Event) (z : Actions.Applied) → HeldIn P z.sets → HeldIn P (Actions.apply_event app σ f ns q z).sets
          plain-event (set_event x y) z g = plain-append z.sets _ g (Reach.owners_plain P y, tt)
          plain-event (fire m name d) z g = plain-fire m (flat_map (λ i. Actions.listeners f i name) (Actions.paths_numbered m ns.of)) d z g
          plain-event (batch qs) z g = plain-events qs z g

          plain-events : (qs : Events) (z : Actions.Applied) → HeldIn P z.sets → HeldIn P (Actions.apply_events app σ f ns qs z).sets
          plain-events no_events z g = g
          plain-events (event q qs) z g = plain-events qs (Actions.apply_event app σ f ns q z) (plain-event q z g)

  plain-applied : (app : App) (st : Session.State) (q : Option Event) → HeldIn P (Session.applied app st q).sets
  plain-applied app st None = tt
  plain-applied app st (Some q) = plain-event app st.store st.rendering st.numbers q (record { sets = []; missing = [] }) tt

  -- a turn keeps it
  pub turn_plain : (app : App) (st : Session.State) (q : Option Event) → HeldIn P st.store → HeldIn P (Session.turn_of app st q (Session.applied app st q) (Render.draw app (Actions.lay (Session.applied app st q).sets st.store))).state.store
  turn_plain app st q g =
      let sets = (Session.applied app st q).sets in
      plain-settle app (Actions.lay sets st.store) (plain-lay sets st.store (plain-applied app st q) g) (Changes.instances (Render.draw app (Actions.lay sets st.store)))
