-- Events, one after another.
use Rattle.std.proofs.Common.{◌≡◌, ℕ, ◌+◌, ◌<◌, ◌≤◌, List, [], ◌∷◌, ◌++◌, drop, length, get_or, refl, sym, ap, ◌∙◌}
use Rattle.std.proofs.lemmas.List.{drop_all}
use Rattle.gl_base.specs.Texts.{Text}
use Rattle.gl_base.proofs.Lists.{drop_item}
use Rattle.gl_value.specs.Value as v
use Rattle.gl_value.specs.Value.{plain}
use Rattle.gl_ast.specs.Template.{Plain}
use Rattle.gl_meaning.specs.App.{Event, set_event, fire, events_of}
use Rattle.gl_meaning.specs.Path.{V}
use Rattle.gl_meaning.specs.Changes.{Numbers, Sets}
use Rattle.gl_meaning.specs.Actions.{Applied, run_all, fire_at, apply_event, apply_events}
use Rattle.gl_meaning.specs.View.{event_view, seen_events}
use Rattle.gl_meaning.specs.declared.script.Event.{Event as CodeEvent}
use Rattle.gl_actions.specs.World.{World, app_in}
use Rattle.gl_actions.proofs.Running.{twice_plain}
use Rattle.gl_events.specs.Hears.{listeners_at}

module _ (w : World) (numbers : Numbers) where
  abbrev one : Event → Applied → Applied
  one e a = apply_event (app_in w) w.store w.forest numbers e a

  abbrev all : List CodeEvent → Applied → Applied
  all es a = apply_events (app_in w) w.store w.forest numbers (events_of (seen_events es)) a

  abbrev with : Sets → List ℕ → Applied
  with sets missing = record { sets = sets; missing = missing }

  -- a field of the root
  pub set_adds : (x : Text) (z : v.Value ℕ) (sets sofar : Sets) (missing : List ℕ) → sets ≡ sofar ++ record { instance = []; field = x; value = plain z } ∷ []
      → with sets missing ≡ one (set_event x (plain z)) (with sofar missing)
  set_adds x z sets sofar missing e = ap (λ ss. with ss missing) (e ∙ ap (λ y. sofar ++ record { instance = []; field = x; value = y } ∷ []) (sym (twice_plain z)))

  -- what nothing listens to is missing
  pub fire_misses : (q : ℕ) (x : Text) (payload : Plain) (sofar : Sets) (missing more : List ℕ) → listeners_at w numbers q x ≡ [] → more ≡ missing ++ q ∷ []
      → with sofar more ≡ one (fire q x payload) (with sofar missing)
  fire_misses q x payload sofar missing more none e = ap (with sofar) e ∙ ap (λ vs. fire_at (app_in w) w.store w.forest numbers q vs payload (with sofar missing)) (sym none)

  -- what something listens to adds what its actions set
  pub fire_adds : (q : ℕ) (x : Text) (payload : Plain) (sets sofar : Sets) (missing : List ℕ) → (listeners_at w numbers q x ≡ [] → ⊥)
      → sets ≡ run_all (app_in w) w.store w.forest (listeners_at w numbers q x) payload sofar → with sets missing ≡ one (fire q x payload) (with sofar missing)
  fire_adds q x payload sets sofar missing some e = ap (λ ss. with ss missing) e ∙ by (listeners_at w numbers q x) some where
    by : (vs : List V) → (vs ≡ [] → ⊥) → with (run_all (app_in w) w.store w.forest vs payload sofar) missing ≡ fire_at (app_in w) w.store w.forest numbers q vs payload (with sofar missing)
    by [] h = absurd (h refl)
    by (x ∷ vs) h = refl

  -- one event more
  pub events_on : (xs : List CodeEvent) (i : ℕ) (x : CodeEvent) (sofar more whole : Applied) → i < length xs → x ≡ get_or xs i x → more ≡ one (event_view x) sofar
      → all (drop i xs) sofar ≡ whole → all (drop (i + 1) xs) more ≡ whole
  events_on xs i x sofar more whole lt is e so = ap (all (drop (i + 1) xs)) e ∙ (ap (λ ys. all ys sofar) (sym (drop_item xs i x lt is)) ∙ so)

  pub events_end : (xs : List CodeEvent) (i : ℕ) (sofar whole : Applied) → length xs ≤ i → all (drop i xs) sofar ≡ whole → sofar ≡ whole
  events_end xs i sofar whole le so = ap (λ ys. all ys sofar) (sym (drop_all i xs le)) ∙ so
