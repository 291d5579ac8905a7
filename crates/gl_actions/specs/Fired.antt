-- What an event answers.
use Rattle.std.specs.Prelude.{◌≡◌, ℕ, List, [], flat_map}
use Rattle.gl_base.specs.Texts.{Text}
use Rattle.gl_value.specs.Value.{Value, plain}
use Rattle.gl_meaning.specs.Path.{Path}
use Rattle.gl_meaning.specs.Actions.{listeners, run_all}
use Rattle.gl_mods.specs.Mods as m
use Rattle.gl_opc.specs.declared.app.App.{App}
use Rattle.gl_code.specs.declared.page.Page.{Page}
use Rattle.gl_actions.specs.Sets as s
use Rattle.gl_actions.specs.World.{World, app_in, sets_in}
use Rattle.gl_actions.specs.Reads.{Reads, Listens, mods_at}
use Rattle.gl_actions.specs.Own.{names_in, AddsOwn}
use Rattle.gl_actions.specs.declared.event.Fired.{Fired}
use Rattle.gl_actions.specs.declared.event.Fired.TheVariants.{Ran, NoListener}

-- what the modifiers `on` of the nodes with a number call at an event
abbrev pub called_at : App → Page → ℕ → Text → List (Value ℕ)
called_at a page k event = m.listeners event (mods_at (names_in a) page k)

-- Nothing listens, and then nothing does in the rendering; or there are the sets so far, and then those that the actions add in the rendering,
-- called in order with the payload in plain form.
abbrev pub Answers : App → Page → List s.Set → ℕ → Text → Value ℕ → Fired → Type 0
Answers a page sofar k event payload NoListener =
    (called_at a page k event ≡ []) × ((w : World) (ps : List Path) → Reads a page w → Listens w page k ps → flat_map (λ p. listeners w.forest p event) ps ≡ [])
Answers a page sofar k event payload (Ran sets) =
    (called_at a page k event ≡ [] → ⊥)
    × ((w : World) (ps : List Path) → Reads a page w → Listens w page k ps
    → sets_in w sets ≡ run_all (app_in w) w.store w.forest (flat_map (λ p. listeners w.forest p event) ps) (plain payload) (sets_in w sofar))

-- What is added are sets of fields of the page's instances.
abbrev pub AnswersOwn : App → Page → List s.Set → Fired → Type 0
AnswersOwn a page sofar NoListener = Unit {0}
AnswersOwn a page sofar (Ran sets) = AddsOwn a page sofar sets
