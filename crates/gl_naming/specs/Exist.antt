-- That right names exist for what is appended by numbers.
use Rattle.std.specs.Prelude.{◌≡◌, List, [], map, Bool, not}
use Rattle.gl_ast.specs.Template.{Body}
use Rattle.gl_value.specs.Owners.{with_owners}
use Rattle.gl_meaning.specs.App.{Class, App}
use Rattle.gl_meaning.specs.Path.{Path}
use Rattle.gl_meaning.specs.Scope.{Source}
use Rattle.gl_meaning.specs.Eval.{Store}
use Rattle.gl_meaning.specs.Known.{Among}
use Rattle.gl_meaning.specs.Laws.{NoRepeat}
use Rattle.gl_meaning.specs.Manifest.{Manifest, app_of}
use Rattle.gl_meaning.specs.ManifestNames.{KeepsRules}
use Rattle.gl_meaning.specs.Order.{names_of}
use Rattle.gl_meaning.specs.Render.{draw, fits}
use Rattle.gl_plain.specs.State.{State}
use Rattle.gl_plain.specs.Naming.{by_number}
use Rattle.gl_plain.specs.Live.{is_deep}
use Rattle.gl_plain.specs.Grow.{grow_app_as}
use Rattle.gl_plain.specs.Drawn.{drawn_app}
use Rattle.gl_plain.specs.Machine.{StandsFor}
use Rattle.gl_naming.specs.Renamed.{state_with, Right}
use Rattle.gl_naming.specs.Laws.{IsOneToOne, AreApart}

-- no class of the app repeats the name of a field
abbrev pub FieldsDiffer : App → Type 0
FieldsDiffer app = (c : Class) → Among c app.classes → NoRepeat (names_of c.fields)

-- The app of a manifest that keeps the rules is such an app.
abbrev pub RulesDiffer : Type 0
RulesDiffer = (m : Manifest) (templates : List Body) → KeepsRules m → FieldsDiffer (app_of m templates)

-- the store, in what it holds each owner with its other name
abbrev pub store_with : (Path → Path) → Store → Store
store_with f σ = map (λ h. record { instance = h.instance; field = h.field; value = with_owners f h.value }) σ

-- For what is appended by numbers there are names of owners and of sources, given one-to-one, that are right for it.
abbrev pub NamesExist : Type 0
NamesExist =
    (app : App) → FieldsDiffer app → (σ : Store) (st : State) → let r = grow_app_as by_number app σ st in
    (f : Path → Path) × (g : Source → Source) × IsOneToOne f × AreApart g × Right f g [] r.0

-- So what is appended by numbers stands, with these names, for the rendering over the store with these names: that is what it shows, and it
-- is too deep just where that is. No name depends on what is touched.
abbrev pub GrownStands : Type 0
GrownStands =
    (app : App) → FieldsDiffer app → (σ : Store) (st : State) → let r = grow_app_as by_number app σ st in
    (f : Path → Path) × (g : Source → Source) × IsOneToOne f × AreApart g × Right f g [] r.0
    × ((touched : Source → Bool) → let τ = store_with f σ in let now = state_with f g touched r.1 in
    StandsFor app τ τ now r.0 × (drawn_app app now.look r.0 ≡ draw app τ) × (fits (draw app τ) ≡ not (is_deep r.0)))

-- At the beginning no cell was set: what is appended then stands for the first rendering.
abbrev pub FirstStands : Type 0
FirstStands =
    (app : App) → FieldsDiffer app → (st : State) → let r = grow_app_as by_number app [] st in
    (f : Path → Path) × (g : Source → Source) × IsOneToOne f × AreApart g × Right f g [] r.0
    × ((touched : Source → Bool) → let now = state_with f g touched r.1 in
    StandsFor app [] [] now r.0 × (drawn_app app now.look r.0 ≡ draw app []) × (fits (draw app []) ≡ not (is_deep r.0)))
