-- The laws of the machine over words. Those that say that it does what the machine over trees does, and that it ends, hold for any naming.
use Rattle.std.specs.Prelude.{◌≡◌, ◌≤◌, ℕ, List, true, false, Some}
use Rattle.gl_ast.specs.Template.{Body}
use Rattle.gl_meaning.specs.App.{App}
use Rattle.gl_meaning.specs.Path.{Path}
use Rattle.gl_meaning.specs.Scope.{Scope}
use Rattle.gl_meaning.specs.Eval.{Store}
use Rattle.gl_meaning.specs.Manifest.{app_of}
use Rattle.gl_meaning.specs.Render.{draw, fits}
use Rattle.gl_opc.specs.Numbers.{class_number}
use Rattle.gl_opc.specs.IsApp.{IsAppWith}
use Rattle.gl_plain.specs.Ids.{a_ref}
use Rattle.gl_plain.specs.State.{MScope, State}
use Rattle.gl_plain.specs.State as s
use Rattle.gl_plain.specs.InScope.{InScope}
use Rattle.gl_plain.specs.Live.{Live, is_deep}
use Rattle.gl_plain.specs.Naming.{Naming}
use Rattle.gl_plain.specs.Grow.{grow_app_as}
use Rattle.gl_plain.specs.Renew.{renew_app_as}
use Rattle.gl_plain.specs.Machine.{StandsFor, OnlyTouched}
use Rattle.gl_machine.specs.Code.{Code, live_of}
use Rattle.gl_machine.specs.Outcome.{Outcome, ok, deep, lost, Ends}
use Rattle.gl_machine.specs.Nesting.{Nests}
use Rattle.gl_machine.specs.Appended.{Answers}
use Rattle.gl_machine.specs.Sight.{Passing}
use Rattle.gl_machine.specs.RenewCode.{start}
use Rattle.gl_machine.specs.Env.{Env, texts_of, seen}
use Rattle.gl_machine.specs.Placed.{Fits, BodyThere, Follows, RunsRight_as, RunsEnd}
use Rattle.gl_machine.specs.Step.{run_for_as, run_for}
use Rattle.gl_machine.specs.Root.{PlacedRoot, append_page_as, renew_root_code_as, append_page, renew_root_code}

-- The programs are those of the app, as a loaded application keeps them: they lower its templates and its getters, and no getter reaches
-- itself.
abbrev pub AllLowered : Env → Type 0
AllLowered env = (templates : List Body) × (env.app ≡ app_of env.manifest templates) × IsAppWith env.manifest templates env.programs

-- What is run from an address appends what the tree says.
abbrev pub WordsAppend : Type 0
WordsAppend = (naming : Naming) (env : Env) (store : Store) → AllLowered env → (n : ℕ) → RunsRight_as naming env store (run_for_as naming env store n)

-- In a scope of now it stands for the body there and shows its rendering, changes nothing that was there, and has ids that were never given;
-- or the rendering nests too deep.
abbrev pub WordsStand : Type 0
WordsStand =
    (env : Env) (store : Store) → AllLowered env → (c : ℕ) (ms : MScope) (w : Passing) → Fits env c ms w
    → (from : ℕ) (b : Body) → BodyThere env c (texts_of (s.locals_in ms)) from b → (p : Path) (m : ℕ) (st : State)
    → (low : ℕ) (scope : Scope) → low ≤ st.next a_ref → InScope env.app store low st.look ms scope
    → (n : ℕ) → Answers env.app store m low scope ms p b st (run_for env store n (start (seen env c ms w) from p m) st)

-- It ends.
abbrev pub WordsEnd : Type 0
WordsEnd = (naming : Naming) (env : Env) (store : Store) → AllLowered env → RunsEnd env store (run_for_as naming env store)

abbrev pub PageEnds : Type 0
PageEnds =
    (naming : Naming) (env : Env) (store : Store) → AllLowered env → (q : ℕ) → class_number env.manifest env.app.root ≡ Some q → (st : State)
    → Ends (λ n. append_page_as naming env.app.limit env store (run_for_as naming env store n) q st)

-- The whole page, appended and updated within n steps for each body that is appended.
abbrev pub PageAppends : Type 0
PageAppends =
    (naming : Naming) (env : Env) (store : Store) → AllLowered env → (n q : ℕ) → class_number env.manifest env.app.root ≡ Some q → (st : State)
    → Follows (PlacedRoot env) live_of is_deep (append_page_as naming env.app.limit env store (run_for_as naming env store n) q st) (grow_app_as naming env.app store st)

abbrev pub PageRenews : Type 0
PageRenews =
    (naming : Naming) (env : Env) (store : Store) → AllLowered env → (n : ℕ) (k : Code) (st : State) → PlacedRoot env k
    → Follows (PlacedRoot env) live_of is_deep (renew_root_code_as naming env.app.limit (run_for_as naming env store n) k st) (renew_app_as naming env.app store (live_of k) st)

-- Where a machine stands for a rendering that fits, components nest no deeper than they may.
abbrev pub StandingNests : Type 0
StandingNests = (app : App) (σ τ : Store) (st : State) (l : Live) → StandsFor app σ τ st l → is_deep l ≡ false → Nests l app.limit

-- There an update ends.
abbrev pub PageRenewEnds : Type 0
PageRenewEnds =
    (naming : Naming) (env : Env) (store : Store) → AllLowered env → (k : Code) → PlacedRoot env k → Nests (live_of k) env.app.limit → (st : State)
    → Ends (λ n. renew_root_code_as naming env.app.limit (run_for_as naming env store n) k st)

-- So the page that was appended stands for the rendering over the store, and it is well placed; or the rendering nests too deep.
abbrev pub PageAnswers : Env → Store → Outcome (Code × State) → Type 0
PageAnswers env store (ok x) = PlacedRoot env x.0 × StandsFor env.app store store x.1 (live_of x.0) × (fits (draw env.app store) ≡ true)
PageAnswers env store deep = fits (draw env.app store) ≡ false
PageAnswers env store lost = Unit {0}

abbrev pub PageStands : Type 0
PageStands =
    (env : Env) (store : Store) → AllLowered env → (n q : ℕ) → class_number env.manifest env.app.root ≡ Some q → (st : State)
    → PageAnswers env store (append_page env.app.limit env store (run_for env store n) q st)

-- The same of a page that stood for the rendering over another store and is updated.
abbrev pub PageUpdates : Type 0
PageUpdates =
    (env : Env) (σ τ : Store) → AllLowered env → (n : ℕ) (k : Code) (st : State) → PlacedRoot env k → StandsFor env.app σ τ st (live_of k)
    → OnlyTouched env.app σ τ st → PageAnswers env τ (renew_root_code env.app.limit (run_for env τ n) k st)
