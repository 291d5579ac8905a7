-- The laws of naming.
use Rattle.std.specs.Prelude.{◌≡◌, ◌<◌, ℕ, List, [], Bool, Option}
use Rattle.gl_ast.specs.Template.{Exprs, Part}
use Rattle.gl_meaning.specs.App.{App}
use Rattle.gl_meaning.specs.Path.{Path}
use Rattle.gl_meaning.specs.Scope.{Source}
use Rattle.gl_meaning.specs.Eval.{Store}
use Rattle.gl_plain.specs.Ids.{a_ref, Id}
use Rattle.gl_plain.specs.State.{MScope, inst_of, Thing, State, pair_of}
use Rattle.gl_plain.specs.Naming.{by_number}
use Rattle.gl_plain.specs.Binding.{BoundAll, bind_exprs_as, bind_exprs, place}
use Rattle.gl_plain.specs.Parts.{mwritten_parts}
use Rattle.gl_plain.specs.Tags.{Waiting, bind_written, bind_written_as, flush_parts, install_parts}
use Rattle.gl_plain.specs.Live.{Live, times}
use Rattle.gl_plain.specs.Grow.{grow_app, grow_app_as}
use Rattle.gl_plain.specs.Renew.{renew_app, renew_app_as}
use Rattle.gl_plain.specs.Machine.{StandsFor}
use Rattle.gl_naming.specs.Renamed.{pair_with, there_with, state_with, bound_all_with, placed_with, parts_with, attrs_with, mods_with, run_with, OwnerRight, ScopeRight, StoresAgree, Right}
use Rattle.gl_naming.specs.Numbered.{number, IsNumbered, Unlisted}

abbrev pub IsOneToOne : (Path → Path) → Type 0
IsOneToOne f = (o p : Path) → f o ≡ f p → o ≡ p

-- With other names, given one-to-one to owners, each reference means what it meant, with these names.
abbrev pub MeansRenamed : Type 0
MeansRenamed =
    (f : Path → Path) (g : Source → Source) → IsOneToOne f → (look : Id → Option Thing) (r : ℕ)
    → pair_of (λ q. there_with f g (look q)) r ≡ pair_with f g (pair_of look r)

-- What is bound by paths is what is bound by numbers, with the names of paths: the same references, and the same state but for names and
-- for what is touched.
abbrev pub BoundRenamed : Type 0
BoundRenamed =
    (f : Path → Path) (g : Source → Source) (touched : Source → Bool) (app : App) (ms : MScope) → OwnerRight f g (inst_of ms)
    → (es : Exprs) (st : State) → bind_exprs app ms es (state_with f g touched st) ≡ bound_all_with f g touched (bind_exprs_as by_number app ms es st)

-- So with a tag's parts.
abbrev pub PartsRenamed : Type 0
PartsRenamed =
    (f : Path → Path) (g : Source → Source) (touched : Source → Bool) (app : App) (ms : MScope) → ScopeRight f g ms
    → (ps : List Part) (st : State)
    → bind_written app (mwritten_parts ms ps) (state_with f g touched st) ≡ parts_with f g touched (bind_written_as by_number app (mwritten_parts ms ps) st)

-- A position is placed with the same pairs but for names, and a tag's attributes and modifiers are given alike.
abbrev pub PlacedRenamed : Type 0
PlacedRenamed =
    (f : Path → Path) (g : Source → Source) (touched : Source → Bool) → IsOneToOne f
    → ((b : BoundAll) → place (bound_all_with f g touched b) ≡ placed_with f g touched (place b))
    × ((ps : List Waiting) (st : State) → flush_parts ps (state_with f g touched st) ≡ attrs_with f g touched (flush_parts ps st))
    × ((n i : ℕ) (ps : List Waiting) (st : State) → install_parts n i ps (state_with f g touched st) ≡ mods_with f g touched (install_parts n i ps st))

-- What is appended by paths is what is appended by numbers: the same tree, with the same ids, and the same state but for names and for
-- what is touched. The names are right for the tree that was appended.
abbrev pub GrownRenamed : Type 0
GrownRenamed =
    (f : Path → Path) (g : Source → Source) (touched : Source → Bool) → IsOneToOne f → (app : App) (σ τ : Store) → StoresAgree f g app σ τ → (st : State)
    → let r = grow_app_as by_number app σ st in Right f g [] r.0 → grow_app app τ (state_with f g touched st) ≡ run_with f g touched r

abbrev pub AreApart : (Source → Source) → Type 0
AreApart g = (x y : Source) → g x ≡ g y → x ≡ y

-- Of the sources of the references with numbers below n, just the same are touched by their other names.
abbrev pub TouchedAlike : (Source → Source) → ℕ → (Source → Bool) → (Source → Bool) → Type 0
TouchedAlike g n touched by_numbers = (k : ℕ) → k < n → touched (g (number k)) ≡ by_numbers (number k)

-- Where a machine stands by paths, what is updated by paths is what is updated by numbers: the same tree, with the same ids, and the same
-- state but for names and for what is touched. The names are right for the new tree. Of the sources that were there the same were touched
-- and are touched after it, and no modifier of the old tree was installed or updated in this turn before. So neither that a new source
-- counts as touched by numbers, nor that a modifier which goes leaves the lists of the turn, is seen.
abbrev pub UpdatedRenamed : Type 0
UpdatedRenamed =
    (f : Path → Path) (g : Source → Source) (touched : Source → Bool) → IsOneToOne f → AreApart g → (app : App) (σ τ : Store) → StoresAgree f g app σ τ
    → (ρ ω : Store) (st : State) (l : Live) → StandsFor app ρ ω (state_with f g touched st) l
    → IsNumbered (st.next a_ref) st.look → TouchedAlike g (st.next a_ref) touched st.touched → Unlisted (λ q. times q l) st
    → let r = renew_app_as by_number app σ l st in let z = renew_app app τ l (state_with f g touched st) in
    Right f g [] r.0 → (z ≡ run_with f g z.1.touched r) × TouchedAlike g (st.next a_ref) z.1.touched r.1.touched
