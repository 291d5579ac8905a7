-- A machine that names by numbers, from turn to turn: what is known of it between two turns, and what an update makes of it.
use Rattle.std.specs.Prelude.{◌≡◌, ◌<◌, ◌⊎◌, ℕ, List, [], ◌∷◌, map, Bool, true, ◌||◌}
use Rattle.gl_base.specs.Texts.{Text}
use Rattle.gl_meaning.specs.Actions.{lay}
use Rattle.gl_meaning.specs.App.{App}
use Rattle.gl_meaning.specs.Path.{Path, V}
use Rattle.gl_meaning.specs.Scope.{Source, cell}
use Rattle.gl_meaning.specs.Eval.{Held, Store, cell_value}
use Rattle.gl_meaning.specs.Changes.{settle}
use Rattle.gl_meaning.specs.Known.{Among}
use Rattle.gl_meaning.specs.Render.{draw}
use Rattle.gl_meaning.specs.Laws.{NoPath, Owners, HoldsNoAction}
use Rattle.gl_plain.specs.Ids.{a_ref, an_instance, Kind, Id}
use Rattle.gl_plain.specs.State.{State, source_eq, touch}
use Rattle.gl_plain.specs.Turns.{begin}
use Rattle.gl_plain.specs.Naming.{by_number}
use Rattle.gl_plain.specs.Live.{Live, times}
use Rattle.gl_plain.specs.Laid.{rest, CellsHold}
use Rattle.gl_plain.specs.Grow.{grow_app_as}
use Rattle.gl_plain.specs.Renew.{renew_app, renew_app_as}
use Rattle.gl_plain.specs.Machine.{StandsFor, OnlyTouched}
use Rattle.gl_naming.specs.Renamed.{there_with, state_with, run_with}
use Rattle.gl_naming.specs.Numbered.{number, IsNumbered, Unlisted}
use Rattle.gl_naming.specs.Laws.{IsOneToOne, AreApart}
use Rattle.gl_naming.specs.Exist.{FieldsDiffer}
use Rattle.gl_naming.specs.Ties.{values, Takes, AllBelow, owner_key, owners_in, sources_in}
use Rattle.gl_naming.specs.Sits.{Sits}

-- There are names of owners and of sources, one-to-one, that are right for the tree: with them the machine stands for the rendering over σ,
-- while its cells hold τ, whatever is touched. From the name of a source its number can be told.
pub record Named (app : App) (σ τ : Store) (st : State) (l : Live) : Type 0 where
  pub owner : Path → Path
  pub source : Source → Source
  pub back : Source → Source
  pub once : IsOneToOne owner
  pub undoes : (x : Source) → back (source x) ≡ x
  pub owners : Takes owner_key owner (owners_in l)
  pub sources : Takes number source (sources_in l)
  pub stands : (touched : Source → Bool) → StandsFor app σ τ (state_with owner source touched st) l

-- The tree sits right, the numbers of its instances and of its sources were given, and references are numbered.
pub record Given (app : App) (st : State) (l : Live) : Type 0 where
  pub sits : Sits app [] l
  pub rows : IsNumbered (st.next a_ref) st.look
  pub owners : AllBelow (st.next an_instance) (owners_in l)
  pub sources : AllBelow (st.next a_ref) (sources_in l)

-- Each cell holds what it held, or is one of the tree's that was touched.
abbrev pub OwnTouched : App → Store → Store → State → Live → Type 0
OwnTouched app σ τ st l =
    (i : Path) (x : Text) → (cell_value app σ i x ≡ cell_value app τ i x) ⊎ ((r : ℕ) × Among (r, cell i x) (sources_in l) × (st.touched (number r) ≡ true))

-- What an update over the store τ makes of a machine that stood for the rendering over σ: it stands for the rendering over τ. With the names
-- that it has then it stood before too, and what it does is what the machine by paths does with these names: the same tree, and the same
-- state, with the same lists of what was evaluated, installed and updated.
pub record Turned (app : App) (σ τ : Store) (st : State) (l : Live) : Type 0 where
  pub now : Named app τ τ (renew_app_as by_number app τ l st).1 (renew_app_as by_number app τ l st).0
  pub given : Given app (renew_app_as by_number app τ l st).1 (renew_app_as by_number app τ l st).0
  pub stood : StandsFor app σ τ (state_with now.owner now.source (λ y. st.touched (now.back y)) st) l
  pub only : OnlyTouched app σ τ (state_with now.owner now.source (λ y. st.touched (now.back y)) st)
  pub is : let z = renew_app app τ l (state_with now.owner now.source (λ y. st.touched (now.back y)) st) in
      z ≡ run_with now.owner now.source z.1.touched (renew_app_as by_number app τ l st)

-- What is appended by numbers stands so.
abbrev pub GrownNamed : Type 0
GrownNamed =
    (app : App) → FieldsDiffer app → (σ : Store) → HoldsNoAction σ → (st : State) → IsNumbered (st.next a_ref) st.look
    → let r = grow_app_as by_number app σ st in Named app σ σ r.1 r.0 × Given app r.1 r.0

-- It stands so at the beginning of a turn,
abbrev pub BegunNamed : Type 0
BegunNamed = (app : App) (σ τ : Store) (st : State) (l : Live) → (Named app σ τ st l → Named app σ τ (begin st) l) × (Given app st l → Given app (begin st) l)

-- and after sets, with the same names, where its cells hold what another store has, and all else is as it was.
abbrev pub LaidNamed : Type 0
LaidNamed =
    (app : App) (σ τ τ' : Store) (st st' : State) (l : Live) (n : Named app σ τ st l) → ((q : Id) → 0 < rest q l → st'.look q ≡ st.look q) → ((k : Kind) → st'.next k ≡ st.next k)
    → CellsHold app τ' (λ q. there_with n.owner n.source (st'.look q)) l → Named app σ τ' st' l

-- Wherever it stands with these names, for other stores or in another state, it stands so.
abbrev pub StoodNamed : Type 0
StoodNamed =
    (app : App) (σ τ σ' τ' : Store) (st st' : State) (l : Live) (n : Named app σ τ st l) (touched : Source → Bool)
    → StandsFor app σ' τ' (state_with n.owner n.source touched st') l → Named app σ' τ' st' l

-- A source that is set by numbers, to a value without actions, is set by paths so.
abbrev pub TouchRenamed : Type 0
TouchRenamed =
    (f : Path → Path) (g : Source → Source) (touched : Source → Bool) → IsOneToOne f → AreApart g → (r : ℕ) (y : Source) (v : V) → g (number r) ≡ y → Owners NoPath v
    → (st : State) → state_with f g (λ z. source_eq z y || touched z) (touch r (number r) v st) ≡ touch r y v (state_with f g touched st)

-- After a set the tree is known as before, and what was set is a cell of the tree that was touched.
abbrev pub SetGiven : Type 0
SetGiven =
    (app : App) (σ τ : Store) (st : State) (l : Live) (r : ℕ) (i : Path) (x : Text) (v : V) → Among (r, cell i x) (sources_in l)
    → let st' = touch r (number r) v st in
    (Given app st l → Given app st' l) × (OwnTouched app σ τ st l → OwnTouched app σ (record { instance = i; field = x; value = v } ∷ τ) st' l)

-- After a set of a cell of the tree to a value without actions, by its number, the machine stands with the same names, while its cells hold
-- the store with the set.
abbrev pub SetNamed : Type 0
SetNamed =
    (app : App) → FieldsDiffer app → (σ τ : Store) (st : State) (l : Live) → Given app st l → (r : ℕ) (i : Path) (x : Text) (v : V) → Among (r, cell i x) (sources_in l) → Owners NoPath v
    → Named app σ τ st l → Named app σ (record { instance = i; field = x; value = v } ∷ τ) (touch r (number r) v st) l

-- An update reads of the store only what it has for new instances: where it has nothing but cells of the tree's own instances, new ones
-- have their initial values, as without a store.
abbrev pub NewInitial : Type 0
NewInitial =
    (app : App) (σ τ : Store) (st : State) (l : Live) → Named app σ τ st l → Given app st l → (ρ : Store) → ((h : Held) → Among h ρ → Among h.instance (values (owners_in l)))
    → renew_app_as by_number app [] l st ≡ renew_app_as by_number app ρ l st

-- A settled store has only such cells.
abbrev pub SettledOwn : Type 0
SettledOwn =
    (app : App) (σ : Store) (st : State) (l : Live) → Named app σ σ st l → (h : Held) → Among h (settle app σ (draw app σ)) → Among h.instance (values (owners_in l))

-- After an update there are such names again. No cell holds an action, no modifier of the tree was installed or updated in this turn
-- before, and only cells of the tree that were touched changed.
abbrev pub UpdatedNamed : Type 0
UpdatedNamed =
    (app : App) → FieldsDiffer app → (σ τ : Store) → HoldsNoAction σ → HoldsNoAction τ → (st : State) (l : Live) → Named app σ τ st l → Given app st l
    → Unlisted (λ q. times q l) st → OwnTouched app σ τ st l → Turned app σ τ st l

-- A turn

-- what is set, each cell with its number
abbrev pub set_numbers : List (ℕ × Held) → State → State
set_numbers [] st = st
set_numbers (h ∷ hs) st = set_numbers hs (touch h.0 (number h.0) h.1.value st)

-- each is a cell of the tree, and is given a value without actions
abbrev pub AreCells : Live → List (ℕ × Held) → Type 0
AreCells l [] = Unit {0}
AreCells l (h ∷ hs) = Among (h.0, cell h.1.instance h.1.field) (sources_in l) × Owners NoPath h.1.value × AreCells l hs

-- A whole turn by numbers: it begins, cells of the tree are set, and the update gives new instances their initial values. Where the machine
-- stood for the rendering over a store that has nothing but cells of the tree's instances, it stands for that over the store with the sets,
-- and did what the machine by paths does.
abbrev pub TurnNamed : Type 0
TurnNamed =
    (app : App) → FieldsDiffer app → (σ : Store) → HoldsNoAction σ → (st : State) (l : Live) → ((h : Held) → Among h σ → Among h.instance (values (owners_in l)))
    → Named app σ σ st l → Given app st l → (hs : List (ℕ × Held)) → AreCells l hs
    → let τ = lay (map (λ h. h.1) hs) σ in let st' = set_numbers hs (begin st) in
    Turned app σ τ st' l × (renew_app_as by_number app [] l st' ≡ renew_app_as by_number app τ l st')
