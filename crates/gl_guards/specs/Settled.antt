-- When an update may pass over what is fresh: what is recorded is its own and reads what stands around it, and where a position isn't stale
-- what it chose is what it would choose.
use Rattle.std.specs.Prelude.{◌≡◌, ◌<◌, ◌≤◌, ◌⊎◌, ◌+◌, ℕ, suc, List, [], ◌∷◌, Bool, true, false, Option, Some}
use Rattle.gl_base.specs.Texts.{Text}
use Rattle.gl_value.specs.Value.{count_value}
use Rattle.gl_meaning.specs.Path.{at, main, otherwise, items, item, slot, Path, V}
use Rattle.gl_meaning.specs.Scope.{Source, sources_of}
use Rattle.gl_meaning.specs.Eval.{takes_first}
use Rattle.gl_meaning.specs.Render.{Entry, entries, values_listed}
use Rattle.gl_plain.specs.Ids.{a_ref, Id, ref, occurs}
use Rattle.gl_plain.specs.State.{any_of, source_form, row, Thing, State, held_value}
use Rattle.gl_plain.specs.Naming.{Naming}
use Rattle.gl_plain.specs.Binding.{Spot, first_value}
use Rattle.gl_plain.specs.Live.{AttrSpot, ModSpot, item_made, times, times_in, times_items}
use Rattle.gl_plain.specs.Renew.{spot_pairs, last_of, is_stale}
use Rattle.gl_plain.specs.Stands.{WhereValues}
use Rattle.gl_kept.specs.Around.{IsThing, with_made, AllThere}
use Rattle.gl_machine.specs.Sight.{Sight, with_locals}
use Rattle.gl_machine.specs.Code.{Choice, Listing, Code, still_code, put_code, element_code, branch_code, listed_code, unlisted_code, let_code, component_code, yield_code, ItemCodes, no_item_codes, item_code, items_of, Codes, no_codes, code_and, live_of, lives_of}
use Rattle.gl_machine.specs.Nesting.{Nests, NestsIn, NestsItems}
use Rattle.gl_machine.specs.Outcome.{Outcome, ok, deep, lost}
use Rattle.gl_machine.specs.RenewCode.{Runs, start, item_locals}
use Rattle.gl_guards.specs.Guarded.{any_stale}

-- a source that a reference with a given number may hold
abbrev pub IsGiven : Naming → State → Source → Type 0
IsGiven naming st y = (r : ℕ) × (r < st.next a_ref) × (p : Path) × (n : Text) × ((y ≡ naming.cell_source r p n) ⊎ ((y ≡ naming.value_source r p) ⊎ (y ≡ naming.index_source r p)))

-- What a step over a part leaves: each id that was given and isn't counted in the part keeps its thing, no number is given again, and a source
-- of what was given that was touched stays so.
pub record Leaves (naming : Naming) (st st' : State) (count : Id → ℕ) : Type 0 where
  pub more : (q : Id) → st.next q.kind ≤ st'.next q.kind
  pub rows : (q : Id) → q.num < st.next q.kind → count q ≡ 0 → st'.look q ≡ st.look q
  pub still : (y : Source) → IsGiven naming st y → st'.touched y ≡ false → st.touched y ≡ false

-- A question passes over a region only where no position of it is stale.
abbrev pub PassesFresh : (State → List ℕ → Bool) → Type 0
PassesFresh enters = (st : State) (rs : List ℕ) → enters st rs ≡ false → any_stale st rs ≡ false

-- where it ended well
abbrev pub Ended : {A : Type 0} → Outcome A → (A → Type 0) → Type 0
Ended (ok x) P = P x
Ended deep P = Unit {0}
Ended lost P = Unit {0}

-- What is noted of what comes and goes leaves all things, and nothing is noted where nothing goes.
pub record NotesApart (naming : Naming) : Type 0 where
  pub came : (x : Source) (st : State) → Leaves naming st (naming.came x st) (λ q. 0)
  pub went : (count : Id → ℕ) (st : State) → Leaves naming st (naming.went count st) (λ q. 0)
  pub none : (st : State) → naming.went (λ q. 0) st ≡ st

-- a position's reference is its own
abbrev pub OwnSpot : Spot → Type 0
OwnSpot s = 0 < occurs (ref s.ref) s.made

abbrev pub OwnAttrs : List AttrSpot → Type 0
OwnAttrs [] = Unit {0}
OwnAttrs (a ∷ xs) = OwnSpot a.spot × OwnAttrs xs

abbrev pub OwnMods : List ModSpot → Type 0
OwnMods [] = Unit {0}
OwnMods (z ∷ zs) = OwnSpot z.spot × OwnMods zs

module _ (naming : Naming) (run : Runs) where
  -- what is appended from the address leaves all that was there
  abbrev pub AppendsApart : Sight → ℕ → Type 0
  AppendsApart v pc = (p : Path) (m : ℕ) (st : State) → Ended (run (start v pc p m) st) (λ r. Leaves naming st r.1 (λ q. 0))

  abbrev pub ChoiceApart : Choice → Type 0
  ChoiceApart z = AppendsApart z.sight z.first × AppendsApart z.sight z.second

  abbrev pub ListingApart : Listing → Type 0
  ListingApart z = ((v i : ℕ) → AppendsApart (with_locals (item_locals z v i) z.sight) z.body) × AppendsApart z.sight z.other

  -- The positions of the recorded part have references of their own, and what is appended in it leaves all that was there.
  abbrev mutual
    pub Owns : Code → Type 0
    Owns (still_code n) = Unit {0}
    Owns (put_code n s) = OwnSpot s
    Owns (element_code n made xs zs cs) = OwnAttrs xs × OwnMods zs × OwnsIn cs
    Owns (branch_code z s u k cs) = OwnSpot s × ChoiceApart z × OwnsIn cs
    Owns (listed_code z s is) = OwnSpot s × ListingApart z × OwnsItems is
    Owns (unlisted_code z s k cs) = OwnSpot s × ListingApart z × OwnsIn cs
    Owns (let_code made rs cs) = OwnsIn cs
    Owns (component_code i made gm args k cs) = OwnsIn cs
    Owns (yield_code n made rs cs) = OwnsIn cs

    pub OwnsItems : ItemCodes → Type 0
    OwnsItems no_item_codes = Unit {0}
    OwnsItems (item_code z k cs is) = OwnsIn cs × OwnsItems is

    pub OwnsIn : Codes → Type 0
    OwnsIn no_codes = Unit {0}
    OwnsIn (code_and c cs) = Owns c × OwnsIn cs

-- Of a state

-- What was made for a position reads only that and what stands around it. What it read last is stale where more is touched; where it isn't stale,
-- it read last what it reads now, and P holds of its value.
pub record Told (naming : Naming) (st : State) (around : Id → ℕ) (s : Spot) (P : V → Type 0) : Type 0 where
  pub there : AllThere st.look around s.made
  pub grows : (t u : Source → Bool) → ((y : Source) → IsGiven naming st y → u y ≡ false → t y ≡ false) → last_of (st.look (ref s.ref)) u ≡ false → last_of (st.look (ref s.ref)) t ≡ false
  pub reads : is_stale st s.ref ≡ false → last_of (st.look (ref s.ref)) ≡ any_of (sources_of (spot_pairs st s.ref))
  pub holds : is_stale st s.ref ≡ false → P (first_value (spot_pairs st s.ref))

-- the items are those of the entries, in order, and have their values and indexes
abbrev pub Fits : (Id → Option Thing) → List Entry → ItemCodes → Type 0
Fits look [] no_item_codes = Unit {0}
Fits look (x ∷ xs) (item_code z k cs is) =
    (z.key ≡ x.key) × (z.occurrence ≡ x.occurrence) × (held_value (look (ref z.value)) ≡ x.value) × (held_value (look (ref z.index)) ≡ count_value x.index) × Fits look xs is
Fits look _ _ = ⊥

-- the reference holds the value of the source
abbrev pub HoldsSource : (Id → Option Thing) → ℕ → Source → Type 0
HoldsSource look r x = (v : V) × (look (ref r) ≡ Some (row (record { form = source_form x v; last = any_of [] })))

module _ (naming : Naming) (st : State) where
  -- The recorded part agrees with the state: a branch has the body that its condition chooses, a list the items of its values, as long as the
  -- position isn't stale; the references of an item hold its own sources.
  abbrev mutual
    pub Settled : (Id → ℕ) → Path → Code → Type 0
    Settled around p (still_code n) = Unit {0}
    Settled around p (put_code n s) = Unit {0}
    Settled around p (element_code n made xs zs cs) = SettledIn around p 0 cs
    Settled around p (branch_code z s true k cs) = Told naming st around s (λ v. takes_first z.unless v ≡ true) × SettledIn around (main ∷ p) 0 cs
    Settled around p (branch_code z s false k cs) = Told naming st around s (λ v. takes_first z.unless v ≡ false) × SettledIn around (otherwise ∷ p) 0 cs
    Settled around p (listed_code z s is) =
        Told naming st around s (λ v. WhereValues (values_listed v) (λ vs. Fits st.look (entries z.key 0 [] vs) is) ⊥) × SettledItems around (items ∷ p) is
    Settled around p (unlisted_code z s k cs) = Told naming st around s (λ v. WhereValues (values_listed v) (λ vs. ⊥) (Unit {0})) × SettledIn around (otherwise ∷ p) 0 cs
    Settled around p (let_code made rs cs) = AllThere st.look around made × SettledIn (with_made made around) (main ∷ p) 0 cs
    Settled around p (component_code i made gm args k cs) = AllThere st.look around made × SettledIn (with_made made around) i.path 0 cs
    Settled around p (yield_code n made rs cs) = AllThere st.look around made × SettledIn (with_made made around) (slot n ∷ p) 0 cs

    pub SettledItems : (Id → ℕ) → Path → ItemCodes → Type 0
    SettledItems around p no_item_codes = Unit {0}
    SettledItems around p (item_code z k cs is) =
        let q = item z.key z.occurrence ∷ p in
        (
        AllThere st.look around (item_made z)
        × HoldsSource st.look z.value (naming.value_source z.value q)
        × HoldsSource st.look z.index (naming.index_source z.index q)
        × SettledIn (with_made (item_made z) around) q 0 cs
        )
        × SettledItems around p is

    pub SettledIn : (Id → ℕ) → Path → ℕ → Codes → Type 0
    SettledIn around p i no_codes = Unit {0}
    SettledIn around p i (code_and c cs) = Settled around (at i ∷ p) c × SettledIn around p (suc i) cs

-- What stands around a part, and what it counts: each id stands once, was given, and what is around reads only what is around.
pub record Room (st : State) (around count : Id → ℕ) : Type 0 where
  pub once : (q : Id) → around q + count q ≤ 1
  pub old : (q : Id) → st.next q.kind ≤ q.num → around q + count q ≡ 0
  pub closed : (r : ℕ) → 0 < around (ref r) → IsThing around a_ref (st.look (ref r))

-- What has to be known of a part before an update may pass over what is fresh in it: m levels of nesting are left.
module _ (naming : Naming) (run : Runs) (st : State) (around : Id → ℕ) (m : ℕ) (p : Path) where
  pub record MayPass (c : Code) : Type 0 where
    pub room : Room st around (λ q. times q (live_of c))
    pub owns : Owns naming run c
    pub settled : Settled naming st around p c
    pub nests : Nests (live_of c) m

  pub record MayPassIn (i : ℕ) (cs : Codes) : Type 0 where
    pub room : Room st around (λ q. times_in q (lives_of cs))
    pub owns : OwnsIn naming run cs
    pub settled : SettledIn naming st around p i cs
    pub nests : NestsIn (lives_of cs) m

  pub record MayPassItems (is : ItemCodes) : Type 0 where
    pub room : Room st around (λ q. times_items q (items_of is))
    pub owns : OwnsItems naming run is
    pub settled : SettledItems naming st around p is
    pub nests : NestsItems (items_of is) m

-- the root has the empty path
abbrev pub AtRoot : Code → Type 0
AtRoot (component_code i made gm args k cs) = i.path ≡ []
AtRoot _ = Unit {0}

abbrev pub IsRoot : Code → Type 0
IsRoot (component_code i made gm args k cs) = Unit {0}
IsRoot _ = ⊥
