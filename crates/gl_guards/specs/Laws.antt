-- The laws of an update that passes over what is fresh.
use Rattle.std.specs.Prelude.{◌≡◌, ◌≤◌, ℕ, List, [], ◌∷◌, map, Bool, false, Some}
use Rattle.gl_meaning.specs.App.{App, Event}
use Rattle.gl_meaning.specs.Laws.{Reached}
use Rattle.gl_meaning.specs.Session as session
use Rattle.gl_meaning.specs.Session.{Turn, applied, step}
use Rattle.gl_meaning.specs.Path.{items, Path}
use Rattle.gl_meaning.specs.Render.{Entry}
use Rattle.gl_plain.specs.Ids.{Id}
use Rattle.gl_plain.specs.State.{State}
use Rattle.gl_plain.specs.Live.{Live}
use Rattle.gl_plain.specs.Naming.{Naming, by_path, by_number}
use Rattle.gl_plain.specs.Binding.{Spot}
use Rattle.gl_plain.specs.Counts.{positions_of, positions_in, positions_items}
use Rattle.gl_plain.specs.Renew.{is_stale}
use Rattle.gl_machine.specs.Code.{Listing, Code, listed_code, Codes, ItemCodes, live_of, lives_of, items_of}
use Rattle.gl_machine.specs.Outcome.{ok, on_ok}
use Rattle.gl_machine.specs.RenewCode.{Runs, sync_codes_as, code_handles_as, fresh_item_as, renew_code_as, renew_codes_as}
use Rattle.gl_machine.specs.Env.{Env}
use Rattle.gl_machine.specs.Laws.{AllLowered}
use Rattle.gl_machine.specs.Step.{run_for_as}
use Rattle.gl_machine.specs.Root.{PlacedRoot, renew_root_code_as}
use Rattle.gl_plain.specs.Turns.{begin}
use Rattle.gl_naming.specs.Exist.{FieldsDiffer}
use Rattle.gl_follows.specs.Sets.{set_all_by, AreThere, Put, put_all, held_of, AreOwn}
use Rattle.gl_follows.specs.Turns.{FollowsBy}
use Rattle.gl_guards.specs.Once.{KeysOnce}
use Rattle.gl_guards.specs.Guarded.{any_stale, entered_code_as, entered_root_code_as, guarded_code_as, guarded_codes_as, guarded_items_as, renew_items_as, guarded_root_code_as}
use Rattle.gl_guards.specs.Along.{along_root_code_as}
use Rattle.gl_guards.specs.Questions.{root_asks_as}
use Rattle.gl_guards.specs.AlongAsks.{along_asks_root}
use Rattle.gl_guards.specs.Settled.{PassesFresh, NotesApart, MayPass, MayPassIn, MayPassItems, Fits, AtRoot, IsRoot}

-- Both namings leave all things where they note something.
abbrev pub NamingsApart : Type 0
NamingsApart = NotesApart by_path × NotesApart by_number

-- Where no position of a part, or within it, is stale, its update leaves the part and the state as they are,
abbrev pub FreshStays : Type 0
FreshStays =
    (naming : Naming) → NotesApart naming → (run : Runs) (around : Id → ℕ) (m : ℕ) (p : Path) (c : Code) (st : State) → MayPass naming run st around m p c
    → any_stale st (positions_of (live_of c)) ≡ false → renew_code_as naming run m p c st ≡ ok (c, st)

-- and so that of a body,
abbrev pub FreshStaysIn : Type 0
FreshStaysIn =
    (naming : Naming) → NotesApart naming → (run : Runs) (around : Id → ℕ) (m : ℕ) (p : Path) (i : ℕ) (cs : Codes) (st : State) → MayPassIn naming run st around m p i cs
    → any_stale st (positions_in (lives_of cs)) ≡ false → renew_codes_as naming run m p i cs st ≡ ok (cs, st)

-- and that of the items of a list whose entries are what they were.
abbrev pub FreshStaysItems : Type 0
FreshStaysItems =
    (naming : Naming) → NotesApart naming → (run : Runs) (around : Id → ℕ) (m : ℕ) (p : Path) (z : Listing) (xs : List Entry) (is : ItemCodes) (st : State) → MayPassItems naming run st around m p is
    → Fits st.look xs is → any_stale st (positions_items (items_of is)) ≡ false
    → sync_codes_as naming (fresh_item_as naming run z m) p xs (code_handles_as naming run m is) st ≡ ok (is, st)

-- So is that of the whole page.
abbrev pub FreshStaysRoot : Type 0
FreshStaysRoot =
    (naming : Naming) → NotesApart naming → (run : Runs) (around : Id → ℕ) (m : ℕ) (k : Code) (st : State) → MayPass naming run st around m [] k → AtRoot k
    → IsRoot k → any_stale st (positions_of (live_of k)) ≡ false → renew_root_code_as naming m run k st ≡ ok (k, st)

-- A list whose position isn't stale has its items updated in order, each in its place: none is given another value, moves, comes or goes.
abbrev pub ListGoesAlong : Type 0
ListGoesAlong =
    (naming : Naming) → NotesApart naming → (run : Runs) (around : Id → ℕ) (m : ℕ) (p : Path) (z : Listing) (s : Spot) (is : ItemCodes) (st : State) → MayPass naming run st around m p (listed_code z s is)
    → is_stale st s.ref ≡ false → renew_code_as naming run m p (listed_code z s is) st ≡ on_ok (renew_items_as naming run m (items ∷ p) is st) (λ r. ok (listed_code z s r.0, r.1))

-- An update that passes over what is fresh does what the update does, on a part,
abbrev pub GuardedIsRenew : Type 0
GuardedIsRenew =
    (naming : Naming) → NotesApart naming → (run : Runs) (around : Id → ℕ) (m : ℕ) (p : Path) (c : Code) (st : State) → MayPass naming run st around m p c
    → guarded_code_as naming run m p c st ≡ renew_code_as naming run m p c st

-- a body,
abbrev pub GuardedIsRenewIn : Type 0
GuardedIsRenewIn =
    (naming : Naming) → NotesApart naming → (run : Runs) (around : Id → ℕ) (m : ℕ) (p : Path) (i : ℕ) (cs : Codes) (st : State) → MayPassIn naming run st around m p i cs
    → guarded_codes_as naming run m p i cs st ≡ renew_codes_as naming run m p i cs st

-- items in their order,
abbrev pub GuardedIsRenewItems : Type 0
GuardedIsRenewItems =
    (naming : Naming) → NotesApart naming → (run : Runs) (around : Id → ℕ) (m : ℕ) (p : Path) (is : ItemCodes) (st : State) → MayPassItems naming run st around m p is
    → guarded_items_as naming run m p is st ≡ renew_items_as naming run m p is st

-- and the whole page.
abbrev pub GuardedIsRenewRoot : Type 0
GuardedIsRenewRoot =
    (naming : Naming) → NotesApart naming → (run : Runs) (around : Id → ℕ) (m : ℕ) (k : Code) (st : State) → MayPass naming run st around m [] k → AtRoot k
    → guarded_root_code_as naming m run k st ≡ renew_root_code_as naming m run k st

-- So does one that enters more regions: any question will do that passes over a region only where no position of it is stale, on a part,
abbrev pub EnteredIsRenew : Type 0
EnteredIsRenew =
    (naming : Naming) → NotesApart naming → (run : Runs) (enters : State → List ℕ → Bool) → PassesFresh enters → (once : Bool) (around : Id → ℕ) (m : ℕ) (p : Path) (c : Code) (st : State) → MayPass naming run st around m p c
    → entered_code_as naming run enters once m p c st ≡ renew_code_as naming run m p c st

-- and on the whole page, of which another such question may be asked first.
abbrev pub EnteredIsRenewRoot : Type 0
EnteredIsRenewRoot =
    (naming : Naming) → NotesApart naming → (run : Runs) (first : State → List ℕ → Bool) → PassesFresh first → (enters : State → List ℕ → Bool) → PassesFresh enters
    → (once : Bool) (around : Id → ℕ) (m : ℕ) (k : Code) (st : State) → MayPass naming run st around m [] k → AtRoot k
    → entered_root_code_as naming first enters once m run k st ≡ renew_root_code_as naming m run k st

-- So it is in each turn of a session: where a machine by numbers follows a state, after the sets of an event its page may be passed over where it
-- is fresh,
abbrev pub TurnMayPass : Type 0
TurnMayPass =
    (env : Env) → AllLowered env → FieldsDiffer env.app → (s : session.State) (e : Event) → Reached env.app s → (k : Code) (st : State) → PlacedRoot env k → FollowsBy env.app s st (live_of k)
    → let sets = (applied env.app s (Some e)).sets in AreThere env.app (live_of k) sets
    → (n : ℕ) → let now = set_all_by env.app (live_of k) sets (begin st) in MayPass by_number (run_for_as by_number env [] n) now (λ q. 0) env.app.limit [] k × AtRoot k

-- and the update that does so does what the update does, with any number of steps.
abbrev pub TurnIsRenew : Type 0
TurnIsRenew =
    (env : Env) → AllLowered env → FieldsDiffer env.app → (s : session.State) (e : Event) → Reached env.app s → (k : Code) (st : State) → PlacedRoot env k → FollowsBy env.app s st (live_of k)
    → let sets = (applied env.app s (Some e)).sets in AreThere env.app (live_of k) sets
    → (n : ℕ) → let now = set_all_by env.app (live_of k) sets (begin st) in
    guarded_root_code_as by_number env.app.limit (run_for_as by_number env [] n) k now ≡ renew_root_code_as by_number env.app.limit (run_for_as by_number env [] n) k now

-- The same where the sets of the event are told by the numbers of their owners.
abbrev pub PutsAreRenew : Type 0
PutsAreRenew =
    (env : Env) → AllLowered env → FieldsDiffer env.app → (s : session.State) (e : Event) → Reached env.app s → (k : Code) (st : State) → PlacedRoot env k → (f : FollowsBy env.app s st (live_of k))
    → (xs : List Put) → AreOwn env.app f.named.owner (live_of k) xs → (applied env.app s (Some e)).sets ≡ map (held_of f.named.owner) xs
    → (n : ℕ) → let now = put_all xs (begin st) in
    guarded_root_code_as by_number env.app.limit (run_for_as by_number env [] n) k now ≡ renew_root_code_as by_number env.app.limit (run_for_as by_number env [] n) k now

-- The same of one that enters more regions.
abbrev pub PutsAreEntered : Type 0
PutsAreEntered =
    (first : State → List ℕ → Bool) → PassesFresh first → (enters : State → List ℕ → Bool) → PassesFresh enters → (once : Bool)
    → (env : Env) → AllLowered env → FieldsDiffer env.app → (s : session.State) (e : Event) → Reached env.app s → (k : Code) (st : State) → PlacedRoot env k → (f : FollowsBy env.app s st (live_of k))
    → (xs : List Put) → AreOwn env.app f.named.owner (live_of k) xs → (applied env.app s (Some e)).sets ≡ map (held_of f.named.owner) xs
    → (n : ℕ) → let now = put_all xs (begin st) in
    entered_root_code_as by_number first enters once env.app.limit (run_for_as by_number env [] n) k now ≡ renew_root_code_as by_number env.app.limit (run_for_as by_number env [] n) k now

-- So is one that goes along the items of each list whose position isn't stale, and asks the page and small regions alone.
abbrev pub PutsGoAlong : Type 0
PutsGoAlong =
    (env : Env) → AllLowered env → FieldsDiffer env.app → (s : session.State) (e : Event) → Reached env.app s → (k : Code) (st : State) → PlacedRoot env k → (f : FollowsBy env.app s st (live_of k))
    → (xs : List Put) → AreOwn env.app f.named.owner (live_of k) xs → (applied env.app s (Some e)).sets ≡ map (held_of f.named.owner) xs
    → (n : ℕ) → let now = put_all xs (begin st) in
    along_root_code_as by_number env.app.limit (run_for_as by_number env [] n) k now ≡ renew_root_code_as by_number env.app.limit (run_for_as by_number env [] n) k now

-- Where no position of a page is stale, one question is asked: that of the whole.
abbrev pub FreshAsksOne : Type 0
FreshAsksOne =
    (naming : Naming) (run : Runs) (m : ℕ) (k : Code) (st : State) → any_stale st (positions_of (live_of k)) ≡ false → root_asks_as naming m run k st ≤ 1

-- In each turn of a session the update that passes over what is fresh, where it ends well, asks at most as much as the meaning says: one question for
-- the whole, and one for each member of each region that stays and has a position, or one in a region within it, that read what is touched,
abbrev pub TurnAsks : Type 0
TurnAsks =
    (env : Env) → AllLowered env → FieldsDiffer env.app → (s : session.State) (e : Event) (t : Turn) → Reached env.app s → step env.app s (Some e) ≡ Some t
    → (k : Code) (st : State) → PlacedRoot env k → FollowsBy env.app s st (live_of k)
    → let sets = (applied env.app s (Some e)).sets in AreThere env.app (live_of k) sets
    → (n : ℕ) (x : Code × State) → let now = set_all_by env.app (live_of k) sets (begin st) in let run = run_for_as by_number env [] n in
    guarded_root_code_as by_number env.app.limit run k now ≡ ok x → root_asks_as by_number env.app.limit run k now ≤ t.asked

-- also where sets are told by the numbers of their owners.
abbrev pub PutsAsk : Type 0
PutsAsk =
    (env : Env) → AllLowered env → FieldsDiffer env.app → (s : session.State) (e : Event) (t : Turn) → Reached env.app s → step env.app s (Some e) ≡ Some t
    → (k : Code) (st : State) → PlacedRoot env k → (f : FollowsBy env.app s st (live_of k))
    → (xs : List Put) → AreOwn env.app f.named.owner (live_of k) xs → (applied env.app s (Some e)).sets ≡ map (held_of f.named.owner) xs
    → (n : ℕ) (x : Code × State) → let now = put_all xs (begin st) in let run = run_for_as by_number env [] n in
    guarded_root_code_as by_number env.app.limit run k now ≡ ok x → root_asks_as by_number env.app.limit run k now ≤ t.asked

-- The update that goes along answers no more questions than the one that passes over just what is fresh asks,
abbrev pub AlongAsksLess : Type 0
AlongAsksLess =
    (naming : Naming) → NotesApart naming → (run : Runs) (around : Id → ℕ) (m : ℕ) (k : Code) (st : State) → MayPass naming run st around m [] k → AtRoot k
    → along_asks_root naming m run k st ≤ root_asks_as naming m run k st

-- so in each turn of a session at most as many as the meaning says.
abbrev pub PutsAskAlong : Type 0
PutsAskAlong =
    (env : Env) → AllLowered env → FieldsDiffer env.app → (s : session.State) (e : Event) (t : Turn) → Reached env.app s → step env.app s (Some e) ≡ Some t
    → (k : Code) (st : State) → PlacedRoot env k → (f : FollowsBy env.app s st (live_of k))
    → (xs : List Put) → AreOwn env.app f.named.owner (live_of k) xs → (applied env.app s (Some e)).sets ≡ map (held_of f.named.owner) xs
    → (n : ℕ) (x : Code × State) → let now = put_all xs (begin st) in let run = run_for_as by_number env [] n in
    along_root_code_as by_number env.app.limit run k now ≡ ok x → along_asks_root by_number env.app.limit run k now ≤ t.asked

-- In a tree that follows a state of a session no key of a list stands twice.
abbrev pub KeysAreOnce : Type 0
KeysAreOnce = (app : App) (s : session.State) (st : State) (l : Live) → FollowsBy app s st l → KeysOnce l
