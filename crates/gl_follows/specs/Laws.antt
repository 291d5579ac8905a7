-- The laws of a machine by numbers that follows a session.
use Rattle.std.specs.Prelude.{◌≡◌, ◌<◌, ℕ, List, [], map, false, Option, Some, None}
use Rattle.gl_meaning.specs.App.{App, Event}
use Rattle.gl_meaning.specs.Path.{Path}
use Rattle.gl_meaning.specs.Eval.{Held, Store, class_at, field_member, member_of}
use Rattle.gl_meaning.specs.Known.{Among}
use Rattle.gl_meaning.specs.Changes.{instances, Sets}
use Rattle.gl_meaning.specs.Actions.{lay}
use Rattle.gl_meaning.specs.Laws.{HoldsNoAction, Reached}
use Rattle.gl_meaning.specs.Session as session
use Rattle.gl_meaning.specs.Session.{Turn, first_state, applied, step}
use Rattle.gl_opc.specs.Numbers.{class_number}
use Rattle.gl_plain.specs.Ids.{Id, instance_id}
use Rattle.gl_plain.specs.State.{Inst, cell_ref, instance_row, State, touch}
use Rattle.gl_plain.specs.Naming.{by_number}
use Rattle.gl_plain.specs.Live.{Live, times}
use Rattle.gl_plain.specs.Turns.{begin}
use Rattle.gl_plain.specs.Grow.{grow_app_as}
use Rattle.gl_plain.specs.Renew.{renew_app, renew_app_as}
use Rattle.gl_plain.specs.Machine.{StandsFor, OnlyTouched}
use Rattle.gl_naming.specs.Exist.{FieldsDiffer}
use Rattle.gl_naming.specs.Numbered.{number}
use Rattle.gl_naming.specs.Ties.{numbers, owner_key, owners_in}
use Rattle.gl_naming.specs.Renamed.{state_with, run_with}
use Rattle.gl_naming.specs.Named.{Named, Given, OwnTouched}
use Rattle.gl_turns.specs.Evaluated.{is_named}
use Rattle.gl_turns.specs.Sets.{set_all}
use Rattle.gl_kept.specs.Around.{IsThing}
use Rattle.gl_machine.specs.Code.{Code, live_of}
use Rattle.gl_machine.specs.Outcome.{Outcome, ok, deep, lost, Ends}
use Rattle.gl_machine.specs.Env.{Env}
use Rattle.gl_machine.specs.Step.{run_for_as}
use Rattle.gl_machine.specs.Root.{PlacedRoot, append_page_as, renew_root_code_as}
use Rattle.gl_machine.specs.Laws.{AllLowered}
use Rattle.gl_follows.specs.Sets.{set_one_by, set_all_by, IsThere, AreThere, Put, put_all, held_of, AreOwn}
use Rattle.gl_follows.specs.Turns.{rooted, FollowsBy, TurnBy, StepsBy}

-- At the beginning of a turn and after the sets of its event, by numbers, the machine stands for the rendering that it showed while its cells
-- hold the store with the sets, and just what was set is touched. With the names that it has that is what the sets by paths make.
pub record SetBy (app : App) (σ : Store) (sets : Sets) (st : State) (l : Live) : Type 0 where
  pub named : Named app σ (lay sets σ) (set_all_by app l sets (begin st)) l
  pub given : Given app (set_all_by app l sets (begin st)) l
  pub own : OwnTouched app σ (lay sets σ) (set_all_by app l sets (begin st)) l
  pub just : (r : ℕ) → (set_all_by app l sets (begin st)).touched (number r) ≡ is_named sets (named.source (number r))
  pub is : set_all app l sets (state_with named.owner named.source (λ x. false) (begin st)) ≡ state_with named.owner named.source (is_named sets) (set_all_by app l sets (begin st))

abbrev pub SetsBy : Type 0
SetsBy =
    (app : App) (σ : Store) (sets : Sets) (st : State) (l : Live) → Named app σ σ st l → Given app st l → HoldsNoAction sets → AreThere app l sets
    → SetBy app σ sets st l

-- An owner by its number: where its name is the path of an instance of the rendering, that instance is kept under the number. A set of one of
-- its fields is there, and gives the value to the reference of the instance's cell.
pub record OwnerIs (app : App) (st : State) (l : Live) (o : ℕ) (p : Path) : Type 0 where
  pub inst : Inst
  pub id : inst.id ≡ o
  pub path : inst.path ≡ p
  pub kept : st.look (instance_id o) ≡ Some (instance_row inst)
  pub sets : (h : Held) → h.instance ≡ p → member_of (class_at app p) h.field ≡ field_member
      → IsThere app l h × ((now : State) → set_one_by app l h now ≡ touch (cell_ref inst h.field) (number (cell_ref inst h.field)) h.value now)

abbrev pub OwnerBy : Type 0
OwnerBy =
    (app : App) (s : session.State) (st : State) (l : Live) (f : FollowsBy app s st l) (o : ℕ) (p : Path) → f.named.owner (owner_key o) ≡ p → Among p (instances s.rendering)
    → OwnerIs app st l o p

-- So it is with each number of an instance of the tree.
abbrev pub NumberBy : Type 0
NumberBy = (app : App) (s : session.State) (st : State) (l : Live) (f : FollowsBy app s st l) (o : ℕ) → Among o (numbers (owners_in l)) → OwnerIs app st l o (f.named.owner (owner_key o))

-- And sets by the numbers of owners are those of the cells at their paths.
abbrev pub PutsBy : Type 0
PutsBy =
    (app : App) (s : session.State) (st : State) (l : Live) (f : FollowsBy app s st l) (xs : List Put) → AreOwn app f.named.owner l xs
    → let sets = map (held_of f.named.owner) xs in AreThere app l sets × (set_all_by app l sets (begin st) ≡ put_all xs (begin st))

-- What is appended first, by numbers, follows the session's first turn.
abbrev pub FirstBy : Type 0
FirstBy = (app : App) → FieldsDiffer app → let r = grow_app_as by_number app [] rooted in StepsBy app first_state None r.1 r.0

-- A machine that follows a state of a session follows, after the sets of an event and an update by numbers, the event's turn. New instances
-- have their initial values.
abbrev pub NextBy : Type 0
NextBy =
    (app : App) → FieldsDiffer app → (s : session.State) (e : Event) → Reached app s → (st : State) (l : Live) → FollowsBy app s st l
    → let sets = (applied app s (Some e)).sets in AreThere app l sets
    → let r = renew_app_as by_number app [] l (set_all_by app l sets (begin st)) in StepsBy app s (Some e) r.1 r.0

-- There, with the names of now, the machine stood before the update, only what the event sets was touched, and the update is the one by paths:
-- so each law of updates by paths holds of it.
pub record PathsBy (app : App) (σ : Store) (sets : Sets) (st : State) (l : Live) (r : Live × State) : Type 0 where
  pub now : Named app (lay sets σ) (lay sets σ) r.1 r.0
  pub stood : StandsFor app σ (lay sets σ) (state_with now.owner now.source (is_named sets) st) l
  pub only : OnlyTouched app σ (lay sets σ) (state_with now.owner now.source (is_named sets) st)
  pub is : let z = renew_app app (lay sets σ) l (state_with now.owner now.source (is_named sets) st) in z ≡ run_with now.owner now.source z.1.touched r

abbrev pub NextPaths : Type 0
NextPaths =
    (app : App) → FieldsDiffer app → (s : session.State) (e : Event) → Reached app s → (st : State) (l : Live) → FollowsBy app s st l
    → let sets = (applied app s (Some e)).sets in AreThere app l sets
    → let now = set_all_by app l sets (begin st) in PathsBy app s.store sets now l (renew_app_as by_number app [] l now)

-- What a machine that follows a state keeps is just what its tree names: an id names a thing exactly where the tree counts it, one of its
-- kind, and a reference reads only references of the tree.
abbrev pub KeepsBy : Type 0
KeepsBy =
    (app : App) (s : session.State) (st : State) (l : Live) → FollowsBy app s st l
    → (q : Id) → (0 < times q l → IsThing (λ r. times r l) q.kind (st.look q)) × (times q l ≡ 0 → st.look q ≡ None)

-- The same through the words.

-- The turn that was made, and the page is well placed; or there is no turn, since a component would stand too deep.
abbrev pub WordsBy : Env → session.State → Option Event → Outcome (Code × State) → Type 0
WordsBy env s e (ok x) = (t : Turn) × (step env.app s e ≡ Some t) × TurnBy env.app s e t x.1 (live_of x.0) × PlacedRoot env x.0
WordsBy env s e deep = step env.app s e ≡ None
WordsBy env s e lost = Unit {0}

abbrev pub FirstWords : Type 0
FirstWords =
    (env : Env) → AllLowered env → FieldsDiffer env.app → (n q : ℕ) → class_number env.manifest env.app.root ≡ Some q
    → WordsBy env first_state None (append_page_as by_number env.app.limit env [] (run_for_as by_number env [] n) q rooted)

abbrev pub NextWords : Type 0
NextWords =
    (env : Env) → AllLowered env → FieldsDiffer env.app → (s : session.State) (e : Event) → Reached env.app s
    → (k : Code) (st : State) → PlacedRoot env k → FollowsBy env.app s st (live_of k)
    → let sets = (applied env.app s (Some e)).sets in AreThere env.app (live_of k) sets
    → (n : ℕ) → WordsBy env s (Some e) (renew_root_code_as by_number env.app.limit (run_for_as by_number env [] n) k (set_all_by env.app (live_of k) sets (begin st)))

-- The same where the sets of the event are told by the numbers of their owners.
abbrev pub PutsWords : Type 0
PutsWords =
    (env : Env) → AllLowered env → FieldsDiffer env.app → (s : session.State) (e : Event) → Reached env.app s
    → (k : Code) (st : State) → PlacedRoot env k → (f : FollowsBy env.app s st (live_of k))
    → (xs : List Put) → AreOwn env.app f.named.owner (live_of k) xs → (applied env.app s (Some e)).sets ≡ map (held_of f.named.owner) xs
    → (n : ℕ) → WordsBy env s (Some e) (renew_root_code_as by_number env.app.limit (run_for_as by_number env [] n) k (put_all xs (begin st)))

-- An update of a machine that follows a state of a session ends.
abbrev pub NextEnds : Type 0
NextEnds =
    (env : Env) → AllLowered env → (s : session.State) → Reached env.app s → (k : Code) (st : State) → PlacedRoot env k → FollowsBy env.app s st (live_of k)
    → (now : State) → Ends (λ n. renew_root_code_as by_number env.app.limit (run_for_as by_number env [] n) k now)
