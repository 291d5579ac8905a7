-- The laws of the machine's turns.
use Rattle.std.specs.Prelude.{◌≡◌, ◌+◌, [], ◌++◌, map, filter, filter_map, length, Some, None, not, nat_eq, ◌<◌, flat_map, List}
use Rattle.gl_meaning.specs.App.{App, Event}
use Rattle.gl_meaning.specs.Scope.{Source}
use Rattle.gl_meaning.specs.Eval.{Store}
use Rattle.gl_meaning.specs.Render.{draw}
use Rattle.gl_meaning.specs.Changes.{number, Sets, touched, settle, stale, instances, modifiers_on, Item}
use Rattle.gl_meaning.specs.Path.{has_path}
use Rattle.gl_meaning.specs.Print.{modifier_paths, children_first}
use Rattle.gl_turns.specs.Leaving.{leavers, goes, leaver_of, leaving}
use Rattle.gl_meaning.specs.Laws.{HoldsNoAction, Reached, NoRepeat}
use Rattle.gl_meaning.specs.Session as session
use Rattle.gl_meaning.specs.Session.{Turn, first_state, applied, step}
use Rattle.gl_meaning.specs.Work.{work}
use Rattle.gl_plain.specs.Ids.{a_node}
use Rattle.gl_plain.specs.State.{State}
use Rattle.gl_plain.specs.Live.{Live}
use Rattle.gl_plain.specs.Grow.{grow_app}
use Rattle.gl_plain.specs.Renew.{renew_app}
use Rattle.gl_plain.specs.Machine.{StandsFor, OnlyTouched}
use Rattle.gl_turns.specs.Places.{Place, id_of, position_in, instance_in, modifier_in, places}
use Rattle.gl_meaning.specs.Known.{Among}
use Rattle.gl_plain.specs.Ids.{instance_id, modifier_id}
use Rattle.gl_plain.specs.Live.{times}
use Rattle.gl_turns.specs.Numbers.{numbers_of, one_more}
use Rattle.gl_turns.specs.Evaluated.{TouchedBy, new_or_stale}
use Rattle.gl_turns.specs.Sets.{set_all}
use Rattle.gl_turns.specs.Moved.{moved_between, moved_in}
use Rattle.gl_meaning.specs.Work.{list_path}
use Rattle.gl_meaning.specs.Path.{Path}
use Rattle.gl_plain.specs.Turns.{blank, begin}
use Rattle.gl_plain.specs.Drawn.{drawn_app}
use Rattle.gl_meaning.specs.Actions.{lay}

-- Ids by path

-- The ids of nodes are the numbers that the meaning gives: what is appended is numbered as a rendering where no path has a number yet,
abbrev pub AppendedNumbers : Type 0
AppendedNumbers = (app : App) (τ : Store) (st : State) → let r = grow_app app τ st in numbers_of r.1 r.0 ≡ number (record { of = []; next = st.next a_node }) (draw app τ)

-- and after an update the node at a path that persists is the same, and the others are new, in document order.
abbrev pub UpdatedNumbers : Type 0
UpdatedNumbers =
    (app : App) (σ τ : Store) (st : State) (l : Live) → StandsFor app σ τ st l → OnlyTouched app σ τ st
    → let r = renew_app app τ l st in numbers_of r.1 r.0 ≡ number (numbers_of st l) (draw app τ)

-- As many nodes are made as the meaning counts: those at a path that is new.
abbrev pub UpdatedMadeCount : Type 0
UpdatedMadeCount =
    (app : App) (σ τ : Store) (sets : Sets) (st : State) (l : Live) → StandsFor app σ τ st l → OnlyTouched app σ τ st
    → (renew_app app τ l st).1.next a_node ≡ st.next a_node + (work (draw app σ) (draw app τ) sets).made

-- What is touched and evaluated

-- At the end of an update just those sources are touched that the meaning names: the cells that were set, and of each item that persists the
-- value and the index where it isn't the same as before.
abbrev pub TouchedIsTouched : Type 0
TouchedIsTouched =
    (app : App) (σ τ : Store) (sets : Sets) (st : State) (l : Live) → StandsFor app σ τ st l → OnlyTouched app σ τ st → TouchedBy sets st
    → (x : Source) → (renew_app app τ l st).1.touched x ≡ touched (draw app σ) (draw app τ) sets x

-- An update evaluates exactly the positions that are new or stale, each once, in the order in which they stand.
abbrev pub EvaluatesNewOrStale : Type 0
EvaluatesNewOrStale =
    (app : App) (σ τ : Store) (sets : Sets) (st : State) (l : Live) → StandsFor app σ τ st l → OnlyTouched app σ τ st → TouchedBy sets st → HoldsNoAction σ
    → let r = renew_app app τ l st in
    r.1.evaluated ≡ st.evaluated ++ map (λ q. q.1) (filter (λ q. new_or_stale (draw app σ) (draw app τ) sets q.0) (filter_map position_in (places [] r.0)))

-- So they are as many as the meaning counts.
abbrev pub EvaluatedCount : Type 0
EvaluatedCount =
    (app : App) (σ τ : Store) (sets : Sets) (st : State) (l : Live) → StandsFor app σ τ st l → OnlyTouched app σ τ st → TouchedBy sets st → HoldsNoAction σ
    → length (renew_app app τ l st).1.evaluated ≡ length st.evaluated + (work (draw app σ) (draw app τ) sets).evaluated

-- Sets

-- A set by id is the store with the set laid on: at the beginning of a turn and after the sets of its event the machine still shows what it
-- showed, its cells hold the store with the sets, and just the cells that were set are touched.
abbrev pub SetsAreLaid : Type 0
SetsAreLaid =
    (app : App) (σ : Store) (sets : Sets) (st : State) (l : Live) → StandsFor app σ σ st l
    → let st' = set_all app l sets (begin st) in StandsFor app σ (lay sets σ) st' l × OnlyTouched app σ (lay sets σ) st' × TouchedBy sets st'

-- A machine that stands for a store stands for the settled one too, in which the cells of instances that are gone are dropped.
abbrev pub SettledStands : Type 0
SettledStands =
    (app : App) (τ : Store) (st : State) (l : Live) → StandsFor app τ τ st l → let τ' = settle app τ (draw app τ) in StandsFor app τ' τ' st l

-- Turns of a session

-- A machine follows a state of a session: it stands for the cells, shows the rendering, and its nodes have the numbers of their paths.
pub record Follows (app : App) (s : session.State) (st : State) (l : Live) : Type 0 where
  pub stands : StandsFor app s.store s.store st l
  pub rendering : drawn_app app st.look l ≡ s.rendering
  pub numbers : s.numbers ≡ one_more (numbers_of st l)

-- What is appended first follows the state after the first turn, and did its work.
abbrev pub FirstTurn : Type 0
FirstTurn =
    (app : App) (t : Turn) → step app first_state None ≡ Some t
    → let r = grow_app app [] blank in Follows app t.state r.1 r.0 × (length r.1.evaluated ≡ t.work.evaluated) × (r.1.next a_node ≡ t.work.made)

-- A machine that follows a state of a session follows, after the sets of an event and an update, the state after the event's turn. It has
-- evaluated as many positions as the turn's work says, and made as many nodes.
abbrev pub NextTurn : Type 0
NextTurn =
    (app : App) (s : session.State) (e : Event) (t : Turn) (st : State) (l : Live) → Reached app s → step app s (Some e) ≡ Some t → Follows app s st l
    → let sets = (applied app s (Some e)).sets in let r = renew_app app (lay sets s.store) l (set_all app l sets (begin st)) in
    Follows app t.state r.1 r.0 × (length r.1.evaluated ≡ t.work.evaluated) × (r.1.next a_node ≡ st.next a_node + t.work.made)

-- The log

-- An update installs exactly the modifiers whose path is new, in the order in which they stand: those in an element before the element's own.
abbrev pub InstallsNew : Type 0
InstallsNew =
    (app : App) (σ τ : Store) (sets : Sets) (st : State) (l : Live) → StandsFor app σ τ st l → OnlyTouched app σ τ st → TouchedBy sets st → HoldsNoAction σ
    → let r = renew_app app τ l st in
    r.1.installs ≡ st.installs ++ map (λ z. z.1) (filter (λ z. not (has_path z.0 (modifier_paths (draw app σ)))) (filter_map modifier_in (places [] r.0)))

-- It updates exactly those that are stale, in the same order.
abbrev pub UpdatesStale : Type 0
UpdatesStale =
    (app : App) (σ τ : Store) (sets : Sets) (st : State) (l : Live) → StandsFor app σ τ st l → OnlyTouched app σ τ st → TouchedBy sets st → HoldsNoAction σ
    → let r = renew_app app τ l st in r.1.updates ≡ st.updates ++ map (λ z. z.1) (filter (λ z. stale (draw app σ) (draw app τ) sets z.0) (filter_map modifier_in (places [] r.0)))

-- What stood in the tree is in the new one, counted, exactly where it stands there at its place.
abbrev pub CountedIsThere : Type 0
CountedIsThere =
    (app : App) (σ τ : Store) (st : State) (l : Live) → StandsFor app σ τ st l → OnlyTouched app σ τ st → (a : Place) → Among a (places [] l)
    → let l' = (renew_app app τ l st).0 in (0 < times (id_of a) l' → Among a (places [] l')) × (Among a (places [] l') → 0 < times (id_of a) l')

-- So the modifiers and the instances that an update destroys, which are those of the old tree that the new one doesn't count, are exactly those
-- whose path isn't in the new rendering.
abbrev pub DestroysGone : Type 0
DestroysGone =
    (app : App) (σ τ : Store) (st : State) (l : Live) → StandsFor app σ τ st l → OnlyTouched app σ τ st
    → let l' = (renew_app app τ l st).0 in let ms = filter_map modifier_in (places [] l) in let is = filter_map instance_in (places [] l) in
    (filter (λ z. nat_eq (times (modifier_id z.1) l') 0) ms ≡ filter (λ z. not (has_path z.0 (modifier_paths (draw app τ)))) ms)
    × (filter (λ z. nat_eq (times (instance_id z.1.id) l') 0) is ≡ filter (λ z. not (has_path z.0 (instances (draw app τ)))) is)

-- They go in the order of the meaning's walk of the old rendering, children first.
abbrev pub DestroysInOrder : Type 0
DestroysInOrder =
    (app : App) (σ τ : Store) (st : State) (l : Live) → StandsFor app σ τ st l → OnlyTouched app σ τ st
    → let l' = (renew_app app τ l st).0 in
    flat_map leaver_of (filter (λ a. nat_eq (times (id_of a) l') 0) (leaving [] l)) ≡ filter (goes (draw app τ)) (flat_map leavers (children_first (draw app σ)))

-- And the modifiers of a tree stand in the order of the meaning's walk of the rendering, children first.
abbrev pub ModifiersInOrder : Type 0
ModifiersInOrder =
    (app : App) (σ τ : Store) (st : State) (l : Live) → StandsFor app σ τ st l
    → map (λ z. z.0) (filter_map modifier_in (places [] l)) ≡ map (λ m. m.path) (flat_map modifiers_on (children_first (draw app σ)))

-- Moves

-- Between two lists of items as many are moved as are moved in each list of which they are items.
abbrev pub MovedByList : Type 0
MovedByList =
    (old new : List Item) (qs : List Path) → NoRepeat qs → ((i : Item) → Among i new → Among (list_path i.path) qs)
    → moved_between old new ≡ moved_in old new qs

-- The log of a session's turns

-- What is appended first installs each of its modifiers, in the order in which they stand, and updates none.
abbrev pub FirstLog : Type 0
FirstLog = (app : App) (τ : Store) (st : State) → let r = grow_app app τ st in (r.1.installs ≡ st.installs ++ map (λ z. z.1) (filter_map modifier_in (places [] r.0))) × (r.1.updates ≡ st.updates)

-- In a turn of a session a machine that follows it installs exactly the modifiers whose path is new, and updates exactly those that are stale.
abbrev pub NextLog : Type 0
NextLog =
    (app : App) (s : session.State) (e : Event) (t : Turn) (st : State) (l : Live) → Reached app s → step app s (Some e) ≡ Some t → Follows app s st l
    → let sets = (applied app s (Some e)).sets in let r = renew_app app (lay sets s.store) l (set_all app l sets (begin st)) in let ms = filter_map modifier_in (places [] r.0) in
    (r.1.installs ≡ map (λ z. z.1) (filter (λ z. not (has_path z.0 (modifier_paths s.rendering))) ms))
    × (r.1.updates ≡ map (λ z. z.1) (filter (λ z. stale s.rendering t.state.rendering sets z.0) ms))
