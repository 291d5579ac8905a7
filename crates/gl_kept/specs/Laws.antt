-- The laws of what the machine keeps.
use Rattle.std.specs.Prelude.{◌≡◌, ◌<◌, ◌≤◌, ℕ, List, [], map, sum, Bool, false, Some, None}
use Rattle.gl_meaning.specs.App.{App, Event}
use Rattle.gl_meaning.specs.Eval.{Store}
use Rattle.gl_meaning.specs.Path.{Path, has_path}
use Rattle.gl_meaning.specs.Known.{Among}
use Rattle.gl_meaning.specs.Render.{draw}
use Rattle.gl_meaning.specs.Changes.{Item, rendered_items, regions, Sets}
use Rattle.gl_meaning.specs.Work.{list_path, work, asked}
use Rattle.gl_meaning.specs.Actions.{lay}
use Rattle.gl_meaning.specs.Laws.{Reached, NoRepeat}
use Rattle.gl_meaning.specs.Session as session
use Rattle.gl_meaning.specs.Session.{Turn, first_state, applied, step}
use Rattle.gl_plain.specs.Ids.{Id, ref, occurs}
use Rattle.gl_plain.specs.State.{Row, row, State}
use Rattle.gl_plain.specs.Live.{Live, is_deep, times}
use Rattle.gl_plain.specs.Turns.{blank, begin}
use Rattle.gl_plain.specs.Grow.{grow_app}
use Rattle.gl_plain.specs.Renew.{renew_app}
use Rattle.gl_plain.specs.Reads.{reads, RowsReadLower}
use Rattle.gl_plain.specs.Stands.{Owned}
use Rattle.gl_plain.specs.Guards.{NoneStale}
use Rattle.gl_plain.specs.Machine.{StandsFor, OnlyTouched}
use Rattle.gl_each.specs.Key.{Key}
use Rattle.gl_each.specs.Sync.{Step, IsSync}
use Rattle.gl_each.specs.Moved.{moves}
use Rattle.gl_turns.specs.Sets.{set_all}
use Rattle.gl_turns.specs.Moved.{of_list}
use Rattle.gl_turns.specs.Evaluated.{TouchedBy}
use Rattle.gl_turns.specs.Laws.{Follows}
use Rattle.gl_kept.specs.Around.{IsThing}
use Rattle.gl_kept.specs.Kept.{Kept, LiveBelow}
use Rattle.gl_kept.specs.Closed.{PartsClosed}
use Rattle.gl_kept.specs.Asked.{regions_of, asks}
use Rattle.gl_kept.specs.Between.{moves_between, moved_between}
use Rattle.gl_kept.specs.Listed.{lists, AreEntries, keyed_lists, tree_lists, ArePlans}

-- Where nothing was there, what is appended is kept and nothing else is, if no component stands too deep. (The references that were bound for a
-- component that stands too deep are named by nobody; the machine stops then.)
abbrev pub AppendedKeeps : Type 0
AppendedKeeps = (app : App) (τ : Store) (st : State) → ((q : Id) → st.look q ≡ None) → let r = grow_app app τ st in is_deep r.0 ≡ false → Kept app r.1 r.0

-- The beginning of a turn and the sets of an event leave it so,
abbrev pub SetsKeep : Type 0
SetsKeep = (app : App) (σ τ : Store) (sets : Sets) (st : State) (l : Live) → StandsFor app σ τ st l → Kept app st l → Kept app (set_all app l sets (begin st)) l

-- and so does an update: what it makes is of the new tree, and what is no longer of the tree is gone.
abbrev pub UpdatedKeeps : Type 0
UpdatedKeeps =
    (app : App) (σ τ : Store) (st : State) (l : Live) → StandsFor app σ τ st l → Kept app st l → let r = renew_app app τ l st in is_deep r.0 ≡ false → Kept app r.1 r.0

-- So it is in each turn of a session.
abbrev pub FirstKeeps : Type 0
FirstKeeps = (app : App) (t : Turn) → step app first_state None ≡ Some t → let r = grow_app app [] blank in Kept app r.1 r.0

abbrev pub NextKeeps : Type 0
NextKeeps =
    (app : App) (s : session.State) (e : Event) (t : Turn) (st : State) (l : Live) → Reached app s → step app s (Some e) ≡ Some t → Follows app s st l → Kept app st l
    → let sets = (applied app s (Some e)).sets in let r = renew_app app (lay sets s.store) l (set_all app l sets (begin st)) in Kept app r.1 r.0

-- What is kept

-- An id names a thing exactly where the tree counts it: one of its kind, and a reference that reads only references of the tree.
abbrev pub NamesAreThere : Type 0
NamesAreThere =
    (app : App) (st : State) (l : Live) → Kept app st l → (q : Id) → (0 < times q l → IsThing (λ r. times r l) q.kind (st.look q)) × (times q l ≡ 0 → st.look q ≡ None)

-- A reference reads only references that are there, with lower numbers.
abbrev pub ReadsAreLive : Type 0
ReadsAreLive =
    (app : App) (st : State) (l : Live) → Kept app st l → RowsReadLower st.look → (n : ℕ) (x : Row) → st.look (ref n) ≡ Some (row x) → LiveBelow st.look n (reads x.form)

-- What an update freed nobody reads.
abbrev pub FreedIsUnread : Type 0
FreedIsUnread =
    (app : App) (σ τ : Store) (st : State) (l : Live) → StandsFor app σ τ st l → Kept app st l → let r = renew_app app τ l st in is_deep r.0 ≡ false
    → (q : ℕ) → times (ref q) r.0 ≡ 0 → (n : ℕ) (x : Row) → r.1.look (ref n) ≡ Some (row x) → occurs (ref q) (map ref (reads x.form)) ≡ 0

-- No reference outside what may go by itself reads into it: so all of it may be freed, what reads before what is read.
abbrev pub NobodyReadsInto : Type 0
NobodyReadsInto = (app : App) (st : State) (l : Live) → Owned st (λ q. times q l) → Kept app st l → PartsClosed st.look l

-- Moves

-- The items of a rendering are those of its lists: each stands in the list with its list's path, and of the items with that path the list has
-- all, in order.
abbrev pub ItemsByList : Type 0
ItemsByList =
    (app : App) (σ : Store)
    → ((l : Path × List Item) → Among l (lists (draw app σ)) → of_list l.0 (rendered_items (draw app σ)) ≡ l.1)
    × ((i : Item) → Among i (rendered_items (draw app σ)) → Among (list_path i.path) (map (λ l. l.0) (lists (draw app σ))))

-- What a list has are the entries of its values: their keys with the occurrences, and their places as indexes.
abbrev pub ListsAreEntries : Type 0
ListsAreEntries = (app : App) (σ : Store) (l : Path × List Item) → Among l (lists (draw app σ)) → AreEntries l.0 l.1

-- The lists of a tree that stands have the keys of those of the rendering.
abbrev pub TreeListsAreThere : Type 0
TreeListsAreThere = (app : App) (σ τ : Store) (st : State) (l : Live) → StandsFor app σ τ st l → tree_lists [] l ≡ keyed_lists (draw app σ)

-- So where each list of a rendering comes by a plan of the old one with its path, as many items are moved in the turn as the plans move,
abbrev pub MovedByPlans : Type 0
MovedByPlans =
    (app : App) (σ τ : Store) (sets : Sets) (plans : List (List Step)) → ArePlans (keyed_lists (draw app σ)) (keyed_lists (draw app τ)) plans
    → (work (draw app σ) (draw app τ) sets).moved ≡ sum (map moves plans)

-- and so where each list of an updated tree comes by a plan of the one of the tree before.
abbrev pub UpdatedMoves : Type 0
UpdatedMoves =
    (app : App) (σ τ : Store) (sets : Sets) (st : State) (l : Live) (plans : List (List Step)) → StandsFor app σ τ st l → OnlyTouched app σ τ st
    → let r = renew_app app τ l st in ArePlans (tree_lists [] l) (tree_lists [] r.0) plans → (work (draw app σ) (draw app τ) sets).moved ≡ sum (map moves plans)

-- So a turn of a session moves as many items as the plans between the lists of the machine's trees.
abbrev pub NextMoves : Type 0
NextMoves =
    (app : App) (s : session.State) (e : Event) (t : Turn) (st : State) (l : Live) (plans : List (List Step)) → Reached app s → step app s (Some e) ≡ Some t → Follows app s st l
    → let sets = (applied app s (Some e)).sets in let r = renew_app app (lay sets s.store) l (set_all app l sets (begin st)) in
    ArePlans (tree_lists [] l) (tree_lists [] r.0) plans → t.work.moved ≡ sum (map moves plans)

-- As many as `moved_between` counts in the trees before and after an update,
abbrev pub UpdatedMovesBetween : Type 0
UpdatedMovesBetween =
    (app : App) (σ τ : Store) (sets : Sets) (st : State) (l : Live) → StandsFor app σ τ st l → OnlyTouched app σ τ st
    → (work (draw app σ) (draw app τ) sets).moved ≡ moved_between l (renew_app app τ l st).0

-- and so in each turn of a session.
abbrev pub NextMovesBetween : Type 0
NextMovesBetween =
    (app : App) (s : session.State) (e : Event) (t : Turn) (st : State) (l : Live) → Reached app s → step app s (Some e) ≡ Some t → Follows app s st l
    → let sets = (applied app s (Some e)).sets in t.work.moved ≡ moved_between l (renew_app app (lay sets s.store) l (set_all app l sets (begin st))).0

-- Between two lists of keys, of which the old one has no key twice, as many are moved as a plan moves.
abbrev pub PlansMoveBetween : Type 0
PlansMoveBetween = (old new : List Key) (steps : List Step) (removed : List ℕ) → NoRepeat old → IsSync old new steps removed → moves steps ≡ moves_between old new

-- Questions

-- An update that keeps a guard for each region, and enters those alone that stay and whose guard isn't valid, asks at most as much as the meaning
-- says: one question for the whole, and one for each member of each open region.
abbrev pub AskedAtMost : Type 0
AskedAtMost =
    (app : App) (σ τ : Store) (sets : Sets) (st : State) (l : Live) → StandsFor app σ τ st l → OnlyTouched app σ τ st → TouchedBy sets st
    → let r = renew_app app τ l st in asks st.look r.1.touched (λ q. has_path q (regions_of [] r.0)) [] l ≤ asked (draw app σ) (draw app τ) sets

-- The regions of a tree that stands are those of the rendering.
abbrev pub RegionsAreThere : Type 0
RegionsAreThere = (app : App) (σ τ : Store) (st : State) (l : Live) → StandsFor app σ τ st l → regions_of [] l ≡ regions (draw app σ)

-- Where no position is stale, which is where an update changes nothing at all, nothing is asked but the guard of the whole.
abbrev pub FreshAsksOnce : Type 0
FreshAsksOnce =
    (app : App) (σ τ : Store) (st : State) (l : Live) → StandsFor app σ τ st l → NoneStale st l → (stays : Path → Bool) → asks st.look st.touched stays [] l ≤ 1

-- So in each turn of a session after the first it asks at most as much as the turn says.
abbrev pub NextAsks : Type 0
NextAsks =
    (app : App) (s : session.State) (e : Event) (t : Turn) (st : State) (l : Live) → Reached app s → step app s (Some e) ≡ Some t → Follows app s st l
    → let sets = (applied app s (Some e)).sets in let st' = set_all app l sets (begin st) in let r = renew_app app (lay sets s.store) l st' in
    asks st'.look r.1.touched (λ q. has_path q (regions_of [] r.0)) [] l ≤ t.asked
