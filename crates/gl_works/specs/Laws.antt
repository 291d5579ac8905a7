-- The laws of the work of a turn of a machine that names by numbers.
use Rattle.std.specs.Prelude.{◌≡◌, [], Some, None}
use Rattle.gl_meaning.specs.App.{App, Event}
use Rattle.gl_meaning.specs.Laws.{Reached}
use Rattle.gl_meaning.specs.Session as session
use Rattle.gl_meaning.specs.Session.{Turn, first_state, applied, step}
use Rattle.gl_plain.specs.Live.{Live}
use Rattle.gl_plain.specs.Naming.{by_number}
use Rattle.gl_plain.specs.Renew.{renew_app_as}
use Rattle.gl_plain.specs.State.{State}
use Rattle.gl_plain.specs.Turns.{begin}
use Rattle.gl_naming.specs.Exist.{FieldsDiffer}
use Rattle.gl_follows.specs.Sets.{set_all_by, AreThere}
use Rattle.gl_follows.specs.Turns.{FollowsBy}
use Rattle.gl_kept.specs.Between.{moved_between}

-- In the first turn nothing is moved.
abbrev pub FirstMovesNone : Type 0
FirstMovesNone = (app : App) (t : Turn) → step app first_state None ≡ Some t → t.work.moved ≡ 0

-- In the turn of an event, where the machine follows the state before it, as many items are moved as are counted between the trees before and
-- after the update by numbers.
abbrev pub NextMovesBy : Type 0
NextMovesBy =
    (app : App) → FieldsDiffer app → (s : session.State) (e : Event) (t : Turn) → Reached app s → step app s (Some e) ≡ Some t → (st : State) (l : Live) → FollowsBy app s st l
    → let sets = (applied app s (Some e)).sets in AreThere app l sets
    → t.work.moved ≡ moved_between l (renew_app_as by_number app [] l (set_all_by app l sets (begin st))).0
