-- What an event sets, in the state.
use Rattle.std.specs.Prelude.{[], ◌∷◌, ◌||◌, filter_map, Option, Some}
use Rattle.gl_meaning.specs.App.{App}
use Rattle.gl_meaning.specs.Path.{at_path}
use Rattle.gl_meaning.specs.Scope.{Source, cell}
use Rattle.gl_meaning.specs.Eval.{Held, class_at, Member, field_member, member_of}
use Rattle.gl_meaning.specs.Changes.{Sets}
use Rattle.gl_plain.specs.State.{Inst, cell_ref, source_eq, State, touch}
use Rattle.gl_plain.specs.Live.{Live}
use Rattle.gl_turns.specs.Places.{instance_in, places}

-- the source is touched, and no reference has it
abbrev pub touch_none : Source → State → State
touch_none x st = record {
  look = st.look;
  next = st.next;
  touched = λ y. source_eq y x || st.touched y;
  evaluated = st.evaluated;
  installs = st.installs;
  updates = st.updates;
}

-- The reference of the instance's cell is given the value. What isn't a field of an instance that is there has no reference.
abbrev pub set_at : Option Inst → Member → Held → State → State
set_at (Some i) field_member h st = touch (cell_ref i h.field) (cell h.instance h.field) h.value st
set_at _ _ h st = touch_none (cell h.instance h.field) st

abbrev pub set_one : App → Live → Held → State → State
set_one app l h st = set_at (at_path h.instance (filter_map instance_in (places [] l))) (member_of (class_at app h.instance) h.field) h st

-- the sets in order
abbrev pub set_all : App → Live → Sets → State → State
set_all app l [] st = st
set_all app l (h ∷ hs) st = set_all app l hs (set_one app l h st)
