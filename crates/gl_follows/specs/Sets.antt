-- What an event sets, by numbers.
use Rattle.std.specs.Prelude.{◌≡◌, ℕ, List, [], ◌∷◌, filter_map, Option, Some}
use Rattle.gl_base.specs.Texts.{Text}
use Rattle.gl_meaning.specs.App.{App}
use Rattle.gl_meaning.specs.Path.{Path, V, at_path}
use Rattle.gl_meaning.specs.Eval.{Held, class_at, Member, field_member, member_of}
use Rattle.gl_meaning.specs.Known.{Among}
use Rattle.gl_meaning.specs.Changes.{Sets}
use Rattle.gl_plain.specs.Ids.{instance_id}
use Rattle.gl_plain.specs.State.{Inst, cell_ref, instance_row, Thing, State, touch}
use Rattle.gl_plain.specs.Live.{Live}
use Rattle.gl_naming.specs.Numbered.{number}
use Rattle.gl_naming.specs.Ties.{numbers, owner_key, owners_in}
use Rattle.gl_turns.specs.Places.{instance_in, places}

-- The reference of the instance's cell is given the value, and the source of its own number is touched.
abbrev pub set_at_by : Option Inst → Member → Held → State → State
set_at_by (Some i) field_member h st = touch (cell_ref i h.field) (number (cell_ref i h.field)) h.value st
set_at_by _ _ h st = st

abbrev pub set_one_by : App → Live → Held → State → State
set_one_by app l h st = set_at_by (at_path h.instance (filter_map instance_in (places [] l))) (member_of (class_at app h.instance) h.field) h st

-- the sets in order
abbrev pub set_all_by : App → Live → Sets → State → State
set_all_by app l [] st = st
set_all_by app l (h ∷ hs) st = set_all_by app l hs (set_one_by app l h st)

-- the set is one of a field of an instance of the tree
pub record IsThere (app : App) (l : Live) (h : Held) : Type 0 where
  pub inst : Inst
  pub at : at_path h.instance (filter_map instance_in (places [] l)) ≡ Some inst
  pub field : member_of (class_at app h.instance) h.field ≡ field_member

abbrev pub AreThere : App → Live → Sets → Type 0
AreThere app l [] = Unit {0}
AreThere app l (h ∷ hs) = IsThere app l h × AreThere app l hs

-- By the number of an owner, as a machine has it: a field of the instance that is kept under the number is given the value.
pub record Put : Type 0 where
  pub owner : ℕ
  pub field : Text
  pub value : V

abbrev pub put_at : Option Thing → Put → State → State
put_at (Some (instance_row i)) x st = touch (cell_ref i x.field) (number (cell_ref i x.field)) x.value st
put_at _ x st = st

abbrev pub put_all : List Put → State → State
put_all [] st = st
put_all (x ∷ xs) st = put_all xs (put_at (st.look (instance_id x.owner)) x st)

-- what is set so, where an owner's number has that name
abbrev pub held_of : (Path → Path) → Put → Held
held_of f x = record { instance = f (owner_key x.owner); field = x.field; value = x.value }

-- each is a field of an instance of the tree
abbrev pub AreOwn : App → (Path → Path) → Live → List Put → Type 0
AreOwn app f l [] = Unit {0}
AreOwn app f l (x ∷ xs) = Among x.owner (numbers (owners_in l)) × (member_of (class_at app (f (owner_key x.owner))) x.field ≡ field_member) × AreOwn app f l xs
