-- What the machine keeps, as plain data.
use Rattle.std.specs.Prelude.{ℕ, zero, suc, List, [], ◌∷◌, ◌++◌, map, Bool, false, ◌&&◌, ◌||◌, nat_eq, if◌then◌else◌, Option, Some, None, unwrap_or}
use Rattle.std.specs.List.{list_any}
use Rattle.std.specs.Str.{bytes_eq}
use Rattle.gl_base.specs.Texts.{Text}
use Rattle.gl_base.specs.Names.{named}
use Rattle.gl_value.specs.Value.{undefined}
use Rattle.gl_ast.specs.Template.{Part, Slots, no_slots}
use Rattle.gl_meaning.specs.Path.{Path, V, path_eq}
use Rattle.gl_meaning.specs.Scope.{Source, cell, item_value, item_index, Pair, absent, of_value, sources_of, NamedPairs, Scope, scope, Passed, nothing_passed, passed}
use Rattle.gl_meaning.specs.Eval.{with_properties, call_pair, cat_pair}
use Rattle.gl_meaning.specs.Parts.{Attrs}
use Rattle.gl_plain.specs.Ids.{Kind, Id, kind_eq, id_eq, ref}

-- References

-- What a reference is. A cell or an item holds the value of its source; the others read references with lower numbers.
pub data Form : Type 0 where
  constant_form : V → Form
  source_form : Source → V → Form
  property_form : ℕ → Text → Form
  call_form : Text → List ℕ → List (Text × ℕ) → Form
  joined_form : List ℕ → Form
  -- a position: each of these is read
  all_form : List ℕ → Form

-- Whether a test holds of one of the sources. What was read is kept as this alone, since neither the order of sources nor how often one was
-- read has a meaning.
abbrev pub any_of : List Source → (Source → Bool) → Bool
any_of xs p = list_any p xs

-- a reference, with the sources of its last evaluation
pub record Row : Type 0 where
  pub form : Form
  pub last : (Source → Bool) → Bool

abbrev pub Names : Type 0
Names = List (Text × ℕ)

-- the names with what f gives for the references
abbrev pub names_by : (ℕ → Pair) → Names → NamedPairs
names_by f ns = map (λ n. (n.0, f n.1)) ns

-- what a form means, from what references mean
abbrev pub form_pair : (ℕ → Pair) → Form → Pair
form_pair f (constant_form v) = of_value v
form_pair f (source_form x v) = record { value = v; sources = x ∷ [] }
form_pair f (property_form r k) = with_properties (k ∷ []) (f r)
form_pair f (call_form n rs ns) = call_pair n (map f rs) (names_by f ns)
form_pair f (joined_form rs) = cat_pair (map f rs)
form_pair f (all_form rs) = record { value = undefined; sources = sources_of (map f rs) }

-- Scopes

-- an instance with the references of its cells
pub record Inst : Type 0 where
  pub id : ℕ
  pub path : Path
  pub cells : Names

-- The scope of a template. A block that is passed has an id, under which its scope is kept.
mutual
  pub data MScope : Type 0 where
    mscope : Inst → Names → Names → MPassed → MScope

  pub data MPassed : Type 0 where
    mnothing : MPassed
    mpassed : ℕ → List Part → Slots → MScope → MPassed

-- the scope of the meaning, from what references mean
abbrev mutual
  pub scope_by : (ℕ → Pair) → MScope → Scope
  scope_by f (mscope i a l w) = scope i.path (names_by f a) (names_by f l) (passed_by f w)

  pub passed_by : (ℕ → Pair) → MPassed → Passed
  passed_by f mnothing = nothing_passed
  passed_by f (mpassed b ps bs s) = passed ps bs (scope_by f s)

abbrev pub inst_of : MScope → Inst
inst_of (mscope i a l w) = i

abbrev pub args_of : MScope → Names
args_of (mscope i a l w) = a

abbrev pub locals_in : MScope → Names
locals_in (mscope i a l w) = l

abbrev pub passed_in : MScope → MPassed
passed_in (mscope i a l w) = w

-- the blocks that were passed, and the scope that wrote them
abbrev pub mslots : MPassed → Slots
mslots mnothing = no_slots
mslots (mpassed k ps bs s) = bs

abbrev pub mwriter : MPassed → MScope
mwriter mnothing = mscope (record { id = 0; path = []; cells = [] }) [] [] mnothing
mwriter (mpassed k ps bs s) = s

abbrev pub writer : Passed → Scope
writer nothing_passed = scope [] [] [] nothing_passed
writer (passed ps bs s) = s

-- the references of parameters, and parameters with these references
abbrev pub refs_of : Names → List ℕ
refs_of ns = map (λ n. n.1) ns

abbrev pub named_as : List Text → List ℕ → Names
named_as [] rs = []
named_as (n ∷ ns) [] = []
named_as (n ∷ ns) (r ∷ rs) = (n, r) ∷ named_as ns rs

abbrev pub with_names : Names → MScope → MScope
with_names more (mscope i a l w) = mscope i a (l ++ more) w

abbrev pub own : MScope → MScope
own (mscope i a l w) = mscope i a [] mnothing

abbrev pub cell_ref : Inst → Text → ℕ
cell_ref i x = unwrap_or (named x i.cells) 0

-- All that is kept

pub data Content : Type 0 where
  element_content : Text → Attrs → Content
  text_content : Text → Content
  comment_content : Text → Content

pub record Installed : Type 0 where
  pub on_node : ℕ
  pub place : ℕ
  pub name : Text
  pub args : List V
  pub names : List (Text × V)

pub data Thing : Type 0 where
  row : Row → Thing
  content : Content → Thing
  instance_row : Inst → Thing
  -- What is passed isn't kept here: the parts and blocks that were written stand in the template.
  block_row : Thing
  modifier_row : Installed → Thing

-- What each id names, where it is live; the next number of each kind; whether a source was touched since the turn began; the
-- references evaluated, and the modifiers installed and updated since then.
pub record State : Type 0 where
  pub look : Id → Option Thing
  pub next : Kind → ℕ
  pub touched : Source → Bool
  pub evaluated : List ℕ
  pub installs : List ℕ
  pub updates : List ℕ

-- What references mean now: each from those with lower numbers.
abbrev pub thing_pair : (ℕ → Pair) → Option Thing → Pair
thing_pair f (Some (row x)) = form_pair f x.form
thing_pair f _ = absent

abbrev pub pairs_below : (Id → Option Thing) → ℕ → ℕ → Pair
pairs_below look zero q = absent
pairs_below look (suc n) q = if nat_eq q n then thing_pair (pairs_below look n) (look (ref n)) else pairs_below look n q

abbrev pub pair_of : (Id → Option Thing) → ℕ → Pair
pair_of look r = pairs_below look (suc r) r

-- Steps

abbrev pub make : Kind → Thing → State → State
make k x st = record {
  look = λ q. if id_eq q (record { kind = k; num = st.next k }) then Some x else st.look q;
  next = λ j. if kind_eq j k then suc (st.next k) else st.next j;
  touched = st.touched;
  evaluated = st.evaluated;
  installs = st.installs;
  updates = st.updates;
}

-- another thing for an id
abbrev pub put_thing : Id → Thing → State → State
put_thing i x st = record {
  look = λ q. if id_eq q i then Some x else st.look q;
  next = st.next;
  touched = st.touched;
  evaluated = st.evaluated;
  installs = st.installs;
  updates = st.updates;
}

abbrev pub note_evaluated : ℕ → State → State
note_evaluated r st = record {
  look = st.look;
  next = st.next;
  touched = st.touched;
  evaluated = st.evaluated ++ r ∷ [];
  installs = st.installs;
  updates = st.updates;
}

abbrev pub note_installed : ℕ → State → State
note_installed m st = record {
  look = st.look;
  next = st.next;
  touched = st.touched;
  evaluated = st.evaluated;
  installs = st.installs ++ m ∷ [];
  updates = st.updates;
}

abbrev pub note_updated : ℕ → State → State
note_updated m st = record {
  look = st.look;
  next = st.next;
  touched = st.touched;
  evaluated = st.evaluated;
  installs = st.installs;
  updates = st.updates ++ m ∷ [];
}

-- all ids that are counted go
abbrev pub dropped : (Id → ℕ) → State → State
dropped count st = record {
  look = λ q. if nat_eq (count q) 0 then st.look q else None;
  next = st.next;
  touched = st.touched;
  evaluated = st.evaluated;
  installs = st.installs;
  updates = st.updates;
}

-- the source is touched, and its reference has another value
abbrev pub source_eq : Source → Source → Bool
source_eq (cell p x) (cell q y) = path_eq p q && bytes_eq x y
source_eq (item_value p) (item_value q) = path_eq p q
source_eq (item_index p) (item_index q) = path_eq p q
source_eq _ _ = false

abbrev pub touch : ℕ → Source → V → State → State
touch r x v st = record {
  look = λ q. if id_eq q (ref r) then Some (row (record { form = source_form x v; last = any_of [] })) else st.look q;
  next = st.next;
  touched = λ y. source_eq y x || st.touched y;
  evaluated = st.evaluated;
  installs = st.installs;
  updates = st.updates;
}

-- the value of a cell or an item
abbrev pub form_value : Form → V
form_value (source_form x v) = v
form_value _ = undefined

abbrev pub held_value : Option Thing → V
held_value (Some (row x)) = form_value x.form
held_value _ = undefined
