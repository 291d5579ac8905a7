-- The machine over words: its registers and frames.
use Rattle.std.specs.Prelude.{ℕ, suc, List, [], ◌∷◌, ◌++◌, Bool, Option}
use Rattle.gl_base.specs.Texts.{Text}
use Rattle.gl_meaning.specs.Path.{at, Path}
use Rattle.gl_meaning.specs.Render.{Entry}
use Rattle.gl_plain.specs.Ids.{Id}
use Rattle.gl_plain.specs.State.{Names, Inst, State}
use Rattle.gl_plain.specs.Binding.{Spot}
use Rattle.gl_plain.specs.Tags.{Waiting}
use Rattle.gl_plain.specs.Live.{AttrSpot, ItemSpot}
use Rattle.gl_machine.specs.Sight.{Sight}
use Rattle.gl_machine.specs.Code.{Choice, Listing, Code, ItemCodes, no_item_codes, item_code, Codes, no_codes, code_and}

-- where the machine is in a body: its path, the number of the next statement, and what was rendered of it
pub record Here : Type 0 where
  pub path : Path
  pub index : ℕ
  pub codes : List Code

-- where to go on afterwards: which getter's program it is, if any, the address, and what is seen
pub record Back : Type 0 where
  pub getter : Option ℕ
  pub pc : ℕ
  pub sight : Sight
  pub pending : List ℕ

-- an item that is rendered
pub record Item : Type 0 where
  pub spot : ItemSpot
  pub comment : Option ℕ
  pub codes : Codes

-- what was begun
pub data Kind : Type 0 where
  -- the node, the references made for its parts, its attributes and the parts, of which the modifiers are installed at its end
  in_element : ℕ → List Id → List AttrSpot → List Waiting → Kind
  in_branch : Choice → Spot → Bool → Kind
  -- what is seen round it, and what was made for it; of a block also how many parameters its writer saw
  in_let : Sight → List ℕ → List Id → Kind
  -- the items that are left and those that are done; the address of Item
  in_each : Listing → Spot → ℕ → List Entry → List Item → Kind
  in_item : Listing → Spot → ℕ → List Entry → List Item → ItemSpot → Kind
  in_other : Listing → Spot → Kind
  -- the instance, all that was made for it, and what of this was made before its cells
  in_component : Back → Inst → List Id → List Id → Names → Option ℕ → Kind
  in_block : Back → Text → List Id → ℕ → Kind
  in_getter : Back → Kind
  -- the parts for which `...attributes` stands
  in_parts : Back → Kind

pub record Frame : Type 0 where
  pub here : Here
  pub kind : Kind

-- a tag that is not whole yet
pub record Making : Type 0 where
  pub tag : Text
  pub class : ℕ
  pub args : Names
  pub parts : List Waiting
  -- where the words of the component's parts begin
  pub start : ℕ
  pub slots : List (Text × ℕ)

abbrev pub idle : Making
idle = record { tag = []; class = 0; args = []; parts = []; start = 0; slots = [] }

-- all but the state, the stack, the ids made for the present statement, and the place. `left` is how deep components may still nest.
pub record Rest : Type 0 where
  pub getter : Option ℕ
  pub sight : Sight
  pub pending : List ℕ
  pub here : Here
  pub making : Making
  pub left : ℕ
  pub frames : List Frame

-- a reference on the stack, with the name that follows it
abbrev pub Pushed : Type 0
Pushed = Option Text × ℕ

pub record Mach : Type 0 where
  pub state : State
  pub stack : List Pushed
  pub made : List Id
  pub pc : ℕ
  pub rest : Rest

pub data Run : Type 0 where
  going : Mach → Run
  finished : Mach → Run
  too_deep : Run
  stuck : Run

abbrev pub go : State → List Pushed → List Id → ℕ → Rest → Run
go st stk made pc rest = going (record { state = st; stack = stk; made = made; pc = pc; rest = rest })

abbrev pub mach : State → List Pushed → List Id → ℕ → Rest → Mach
mach st stk made pc rest = record { state = st; stack = stk; made = made; pc = pc; rest = rest }

abbrev pub fresh : Path → Here
fresh p = record { path = p; index = 0; codes = [] }

abbrev pub added : Code → Here → Here
added k h = record h { index = suc h.index; codes = h.codes ++ k ∷ [] }

-- the path of the statement that is next
abbrev pub next_at : Here → Path
next_at h = at h.index ∷ h.path

abbrev pub all_of : List Code → Codes
all_of [] = no_codes
all_of (k ∷ ks) = code_and k (all_of ks)

abbrev pub items_all : List Item → ItemCodes
items_all [] = no_item_codes
items_all (x ∷ xs) = item_code x.spot x.comment x.codes (items_all xs)
