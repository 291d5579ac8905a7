-- What is kept, by kind and number, and the state that it is.
use Rattle.std.specs.Prelude.{ℕ, zero, suc, List, Bool, false, ◌||◌, Option, option_map}
use Rattle.gl_meaning.specs.Scope.{Source}
use Rattle.gl_plain.specs.Ids.{Kind, a_ref, a_node, an_instance, a_block, a_modifier}
use Rattle.gl_plain.specs.State.{Row, row, Content, content, Inst, instance_row, block_row, Installed, modifier_row, Thing, State}

-- What each number names, the number of the next of each kind, and the lists of the turn. A block has no more than that it lives.
pub record Kept : Type 0 where
  pub row : ℕ → Option Row
  pub node : ℕ → Option Content
  pub inst : ℕ → Option Inst
  pub block : ℕ → Option (Unit {0})
  pub modifier : ℕ → Option Installed
  pub rows : ℕ
  pub nodes : ℕ
  pub insts : ℕ
  pub blocks : ℕ
  pub mods : ℕ
  pub evaluated : List ℕ
  pub installs : List ℕ
  pub updates : List ℕ

abbrev pub thing_at : Kept → Kind → ℕ → Option Thing
thing_at k a_ref n = option_map row (k.row n)
thing_at k a_node n = option_map content (k.node n)
thing_at k an_instance n = option_map instance_row (k.inst n)
thing_at k a_block n = option_map (λ u. block_row) (k.block n)
thing_at k a_modifier n = option_map modifier_row (k.modifier n)

abbrev pub next_of : Kept → Kind → ℕ
next_of k a_ref = k.rows
next_of k a_node = k.nodes
next_of k an_instance = k.insts
next_of k a_block = k.blocks
next_of k a_modifier = k.mods

-- the state, where these sources were touched
abbrev pub state_by : Kept → (Source → Bool) → State
state_by k touched = record {
  look = λ q. thing_at k q.kind q.num;
  next = next_of k;
  touched = touched;
  evaluated = k.evaluated;
  installs = k.installs;
  updates = k.updates;
}

-- whether a number below n passes the test
abbrev pub some_below : (ℕ → Bool) → ℕ → Bool
some_below test zero = false
some_below test (suc n) = test n || some_below test n
