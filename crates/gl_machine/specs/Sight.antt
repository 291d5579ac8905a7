-- What the machine sees from a place of a program. It holds addresses where the machine over trees holds parts of trees.
use Rattle.std.specs.Prelude.{ℕ, List, ◌++◌}
use Rattle.gl_base.specs.Texts.{Text}
use Rattle.gl_plain.specs.State.{Names, Inst}

-- parameters by their symbols, with their references
abbrev pub Locals : Type 0
Locals = List (ℕ × ℕ)

mutual
  -- the number of the class in whose program it is, the instance, the arguments, the parameters and what was passed
  pub data Sight : Type 0 where
    sight : ℕ → Inst → Names → Locals → Passing → Sight

  -- what was passed: its id, where the words of the parts begin, where those of each block begin, and what their writer saw
  pub data Passing : Type 0 where
    not_passed : Passing
    passing : ℕ → ℕ → List (Text × ℕ) → Sight → Passing

abbrev pub class_of : Sight → ℕ
class_of (sight c i a l w) = c

abbrev pub inst_in : Sight → Inst
inst_in (sight c i a l w) = i

abbrev pub args_in : Sight → Names
args_in (sight c i a l w) = a

abbrev pub locals_in : Sight → Locals
locals_in (sight c i a l w) = l

abbrev pub passing_in : Sight → Passing
passing_in (sight c i a l w) = w

abbrev pub with_locals : Locals → Sight → Sight
with_locals more (sight c i a l w) = sight c i a (l ++ more) w
