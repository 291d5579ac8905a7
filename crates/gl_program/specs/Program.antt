-- A program: its words, and the pools in which its operands are places, counted from 0.
use Rattle.std.specs.Prelude.{◌≡◌, ℕ, suc, ℤ, List, Option, Some, slice_get, option_and_then}
use Rattle.gl_base.specs.Texts.{Text}
use Rattle.gl_ops.specs.Words.{decoded}
use Rattle.gl_ops.specs.declared.op.Op.{Op}

pub record Program : Type 0 where
  pub words : List ℕ
  pub texts : List Text
  pub names : List Text
  pub ints : List ℤ

-- the opcode of the word at an address, where there is one
abbrev pub op_at : Program → ℕ → Option Op
op_at p address = option_and_then decoded (slice_get p.words address)

-- the opcode stands at the address, alone: the next address is `next`
abbrev pub Stands : Program → ℕ → Op → ℕ → Type 0
Stands p address op next = (op_at p address ≡ Some op) × (suc address ≡ next)

-- The text, the name or the integer is at this place of its pool. It may be at others too.
abbrev pub HasText : Program → ℕ → Text → Type 0
HasText p place s = slice_get p.texts place ≡ Some s

abbrev pub HasName : Program → ℕ → Text → Type 0
HasName p place n = slice_get p.names place ≡ Some n

abbrev pub HasInt : Program → ℕ → ℤ → Type 0
HasInt p place z = slice_get p.ints place ≡ Some z

-- The second program has each opcode of the first at its address, and each entry of its pools at its place. A word that is
-- no opcode's may have become one.
abbrev pub Extends : Program → Program → Type 0
Extends p q =
    ((i : ℕ) (op : Op) → op_at p i ≡ Some op → op_at q i ≡ Some op)
    × ((i : ℕ) (s : Text) → HasText p i s → HasText q i s)
    × ((i : ℕ) (n : Text) → HasName p i n → HasName q i n)
    × ((i : ℕ) (z : ℤ) → HasInt p i z → HasInt q i z)
