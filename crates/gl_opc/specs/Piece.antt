-- What linking adds to a program, as lists: opcodes, and entries of the pools.
use Rattle.std.specs.Prelude.{ℕ, ◌+◌, ℤ, List, [], ◌∷◌, ◌++◌, Option, Some, None, length, if◌then◌else◌}
use Rattle.gl_base.specs.Names.{has_text}
use Rattle.gl_base.specs.Texts.{Text}
use Rattle.gl_ops.specs.declared.op.Op.{Op}
use Rattle.gl_ops.specs.declared.op.Op.TheVariants as op
use Rattle.gl_wire.specs.Symbols.{place_of}

pub record Code : Type 0 where
  pub ops : List Op
  pub texts : List Text
  pub names : List Text
  pub ints : List ℤ

abbrev pub no_code : Code
no_code = record { ops = []; texts = []; names = []; ints = [] }

-- one code behind another
infixr 20 ◌⊕◌
abbrev pub ◌⊕◌ : Code → Code → Code
x ⊕ y = record { ops = x.ops ++ y.ops; texts = x.texts ++ y.texts; names = x.names ++ y.names; ints = x.ints ++ y.ints }

-- the address of the next opcode, the texts and the names that stand in the pools, and the place of the next integer
pub record Place : Type 0 where
  pub address : ℕ
  pub texts : List Text
  pub names : List Text
  pub integer : ℕ

abbrev pub start : Place
start = record { address = 0; texts = []; names = []; integer = 0 }

-- the place behind a code that begins at a place
abbrev pub after : Place → Code → Place
after at x = record {
  address = at.address + length x.ops;
  texts = at.texts ++ x.texts;
  names = at.names ++ x.names;
  integer = at.integer + length x.ints;
}

-- what is to be added to a pool so that a text stands in it: each stands in it once
abbrev pub missing : List Text → Text → List Text
missing pool t = if has_text t pool then [] else t ∷ []

-- A piece is a code that is told where it begins.
abbrev pub Piece : Type 0
Piece = Place → Code

abbrev pub nothing : Piece
nothing at = no_code

-- one piece after another
abbrev pub followed_by : Place → Code → Piece → Code
followed_by at x f = x ⊕ f (after at x)

infixr 15 ◌⨾◌
abbrev pub ◌⨾◌ : Piece → Piece → Piece
(f ⨾ g) at = followed_by at (f at) g

abbrev pub one_op : Op → Code
one_op o = record { ops = o ∷ []; texts = []; names = []; ints = [] }

-- an opcode
abbrev pub op_piece : Op → Piece
op_piece o at = one_op o

-- an entry of a pool, where it doesn't stand there yet
abbrev pub text_entry : Text → Piece
text_entry s at = record { ops = []; texts = missing at.texts s; names = []; ints = [] }

abbrev pub name_entry : Text → Piece
name_entry n at = record { ops = []; texts = []; names = missing at.names n; ints = [] }

-- an entry of a pool, and what is done with its place
abbrev pub with_text : Text → (ℕ → Piece) → Piece
with_text s f at = followed_by at (text_entry s at) (f (place_of at.texts s))

abbrev pub with_name : Text → (ℕ → Piece) → Piece
with_name n f at = followed_by at (name_entry n at) (f (place_of at.names n))

abbrev pub with_int : ℤ → (ℕ → Piece) → Piece
with_int z f at = followed_by at (record { ops = []; texts = []; names = []; ints = z ∷ [] }) (f at.integer)

-- an opcode with a text, with a name, with an integer
abbrev pub text_op : (ℕ → Op) → Text → Piece
text_op kind s = with_text s (λ t. op_piece (kind t))

abbrev pub name_op : (ℕ → Op) → Text → Piece
name_op kind n = with_name n (λ a. op_piece (kind a))

abbrev pub int_op : (ℕ → Op) → ℤ → Piece
int_op kind z = with_int z (λ i. op_piece (kind i))

-- the opcode of a number, where there is one
abbrev pub op_where : (ℕ → Op) → Option ℕ → Piece
op_where kind None = nothing
op_where kind (Some k) = op_piece (kind k)

abbrev pub op_if : Option Op → Piece
op_if None = nothing
op_if (Some o) = op_piece o

-- the place behind one opcode more
abbrev pub next : Place → Place
next at = after at (one_op op.Done)

-- an opcode that has the address behind a piece, and the piece
abbrev pub skipped : (ℕ → Op) → Place → Code → Code
skipped kind at x = one_op (kind (after (next at) x).address) ⊕ x

abbrev pub skipping : (ℕ → Op) → Piece → Piece
skipping kind f at = skipped kind at (f (next at))

-- Two branches: an opcode that has the address of the second one, the first one, Else with the address behind the second one,
-- and the second one.
abbrev pub forked_at : (ℕ → Op) → Place → Code → Code → Code
forked_at kind at x y =
    one_op (kind (next (after (next at) x)).address)
    ⊕ (x ⊕ (one_op (op.Else (after (next (after (next at) x)) y).address) ⊕ y))

abbrev pub forked_with : (ℕ → Op) → Place → Code → Piece → Code
forked_with kind at x g = forked_at kind at x (g (next (after (next at) x)))

abbrev pub forked : (ℕ → Op) → Piece → Piece → Piece
forked kind f g at = forked_with kind at (f (next at)) g
