-- An opcode as a word of 64 bits: the code in the top 8 bits, operand a in the next 24, operand b in the low 32.
use Rattle.std.specs.Prelude.{ℕ, ◌≡◌, ◌<◌, ◌+◌, ◌*◌, ◌/◌, ◌%◌, ◌^◌, Option, Some, None}
use Rattle.gl_ops.specs.Finding.{op_of}
use Rattle.gl_ops.specs.Opcodes.{row_of}
use Rattle.gl_ops.specs.declared.op.Op.{Op}

-- an operand that the kind doesn't use is 0
abbrev pub operand : Option ℕ → ℕ
operand None = 0
operand (Some x) = x

abbrev pub word_of : Op → ℕ
word_of op = (row_of op).code * 2 ^ 56 + operand (row_of op).a * 2 ^ 32 + operand (row_of op).b

-- each operand has room in a word
abbrev pub HasRoom : Op → Type 0
HasRoom op = (operand (row_of op).a < 2 ^ 24) × (operand (row_of op).b < 2 ^ 32)

-- the word is the one of the opcode
abbrev pub IsWordOf : Op → ℕ → Type 0
IsWordOf op word = HasRoom op × (word_of op ≡ word)

-- the opcode of a word, where it has one
unfoldable pub decoded : ℕ → Option Op
decoded word = op_of (word / 2 ^ 56) (word / 2 ^ 32 % 2 ^ 24) (word % 2 ^ 32)
