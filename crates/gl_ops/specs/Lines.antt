-- A program's words as lines of text.
use Rattle.std.specs.Prelude.{ℕ, suc, List, [], ◌∷◌, ◌++◌, Option, Some, None, ⊤}
use Rattle.std.specs.Fmt.{decimal}
use Rattle.gl_base.specs.Texts.{Text}
use Rattle.gl_ops.specs.Opcodes.{row_of}
use Rattle.gl_ops.specs.Words.{IsWordOf}
use Rattle.gl_ops.specs.declared.op.Op.{Op}

-- an operand that the kind uses, in decimal after a blank
abbrev pub operand_text : Option ℕ → Text
operand_text None = []
operand_text (Some x) = 32 ∷ decimal x

-- a word's address, its mnemonic and its operands, a before b, and a line feed
abbrev pub line_of : ℕ → Op → Text
line_of address op =
    decimal address ++ (32 ∷ ((row_of op).mnemonic ++ (operand_text (row_of op).a ++ (operand_text (row_of op).b ++ 10 ∷ []))))

-- a line for each opcode, where the first stands at the address
abbrev pub lines_of : ℕ → List Op → Text
lines_of address [] = []
lines_of address (op ∷ ops) = line_of address op ++ lines_of (suc address) ops

-- the words are those of the opcodes, in order
abbrev pub AreWordsOf : List Op → List ℕ → Type 0
AreWordsOf [] [] = ⊤
AreWordsOf (op ∷ ops) (word ∷ words) = IsWordOf op word × AreWordsOf ops words
AreWordsOf _ _ = ⊥
