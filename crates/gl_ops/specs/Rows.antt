-- The rows of the table of the opcodes.
use Rattle.std.specs.Prelude.{ℕ, Option, Some, None}
use Rattle.gl_base.specs.Texts.{Text}

-- a kind's code and mnemonic, and the operands that it uses
pub record Row : Type 0 where
  pub code : ℕ
  pub mnemonic : Text
  pub a : Option ℕ
  pub b : Option ℕ

abbrev pub plain : ℕ → Text → Row
plain code mnemonic = record { code = code; mnemonic = mnemonic; a = None; b = None }

abbrev pub with_a : ℕ → Text → ℕ → Row
with_a code mnemonic a = record { code = code; mnemonic = mnemonic; a = Some a; b = None }

abbrev pub with_b : ℕ → Text → ℕ → Row
with_b code mnemonic b = record { code = code; mnemonic = mnemonic; a = None; b = Some b }

abbrev pub with_both : ℕ → Text → ℕ → ℕ → Row
with_both code mnemonic a b = record { code = code; mnemonic = mnemonic; a = Some a; b = Some b }
