-- The code and the operands of a word.
use Rattle.std.proofs.Common.{◌≡◌, ◌<◌, ◌+◌, ◌*◌, ◌/◌, ◌%◌, ◌^◌, ℕ, IsNone, Option, Some, None, ◌↔◌, refl, sym, ◌∙◌, arith, bit_and}
use Rattle.std.proofs.lemmas.Nat.{and_mask}
use Rattle.gl_ops.specs.Finding.{op_of}
use Rattle.gl_ops.specs.Opcodes.{row_of}
use Rattle.gl_ops.specs.Words.{operand, word_of, HasRoom, IsWordOf, decoded}
use Rattle.gl_ops.specs.declared.op.Op.{Op}
use Rattle.gl_ops.proofs.Finding.{found_op, op_at}

-- a word is its code and its operands
pub word_parts : (w : ℕ) → w / 2 ^ 56 * 2 ^ 56 + w / 2 ^ 32 % 2 ^ 24 * 2 ^ 32 + w % 2 ^ 32 ≡ w
word_parts w = omega arith

-- and nothing else is
pub parts_only : (w c a b : ℕ) → a < 2 ^ 24 → b < 2 ^ 32 → c * 2 ^ 56 + a * 2 ^ 32 + b ≡ w → (c ≡ w / 2 ^ 56) × (a ≡ w / 2 ^ 32 % 2 ^ 24) × (b ≡ w % 2 ^ 32)
parts_only w c a b ha hb e = (omega arith, omega arith, omega arith)

-- a word is decoded as an opcode exactly where it is the opcode's
pub decoded_exactly : (w : ℕ) (op : Op) → (decoded w ≡ Some op) ↔ IsWordOf op w
unfolding decoded
decoded_exactly w op = (
  λ e.
      let p = op_at (w / 2 ^ 56) (w / 2 ^ 32 % 2 ^ 24) (w % 2 ^ 32) op e in
      let room : HasRoom op = (omega (arith, p), omega (arith, p)) in
      (room, omega (arith, word_parts w, p)),
  λ h.
      let p = parts_only w (row_of op).code (operand (row_of op).a) (operand (row_of op).b) h.0.0 h.0.1 h.1 in
      rw (← p.0, ← p.1, ← p.2) (found_op op),
)

pub decoded_word : (op : Op) → HasRoom op → decoded (word_of op) ≡ Some op
decoded_word op h = (decoded_exactly (word_of op) op).1 (h, refl)

pub one_opcode : (w : ℕ) (op oq : Op) → IsWordOf op w → IsWordOf oq w → op ≡ oq
one_opcode w op oq h k =
    let e : Some op ≡ Some oq = sym ((decoded_exactly w op).1 h) ∙ (decoded_exactly w oq).1 k in cc

-- the code's shifts and masks give the parts of the word
pub decoded_by_masks : (w : ℕ) → op_of (w / 2 ^ 56) (bit_and (w / 2 ^ 32) 16777215) (bit_and w 4294967295) ≡ decoded w
unfolding decoded
decoded_by_masks w = rw (and_mask (w / 2 ^ 32) 24, and_mask w 32) refl

-- no opcode is found exactly where there is none
pub decode_none : (o : Option Op) (P : Op → Type 0) → ((op : Op) → (o ≡ Some op) ↔ P op) → IsNone o ↔ ((op : Op) → ¬ (P op))
decode_none None P h = (λ n op p. let e : None ≡ Some op = (h op).1 p in cc, λ n. refl)
decode_none (Some x) P h = (λ n. cc, λ n. absurd (n x ((h x).0 refl)))
