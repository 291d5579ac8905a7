-- What a program grows by extends it: words and entries at the end, and an opcode in place of a word that is none.
use Rattle.std.proofs.Common.{◌≡◌, ℕ, zero, suc, ℤ, List, [], ◌∷◌, ◌++◌, Some, None, slice_get, slice_set}
use Rattle.std.specs.Prelude.{option_and_then}
use Rattle.gl_base.specs.Texts.{Text}
use Rattle.gl_ops.specs.Words.{decoded}
use Rattle.gl_ops.specs.declared.op.Op.{Op}
use Rattle.gl_program.specs.Program.{Program, op_at, Extends}

-- what stands in a list stands in it with more at the end
still : {A : Type 0} (xs ys : List A) (i : ℕ) (a : A) → slice_get xs i ≡ Some a → slice_get (xs ++ ys) i ≡ Some a
still [] ys i a h = cc
still (x ∷ xs) ys zero a h = h
still (x ∷ xs) ys (suc i) a h = still xs ys i a h

still_decoded : (ws vs : List ℕ) (i : ℕ) (o : Op) → option_and_then decoded (slice_get ws i) ≡ Some o → option_and_then decoded (slice_get (ws ++ vs) i) ≡ Some o
still_decoded [] vs i o h = cc
still_decoded (w ∷ ws) vs zero o h = h
still_decoded (w ∷ ws) vs (suc i) o h = still_decoded ws vs i o h

pub more_words : (p : Program) (ws : List ℕ) → Extends p (record p { words = p.words ++ ws })
more_words p ws = (λ i o h. still_decoded p.words ws i o h, λ i s h. h, λ i n h. h, λ i z h. h)

pub more_texts : (p : Program) (ts : List Text) → Extends p (record p { texts = p.texts ++ ts })
more_texts p ts = (λ i o h. h, λ i s h. still p.texts ts i s h, λ i n h. h, λ i z h. h)

pub more_names : (p : Program) (ns : List Text) → Extends p (record p { names = p.names ++ ns })
more_names p ns = (λ i o h. h, λ i s h. h, λ i n h. still p.names ns i n h, λ i z h. h)

pub more_ints : (p : Program) (zs : List ℤ) → Extends p (record p { ints = p.ints ++ zs })
more_ints p zs = (λ i o h. h, λ i s h. h, λ i n h. h, λ i z h. still p.ints zs i z h)

set_decoded : (ws : List ℕ) (at i : ℕ) (w : ℕ) (o : Op) → option_and_then decoded (slice_get ws at) ≡ None → option_and_then decoded (slice_get ws i) ≡ Some o → option_and_then decoded (slice_get (slice_set ws at w) i) ≡ Some o
set_decoded [] at i w o none h = cc
set_decoded (v ∷ ws) zero zero w o none h = cc
set_decoded (v ∷ ws) zero (suc i) w o none h = h
set_decoded (v ∷ ws) (suc at) zero w o none h = h
set_decoded (v ∷ ws) (suc at) (suc i) w o none h = set_decoded ws at i w o none h

-- a word that is no opcode's is set
pub set_word : (p : Program) (at w : ℕ) → op_at p at ≡ None → Extends p (record p { words = slice_set p.words at w })
set_word p at w none = (λ i o h. set_decoded p.words at i w o none h, λ i s h. h, λ i n h. h, λ i z h. h)
