-- Laws of lists of opcodes and their words.
use Rattle.std.proofs.Common.{◌≡◌, ◌<◌, ◌≤◌, ◌↔◌, ◌+◌, ℕ, zero, suc, List, [], ◌∷◌, ◌++◌, Option, Some, length, drop, slice_index_or, refl, sym, ap, ◌∙◌, append_assoc, append-nil, add-one, arith}
use Rattle.std.proofs.lemmas.List.{drop_all}
use Rattle.gl_ops.specs.Lines.{line_of, lines_of, AreWordsOf}
use Rattle.gl_ops.specs.Words.{IsWordOf}
use Rattle.gl_ops.specs.declared.op.Op.{Op}

pub length_words : (ops : List Op) (words : List ℕ) → AreWordsOf ops words → length ops ≡ length words
length_words [] [] h = refl
length_words [] (w ∷ ws) h = absurd h
length_words (op ∷ ops) [] h = absurd h
length_words (op ∷ ops) (w ∷ ws) h = let rest : length ops ≡ length ws = length_words ops ws h.1 in omega (arith, rest)

-- at each word stands the opcode that it is of
pub op_at_word : (ops : List Op) (words : List ℕ) (i : ℕ) (d : ℕ) → AreWordsOf ops words → i < length words → (op : Op) × (IsWordOf op (slice_index_or words i d) × (drop i ops ≡ op ∷ drop (suc i) ops))
op_at_word [] [] i d h l = absurd (omega arith)
op_at_word [] (w ∷ ws) i d h l = absurd h
op_at_word (op ∷ ops) [] i d h l = absurd h
op_at_word (op ∷ ops) (w ∷ ws) zero d h l = (op, (h.0, refl))
op_at_word (op ∷ ops) (w ∷ ws) (suc i) d h l = op_at_word ops ws i d h.1 (omega arith)

-- so the opcode that is read from a word is the one that stands there
pub read_op : (ops : List Op) (words : List ℕ) (i : ℕ) (d : ℕ) (read : Option Op) → AreWordsOf ops words → i < length words → ((o : Op) → (read ≡ Some o) ↔ IsWordOf o (slice_index_or words i d)) → (op : Op) × ((read ≡ Some op) × (drop i ops ≡ op ∷ drop (suc i) ops))
read_op ops words i d read h l reads =
    let p = op_at_word ops words i d h l in
    (p.0, ((reads p.0).1 p.1.0, p.1.1))

-- one more line is written
pub line_more : (ops : List Op) (words : List ℕ) (i : ℕ) (d : ℕ) (read : Option Op) (op : Op) (out new : List ℕ) → AreWordsOf ops words → i < length words → ((o : Op) → (read ≡ Some o) ↔ IsWordOf o (slice_index_or words i d)) → read ≡ Some op → new ≡ out ++ line_of i op → out ++ lines_of i (drop i ops) ≡ lines_of 0 ops → new ++ lines_of (i + 1) (drop (i + 1) ops) ≡ lines_of 0 ops
line_more ops words i d read op out new h l reads is more e =
    let p = read_op ops words i d read h l reads in
    let same : p.0 ≡ op = let both : Some p.0 ≡ Some op = sym p.1.0 ∙ is in cc in
    let rest : drop i ops ≡ op ∷ drop (suc i) ops = p.1.1 ∙ ap (λ o. o ∷ drop (suc i) ops) same in
    rw (add-one, more) (append_assoc out (line_of i op) (lines_of (suc i) (drop (suc i) ops)) ∙ (rw rest at e))

-- no word is left
pub no_line : (ops : List Op) (words : List ℕ) (i : ℕ) (out : List ℕ) → AreWordsOf ops words → length words ≤ i → out ++ lines_of i (drop i ops) ≡ lines_of 0 ops → out ≡ lines_of 0 ops
no_line ops words i out h l e =
    let n : length ops ≤ i = omega (arith, length_words ops words h, l) in
    sym (append-nil out) ∙ (rw (drop_all i ops n) at e)
