-- Gaps that are filled are jumps whose addresses are known.
use Rattle.std.proofs.Common.{◌≡◌, ◌+◌, ℕ, List, [], ◌∷◌, ◌++◌, Ok, length, refl, sym, ap, ◌∙◌, arith, append_assoc, length-append}
use Rattle.std.specs.Prelude.{slice_set}
use Rattle.std.proofs.lemmas.List.{set_at}
use Rattle.gl_ops.specs.declared.op.Op.{Op}
use Rattle.gl_ops.specs.declared.op.Op.TheVariants as op
use Rattle.gl_opc.specs.Linked.{State, Step, ◌>>=◌, here, gap_added, skipped_over, turned, met}
use Rattle.gl_opc.specs.Piece.{Code, Place, Piece, ◌⊕◌, start, after, next, ◌⨾◌, one_op, skipped, skipping, forked}
use Rattle.gl_opc.specs.TreeFaults.{Fault}
use Rattle.gl_opc.proofs.Joins.{ended, behind, code_eq, state_eq, after-⊕, ⊕-assoc, behind-behind, added_op}

-- so many statements with a code behind
abbrev with_code : ℕ → Code → State → State
with_code n x t = record { code = t.code ⊕ x; begun = t.begun + n }

set_first : {A : Type 0} (xs ys : List A) (d k : A) → slice_set ((xs ++ d ∷ []) ++ ys) (length xs) k ≡ xs ++ k ∷ ys
set_first xs ys d k = ap (λ l. slice_set l (length xs) k) (append_assoc xs (d ∷ []) ys) ∙ set_at xs d ys k (length xs) refl

length_gap : {A : Type 0} (xs ys : List A) (d : A) → length ((xs ++ d ∷ []) ++ ys) ≡ ((0 + length xs) + 1) + length ys
length_gap xs ys d = omega (arith, length-append (xs ++ d ∷ []) ys, length-append xs (d ∷ []))

-- the place behind a gap
gap_place : (t : State) → after start (gap_added t).code ≡ next (after start t.code)
gap_place t = ap (λ u. after start u.code) (added_op op.Done t) ∙ after-⊕ start t.code (one_op op.Done)

skipped_with : (kind : ℕ → Op) (n : ℕ) (x : Code) (t : State)
    → skipped_over kind (here t) (record { code = (gap_added t).code ⊕ x; begun = t.begun + n }) ≡ with_code n (skipped kind (after start t.code) x) t
skipped_with kind n x t =
    state_eq (code_eq (set_first t.code.ops x.ops op.Done _ ∙ ap (λ k. t.code.ops ++ kind k ∷ x.ops) (length_gap t.code.ops x.ops op.Done)) refl refl refl) refl

-- a gap that is filled behind a piece
pub skipped_state : (kind : ℕ → Op) (n : ℕ) (f : Piece) (t : State) → skipped_over kind (here t) (behind n f (gap_added t)) ≡ behind n (skipping kind f) t
skipped_state kind n f t =
    ap (λ at. skipped_over kind (here t) (record { code = (gap_added t).code ⊕ f at; begun = t.begun + n })) (gap_place t)
    ∙ skipped_with kind n (f (next (after start t.code))) t

-- the address behind Else
abbrev other : Code → State → ℕ
other x t = (next (after (next (after start t.code)) x)).address

length_two : {A : Type 0} (xs ys : List A) (d : A) → length (((xs ++ d ∷ []) ++ ys) ++ d ∷ []) ≡ (((0 + length xs) + 1) + length ys) + 1
length_two xs ys d = omega (arith, length-append ((xs ++ d ∷ []) ++ ys) (d ∷ []), length_gap xs ys d)

-- the end of a first branch
turned_with : (kind : ℕ → Op) (n : ℕ) (x : Code) (t : State)
    → turned kind (here t) (record { code = (gap_added t).code ⊕ x; begun = t.begun + n }) ≡ gap_added (with_code n (one_op (kind (other x t)) ⊕ x) t)
turned_with kind n x t =
    let os = t.code.ops in
    let d = op.Done ∷ [] in
    state_eq
    (code_eq
    (ap (λ l. slice_set l (length os) (kind (length (((os ++ d) ++ x.ops) ++ d)))) (append_assoc (os ++ d) x.ops d)
    ∙ (set_first os (x.ops ++ d) op.Done _
    ∙ (ap (λ k. os ++ kind k ∷ (x.ops ++ d)) (length_two os x.ops op.Done) ∙ sym (append_assoc os (kind (other x t) ∷ x.ops) d))))
    refl refl refl)
    refl

same_here : (x : Code) (o : Op) (t : State) → length ((gap_added t).code.ops ++ x.ops) ≡ length (t.code.ops ++ o ∷ x.ops)
same_here x o t = omega (arith, length_gap t.code.ops x.ops op.Done, length-append t.code.ops (o ∷ x.ops))

forked_with_code : (kind : ℕ → Op) (n m : ℕ) (x : Code) (g : Piece) (t : State)
    → met (length ((gap_added t).code.ops ++ x.ops)) (behind m g (turned kind (here t) (record { code = (gap_added t).code ⊕ x; begun = t.begun + n })))
    ≡ behind (n + m) ((λ at. one_op (kind (other x t)) ⊕ x) ⨾ skipping op.Else g) t
forked_with_code kind n m x g t =
    let u : State = with_code n (one_op (kind (other x t)) ⊕ x) t in
    ap (λ v. met (length ((gap_added t).code.ops ++ x.ops)) (behind m g v)) (turned_with kind n x t)
    ∙ (ap (λ k. met k (behind m g (gap_added u))) (same_here x (kind (other x t)) t)
    ∙ (skipped_state op.Else m g u ∙ behind-behind n m (λ at. one_op (kind (other x t)) ⊕ x) (skipping op.Else g) t))

-- two branches
pub forked_state : (kind : ℕ → Op) (n m : ℕ) (f g : Piece) (t : State)
    → met (here (behind n f (gap_added t))) (behind m g (turned kind (here t) (behind n f (gap_added t)))) ≡ behind (n + m) (forked kind f g) t
forked_state kind n m f g t =
    let at : Place = after start t.code in
    let x : Code = f (next at) in
    let o : Op = kind (other x t) in
    ap (λ p. met (length ((gap_added t).code.ops ++ (f p).ops)) (behind m g (turned kind (here t) (record { code = (gap_added t).code ⊕ f p; begun = t.begun + n })))) (gap_place t)
    ∙ (forked_with_code kind n m x g t
    ∙ state_eq (ap (λ p. t.code ⊕ ((one_op o ⊕ x) ⊕ skipping op.Else g p)) (after-⊕ at (one_op o) x) ∙ ap (λ y. t.code ⊕ y) (⊕-assoc (one_op o) x (skipping op.Else g (after (next at) x)))) refl)

-- Steps

pub join_skipped : (kind : ℕ → Op) (x : Step State) (fs : List Fault) (n : ℕ) (f : Piece) (t : State)
    → x ≡ ended fs (behind n f (gap_added t)) → (x >>= λ y. Ok (skipped_over kind (here t) y)) ≡ ended fs (behind n (skipping kind f) t)
join_skipped kind x [] n f t e = rw e (ap (λ u. Ok u) (skipped_state kind n f t))
join_skipped kind x (u ∷ fs) n f t e = rw e refl

pub join_forked : (kind : ℕ → Op) (x : Step State) (y : State → Step State) (fs gs : List Fault) (n m : ℕ) (f g : Piece) (t : State)
    → x ≡ ended fs (behind n f (gap_added t))
    → y (turned kind (here t) (behind n f (gap_added t))) ≡ ended gs (behind m g (turned kind (here t) (behind n f (gap_added t))))
    → (x >>= λ u. y (turned kind (here t) u) >>= λ v. Ok (met (here u) v)) ≡ ended (fs ++ gs) (behind (n + m) (forked kind f g) t)
join_forked kind x y [] [] n m f g t e h = rw (e, h) (ap (λ u. Ok u) (forked_state kind n m f g t))
join_forked kind x y [] (u ∷ gs) n m f g t e h = rw (e, h) refl
join_forked kind x y (u ∷ fs) gs n m f g t e h = rw e refl
