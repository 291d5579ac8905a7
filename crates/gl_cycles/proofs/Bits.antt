-- What is in a set with a place, and in two sets together.
use Rattle.std.proofs.Common.{◌≡◌, ℕ, ◌<◌, ◌≤◌, ◌^◌, max, true, false, List, length, refl, arith, ◌⊎◌, inl, inr}
use Rattle.std.specs.Prelude.{IsTrue, ◌==◌, nat_lt, bit_or}
use Rattle.std.specs.Int.{bit_at}
use Rattle.std.proofs.lemmas.Bool.Decides.{nat_tests, Decides-eqb, Decides-ltb}
use Rattle.std.proofs.lemmas.List.{get_or_past}
use Rattle.std.proofs.lemmas.Nat.Bits.{bit_at_or, bit_at-zero, bit_at-lt, bit_at-pow_same, bit_at-pow_other}
use Rattle.gl_cycles.specs.Marks.{has_mark, with_mark}
use Rattle.gl_cycles.specs.Chains.{IsMarked}

-- the place is in the set, as an equation on its bit
pub bit_of : (m i : ℕ) → IsTrue (has_mark m i) → bit_at m i ≡ 1
unfolding has_mark
bit_of m i h = (Decides-eqb (bit_at m i) 1).0 h

pub from_bit : (m i : ℕ) → bit_at m i ≡ 1 → IsTrue (has_mark m i)
unfolding has_mark
from_bit m i h = (Decides-eqb (bit_at m i) 1).1 h

pub none_marked : (i : ℕ) → IsTrue (has_mark 0 i) → ⊥
none_marked i h = let one = bit_of 0 i h in omega (arith, one, bit_at-zero i)

pub marked_left : (a b i : ℕ) → IsTrue (has_mark a i) → IsTrue (has_mark (bit_or a b) i)
marked_left a b i h = from_bit (bit_or a b) i (omega (arith, bit_at_or a b i, bit_of a i h, bit_at-lt b i))

pub marked_right : (a b i : ℕ) → IsTrue (has_mark b i) → IsTrue (has_mark (bit_or a b) i)
marked_right a b i h = from_bit (bit_or a b) i (omega (arith, bit_at_or a b i, bit_of b i h, bit_at-lt a i))

one_of : (x y : ℕ) → max x y ≡ 1 → (x ≡ 1) ⊎ (y ≡ 1)
one_of x y h = grind arith

pub marked_cases : (a b i : ℕ) → IsTrue (has_mark (bit_or a b) i) → IsTrue (has_mark a i) ⊎ IsTrue (has_mark b i)
marked_cases a b i h =
    let whole = bit_of (bit_or a b) i h in
    elim (one_of (bit_at a i) (bit_at b i) (omega (arith, bit_at_or a b i, whole))) [ inl x ↦ inl (from_bit a i x) | inr y ↦ inr (from_bit b i y) ]

pub with_same : (m i : ℕ) → IsTrue (has_mark (with_mark m i) i)
unfolding with_mark
with_same m i = marked_right m (2 ^ i) i (from_bit (2 ^ i) i (bit_at-pow_same i))

pub with_keeps : (m i j : ℕ) → IsTrue (has_mark m j) → IsTrue (has_mark (with_mark m i) j)
unfolding with_mark
with_keeps m i j h = marked_left m (2 ^ i) j h

only_same : (i j : ℕ) → bit_at (2 ^ i) j ≡ 1 → j ≡ i
only_same i j h = elim (j == i) as (λ b. (j == i) ≡ b → j ≡ i) [
  | true ↦ λ e. (Decides-eqb j i).0 e
  | false ↦ λ e. absurd (omega (arith, h, bit_at-pow_other i j (λ s. grind (arith, nat_tests))))
] refl

pub with_cases : (m i j : ℕ) → IsTrue (has_mark (with_mark m i) j) → (j ≡ i) ⊎ IsTrue (has_mark m j)
unfolding with_mark
with_cases m i j h = elim (marked_cases m (2 ^ i) j h) [ inl x ↦ inr x | inr y ↦ inl (only_same i j (bit_of (2 ^ i) j y)) ]

pub less_or : (a b : ℕ) → (a < b) ⊎ (b ≤ a)
less_or a b = elim (nat_lt a b) as (λ t. nat_lt a b ≡ t → (a < b) ⊎ (b ≤ a)) [
  | true ↦ λ e. inl ((Decides-ltb a b).0 e)
  | false ↦ λ e. inr (grind (arith, nat_tests))
] refl

-- a row that has a mark is there
pub marked_within : (rows : List ℕ) (i j : ℕ) → IsMarked rows i j → i < length rows
marked_within rows i j h = elim (less_or i (length rows)) [
  | inl x ↦ x
  | inr y ↦ absurd (none_marked j (rw (get_or_past rows i 0 y) at h))
]
