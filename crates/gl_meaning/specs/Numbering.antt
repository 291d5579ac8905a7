-- Numbers that are given in order, from one on.
use Rattle.std.specs.Prelude.{ℕ, suc, List, [], ◌∷◌, Option, Some, None}

-- the numbers that some things have, and the next one that is given
pub record NumbersOf (K : Type 0) : Type 0 where
  pub of : List (K × ℕ)
  pub next : ℕ

abbrev pub with_number : {K : Type 0} → K → ℕ → NumbersOf K → NumbersOf K
with_number k n rest = record { of = (k, n) ∷ rest.of; next = rest.next }

abbrev pub number_one : {K : Type 0} → Option ℕ → ℕ → K → (ℕ → NumbersOf K) → NumbersOf K
number_one (Some n) next k rest = with_number k n (rest next)
number_one None next k rest = with_number k next (rest (suc next))

-- What has a number keeps it. The others take `next` and the following ones, in order. Numbers of what is not listed are dropped.
abbrev pub numbers_from : {K : Type 0} → (K → Option ℕ) → ℕ → List K → NumbersOf K
numbers_from old next [] = record { of = []; next = next }
numbers_from old next (k ∷ ks) = number_one (old k) next k (λ n. numbers_from old n ks)
