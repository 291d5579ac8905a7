-- How what may stop ends.
use Rattle.std.specs.Prelude.{◌≡◌, ◌≤◌, ℕ}

pub data Outcome (A : Type 0) : Type 0 where
  ok : A → Outcome A
  -- a component would stand too deep
  deep : Outcome A
  -- it did not end, or met a word that fits nothing; a machine over lowered programs has this only for want of memory
  lost : Outcome A

abbrev pub on_ok : {A B : Type 0} → Outcome A → (A → Outcome B) → Outcome B
on_ok (ok x) f = f x
on_ok deep f = deep
on_ok lost f = lost

-- From some number of steps on the answer is the same, and it is not wanting steps.
abbrev pub Ends : {A : Type 0} → (ℕ → Outcome A) → Type 0
Ends {A} f = (n : ℕ) × (o : Outcome A) × (o ≡ lost → ⊥) × ((k : ℕ) → n ≤ k → f k ≡ o)
