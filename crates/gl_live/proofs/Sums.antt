-- Sums of counts that may be at their last value.
use Rattle.std.proofs.Common.{◌≡◌, ◌≤◌, ◌+◌, ℕ, inl, inr, sym, ap, ◌∙◌, arith}
use Rattle.std.specs.Prelude.{min}
use Rattle.std.proofs.Math.Nat.{min-eq_left, min-eq_right}
use Rattle.std.proofs.lemmas.Bool.{cases_lt}
use Rattle.gl_live.specs.Most.{most}
use Rattle.gl_live.specs.Counting.{Counts}
use Rattle.gl_live.specs.declared.counting.Live as code

-- where one of two numbers is past the last value, so is their sum
past : (x m : ℕ) → m ≤ x → min x m ≡ m
past x m le = min-eq_right le

pub capped : (x y m : ℕ) → min (min x m + min y m) m ≡ min (x + y) m
capped x y m = elim (cases_lt x m) [
  | inl a ↦ elim (cases_lt y m) [
    | inl b ↦ ap (λ k. min (k + min y m) m) (min-eq_left (omega (arith, a))) ∙ ap (λ k. min (x + k) m) (min-eq_left (omega (arith, b)))
    | inr b ↦ ap (λ k. min (min x m + k) m) (past y m b) ∙ (past (min x m + m) m (omega arith) ∙ sym (past (x + y) m (omega (arith, b))))
  ]
  | inr a ↦ ap (λ k. min (k + min y m) m) (past x m a) ∙ (past (m + min y m) m (omega arith) ∙ sym (past (x + y) m (omega (arith, a))))
]

-- counts of two parts
pub counts_with : (x y new : code.Live) (f g : ℕ → ℕ → ℕ) → Counts x f → Counts y g → new.nodes ≡ min (x.nodes + y.nodes) most → new.instances ≡ min (x.instances + y.instances) most → Counts new (λ a b. f a b + g a b)
counts_with x y new f g p q n i = record {
  nodes = n ∙ (ap (λ k. min (k + y.nodes) most) p.nodes ∙ (ap (λ k. min (min (f 1 0) most + k) most) q.nodes ∙ capped (f 1 0) (g 1 0) most));
  instances = i ∙ (ap (λ k. min (k + y.instances) most) p.instances ∙ (ap (λ k. min (min (f 0 1) most + k) most) q.instances ∙ capped (f 0 1) (g 0 1) most));
}

-- the same counts by another word
pub counts_as : (x : code.Live) (f g : ℕ → ℕ → ℕ) → ((a b : ℕ) → f a b ≡ g a b) → Counts x f → Counts x g
counts_as x f g e p = record { nodes = p.nodes ∙ ap (λ k. min k most) (e 1 0); instances = p.instances ∙ ap (λ k. min k most) (e 0 1) }
