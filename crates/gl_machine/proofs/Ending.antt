-- What ends, one after another.
use Rattle.std.proofs.Common.{◌≡◌, ◌≤◌, ℕ, ◌+◌, refl, ◌∙◌, ap, arith}
use Rattle.gl_machine.specs.Outcome.{Outcome, ok, deep, lost, on_ok, Ends}
use Rattle.gl_machine.proofs.Right.{deep_told, ok_told}

-- an answer that takes no steps
pub ends_at : {A : Type 0} (x : A) → Ends (λ n. ok x)
ends_at x = (0, ok x, ok_told x, λ k less. refl)

pub ends_deep : {A : Type 0} → Ends {A = A} (λ n. deep)
ends_deep = (0, deep, deep_told, λ k less. refl)

-- what is done with an answer ends, where for each answer it does
pub ends_then : {A B : Type 0} (f : ℕ → Outcome A) (g : ℕ → A → Outcome B) → Ends f → ((x : A) → Ends (λ n. g n x)) → Ends (λ n. on_ok (f n) (g n))
ends_then {A} {B} f g (n, o, told, same) step = by_answer o told same
  where
    by_answer : (o : Outcome A) → (o ≡ lost → ⊥) → ((k : ℕ) → n ≤ k → f k ≡ o) → Ends (λ n. on_ok (f n) (g n))
    by_answer (ok x) told same =
        let (m, p, told', same') = step x in
        (n + m, p, told', λ k less. ap (λ y. on_ok y (g k)) (same k (omega (arith, less))) ∙ same' k (omega (arith, less)))
    by_answer deep told same = (n, deep, deep_told, λ k less. ap (λ y. on_ok y (g k)) (same k less))
    by_answer lost told same = absurd (told refl)

pub ends_on : {A B : Type 0} (f : ℕ → Outcome A) (g : A → B) → Ends f → Ends (λ n. on_ok (f n) (λ r. ok (g r)))
ends_on f g e = ends_then f (λ n r. ok (g r)) e (λ x. ends_at (g x))

-- the same answers
pub ends_as : {A : Type 0} (f g : ℕ → Outcome A) → ((n : ℕ) → g n ≡ f n) → Ends f → Ends g
ends_as f g e (n, o, told, same) = (n, o, told, λ k less. e k ∙ same k less)

pub on_ok_twice : {A B C : Type 0} (o : Outcome A) (f : A → Outcome B) (g : B → Outcome C) → on_ok (on_ok o f) g ≡ on_ok o (λ x. on_ok (f x) g)
on_ok_twice (ok x) f g = refl
on_ok_twice deep f g = refl
on_ok_twice lost f g = refl
