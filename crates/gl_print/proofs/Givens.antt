-- Numbers that are given: those of the first thing and of the ones after it.
use Rattle.std.proofs.Common.{◌≡◌, ℕ, List, ◌∷◌, Option, Some, None, refl}
use Rattle.gl_meaning.specs.Numbering.{number_one, numbers_from}
use Rattle.gl_print.specs.Printing.{given, after}

module _ {K : Type 0} (old : K → Option ℕ) where
  pub numbers_from-of : (next : ℕ) (k : K) (ks : List K) → (numbers_from old next (k ∷ ks)).of ≡ (k, given (old k) next) ∷ (numbers_from old (after (old k) next) ks).of
  numbers_from-of next k ks = by_case (old k)
    where
      by_case : (o : Option ℕ) → (number_one o next k (λ n. numbers_from old n ks)).of ≡ (k, given o next) ∷ (numbers_from old (after o next) ks).of
      by_case None = refl
      by_case (Some n) = refl

  pub numbers_from-next : (next : ℕ) (k : K) (ks : List K) → (numbers_from old next (k ∷ ks)).next ≡ (numbers_from old (after (old k) next) ks).next
  numbers_from-next next k ks = by_case (old k)
    where
      by_case : (o : Option ℕ) → (number_one o next k (λ n. numbers_from old n ks)).next ≡ (numbers_from old (after o next) ks).next
      by_case None = refl
      by_case (Some n) = refl
