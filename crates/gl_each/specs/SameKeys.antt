-- Two keys are the same just where they are equal, and equal keys give the same to a hash function.
use Rattle.std.proofs.Common.{◌≡◌, ℕ, IsTrue, ap, ap₂}
use Rattle.std.specs.Prelude.{nat_eq}
use Rattle.std.specs.Bool.{Decides}
use Rattle.std.specs.Cmp.{IsEquivalence, IsPartialEquivalence, partial_equiv_from_equiv, decided}
use Rattle.std.proofs.lemmas.Bool.Decides.{Decides-eqb}
use Rattle.gl_value.specs.Value.{Value, same}
use Rattle.gl_value.proofs.Sameness.{same-Decides, both_left, both_right, both_true}
use Rattle.gl_each.specs.Key.{Key, same_key}
use Rattle.gl_each.specs.Hashed.{fed_key}

pub same-numbers : (v w : Value ℕ) → Decides (same nat_eq v w) (v ≡ w)
same-numbers = same-Decides nat_eq Decides-eqb

pub same_key-Decides : (k l : Key) → Decides (same_key k l) (k ≡ l)
same_key-Decides k l = (
  (λ e. ap₂ (λ v n. (v, n)) ((same-numbers k.0 l.0).0 (both_left _ _ e)) ((Decides-eqb k.1 l.1).0 (both_right (same nat_eq k.0 l.0) _ e))),
  (λ e. both_true _ _ ((same-numbers k.0 l.0).1 (ap (λ z. z.0) e)) ((Decides-eqb k.1 l.1).1 (ap (λ z. z.1) e))),
)

pub same_key_equivalence : IsEquivalence same_key
same_key_equivalence = decided same_key same_key-Decides

pub same_key_laws : IsPartialEquivalence same_key
same_key_laws = partial_equiv_from_equiv same_key_equivalence

pub same_key_fed : (k l : Key) → IsTrue (same_key k l) → fed_key k ≡ fed_key l
same_key_fed k l e = ap fed_key ((same_key-Decides k l).0 e)
