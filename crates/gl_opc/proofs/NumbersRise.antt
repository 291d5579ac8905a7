-- The numbers of names that rise are by the order of the names.
use Rattle.std.proofs.Common.{◌≡◌, ◌<◌, ℕ, zero, suc, List, [], ◌∷◌, Some, length, get_or, true, sym, ap, ◌∙◌, subst, arith}
use Rattle.std.specs.Prelude.{IsTrue, ◌↔◌}
use Rattle.std.specs.Ordering.{nat_cmp, is_lt, ordering_reverse}
use Rattle.std.specs.Cmp.Lexicographic.{slice_cmp}
use Rattle.std.specs.Str.{bytes_eq}
use Rattle.std.specs.declared.cmp.Ordering.{Ordering}
use Rattle.std.specs.declared.cmp.Ordering.TheVariants.{Less, Equal, Greater}
use Rattle.std.proofs.lemmas.Cmp.{nat_list_cmp_total}
use Rattle.std.proofs.lemmas.List.Quantifiers.{position-Some}
use Rattle.std.proofs.lemmas.Slice.Eq.{bytes_eq-Decides}
use Rattle.gl_base.specs.Texts.{Text, bytes_of, text_less}
use Rattle.gl_meaning.specs.ManifestRules.{Each}
use Rattle.gl_meaning.specs.Order.{Rise}
use Rattle.gl_opc.specs.Numbers.{number_in}

less_at : (t : Text) (ts : List Text) (k : ℕ) (d : Text) → Each (λ u. IsTrue (text_less t u)) ts → k < length ts → IsTrue (text_less t (get_or ts k d))
less_at t [] k d each below = absurd (omega arith)
less_at t (u ∷ ts) zero d each below = each.0
less_at t (u ∷ ts) (suc k) d each below = less_at t ts k d each.1 (omega arith)

-- of names that rise, one at an earlier place is less
rise_at : (ts : List Text) → Rise ts → (i k : ℕ) (d : Text) → i < k → k < length ts → IsTrue (text_less (get_or ts i d) (get_or ts k d))
rise_at [] rise i k d less below = absurd (omega arith)
rise_at (t ∷ ts) rise i zero d less below = absurd (omega arith)
rise_at (t ∷ ts) rise zero (suc k) d less below = less_at t ts k d rise.0 (omega arith)
rise_at (t ∷ ts) rise (suc i) (suc k) d less below = rise_at ts rise.1 i k d (omega arith) (omega arith)

-- a name that has a number is the one at that place
numbered_is : (n : Text) (names : List Text) (i : ℕ) → number_in names n ≡ Some i → (i < length names) × (n ≡ get_or names i [])
numbered_is n names i e =
    let f = position-Some (λ m. bytes_eq n m) names i [] e in
    (f.0, (bytes_eq-Decides n (get_or names i [])).0 f.1)

less_by_number : (names : List Text) → Rise names → (m n : Text) (i k : ℕ) → number_in names m ≡ Some i → number_in names n ≡ Some k → i < k → IsTrue (text_less m n)
less_by_number names rise m n i k at_m at_n less =
    let f = numbered_is m names i at_m in
    let g = numbered_is n names k at_n in
    let there = rise_at names rise i k [] less g.0 in
    subst (λ x. IsTrue (text_less x n)) (sym f.1) (subst (λ x. IsTrue (text_less (get_or names i []) x)) (sym g.1) there)

not_both : (o : Ordering) → is_lt o ≡ true → is_lt (ordering_reverse o) ≡ true → ⊥
not_both Less one other = let r : ⊥ = cc in r
not_both Equal one other = let r : ⊥ = cc in r
not_both Greater one other = let r : ⊥ = cc in r

not_less_both_ways : (m n : Text) → IsTrue (text_less m n) → IsTrue (text_less n m) → ⊥
not_less_both_ways m n one other =
    not_both (slice_cmp nat_cmp (bytes_of m) (bytes_of n)) one (sym (ap is_lt (nat_list_cmp_total.antisymm (bytes_of n) (bytes_of m))) ∙ other)

number_by_less : (names : List Text) → Rise names → (m n : Text) (i k : ℕ) → number_in names m ≡ Some i → number_in names n ≡ Some k → IsTrue (text_less m n) → (k < i → ⊥) × (i ≡ k → ⊥)
number_by_less names rise m n i k at_m at_n less =
    let f = numbered_is m names i at_m in
    let g = numbered_is n names k at_n in (
      λ after. not_less_both_ways m n less (less_by_number names rise n m k i at_n at_m after),
      λ same. let one : m ≡ n = f.1 ∙ (ap (λ j. get_or names j []) same ∙ sym g.1) in
          let itself = subst (λ x. IsTrue (text_less m x)) (sym one) less in
          not_less_both_ways m m itself itself,
    )

is_before : (i k : ℕ) → (k < i → ⊥) × (i ≡ k → ⊥) → i < k
is_before i k not = omega (arith, not.0, not.1)

pub numbers_rise : (names : List Text) → Rise names → (m n : Text) (i k : ℕ) → number_in names m ≡ Some i → number_in names n ≡ Some k → (i < k) ↔ IsTrue (text_less m n)
numbers_rise names rise m n i k at_m at_n =
    (less_by_number names rise m n i k at_m at_n, λ less. is_before i k (number_by_less names rise m n i k at_m at_n less))
