-- The name of a helper's number, in the table of names and in that of values.
use Rattle.std.proofs.Common.{◌≡◌, ◌+◌, ◌<◌, ℕ, zero, suc, [], ◌∷◌, Bool, true, false, ◌&&◌, cond, map, length, Some, refl, ◌∙◌, ap, arith}
use Rattle.std.specs.Prelude.{nat_eq}
use Rattle.std.proofs.lemmas.Bool.{eqb-true, eq-eqb, both_ways}
use Rattle.gl_base.specs.Names.{at_place}
use Rattle.gl_names.specs.Helpers.{helper_rows}
use Rattle.gl_names.specs.Table.{Rows, name_of}
use Rattle.gl_value.specs.Helpers.{helper_table}
use Rattle.gl_vm.specs.View.{helper_name}

abbrev count_from : ℕ → Rows → Bool
count_from k [] = true
count_from k (r ∷ rs) = nat_eq r.1 k && count_from (suc k) rs

both_true : (a b : Bool) → (a && b) ≡ true → (a ≡ true) × (b ≡ true)
both_true true b e = (refl, e)
both_true false b e = absurd (both_ways _ refl e)

not_same : (m n : ℕ) → (m ≡ n → ⊥) → nat_eq m n ≡ false
not_same m n f = by_test (nat_eq m n) refl
  where
    by_test : (b : Bool) → nat_eq m n ≡ b → b ≡ false
    by_test true e = absurd (f (eqb-true m n e))
    by_test false e = refl

by_place : (k h n : ℕ) (rs : Rows) → n ≡ k + h → count_from k rs ≡ true → h < length rs → name_of n rs ≡ Some (at_place [] h (map (λ r. r.0) rs))
by_place k h n [] e c l = absurd (omega (arith, l))
by_place k zero n (r ∷ rs) e c l =
    let is : r.1 ≡ k = eqb-true r.1 k (both_true (nat_eq r.1 k) (count_from (suc k) rs) c).0 in
    ap (λ b. cond b (Some r.0) (name_of n rs)) (eq-eqb n r.1 (omega (arith, e, is)))
by_place k (suc h) n (r ∷ rs) e c l =
    let (first, rest) = both_true (nat_eq r.1 k) (count_from (suc k) rs) c in
    let is : r.1 ≡ k = eqb-true r.1 k first in
    ap (λ b. cond b (Some r.0) (name_of n rs)) (not_same n r.1 (λ same. omega (arith, e, is, same))) ∙ by_place (suc k) h n rs (omega (arith, e)) rest (omega (arith, l))

they_count : count_from 0 helper_rows ≡ true
unfolding helper_rows
they_count = refl

names_alike : map (λ r. r.0) helper_rows ≡ map (λ r. r.0) helper_table
unfolding helper_rows
names_alike = refl

so_many : length helper_rows ≡ 33
unfolding helper_rows
so_many = refl

pub number_named : (h : ℕ) → h < 33 → name_of h helper_rows ≡ Some (helper_name h)
number_named h l = by_place 0 h h helper_rows (omega arith) they_count (let e = so_many in omega (arith, l, e)) ∙ ap (λ ns. Some (at_place [] h ns)) names_alike
