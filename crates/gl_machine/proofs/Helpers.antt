-- A helper's number has its name: the numbers of the table count from 0 in the order of the rows.
use Rattle.std.proofs.Common.{◌≡◌, ◌≤◌, ℕ, suc, [], ◌∷◌, Bool, true, false, ◌&&◌, cond, Some, refl, sym, ◌∙◌, ap, arith}
use Rattle.std.specs.Prelude.{nat_eq}
use Rattle.std.specs.Str.{bytes_eq}
use Rattle.std.proofs.lemmas.Bool.{eqb-true, eq-eqb, both_ways}
use Rattle.std.proofs.lemmas.Slice.Eq.{bytes_eq-Decides}
use Rattle.gl_base.specs.Texts.{Text}
use Rattle.gl_base.specs.Names.{named}
use Rattle.gl_names.specs.Helpers.{helper_rows}
use Rattle.gl_names.specs.Table.{Rows, name_of}
use Rattle.gl_opc.specs.Numbers.{helper_number}
use Rattle.gl_machine.proofs.Numbered.{some_is, none_some}

abbrev count_from : ℕ → Rows → Bool
count_from k [] = true
count_from k (r ∷ rs) = nat_eq r.1 k && count_from (suc k) rs

pub both_true : (a b : Bool) → (a && b) ≡ true → (a ≡ true) × (b ≡ true)
both_true true b e = (refl, e)
both_true false b e = absurd (both_ways _ refl e)

not_same : (m n : ℕ) → (m ≡ n → ⊥) → nat_eq m n ≡ false
not_same m n f = by_test (nat_eq m n) refl
  where
    by_test : (b : Bool) → nat_eq m n ≡ b → b ≡ false
    by_test true e = absurd (f (eqb-true m n e))
    by_test false e = refl

abbrev From : ℕ → Rows → Text → ℕ → Type 0
From k rs n h = (k ≤ h) × (name_of h rs ≡ Some n)

from_row : (k : ℕ) (r : Text × ℕ) (rs : Rows) → r.1 ≡ k → (n : Text) (h : ℕ) (b : Bool) → bytes_eq n r.0 ≡ b
    → (named n rs ≡ Some h → From (suc k) rs n h) → cond b (Some r.1) (named n rs) ≡ Some h → From k (r ∷ rs) n h
from_row k r rs first n h true t later e =
    let is : r.1 ≡ h = some_is r.1 h e in
    (omega (arith, is, first), ap (λ b. cond b (Some r.0) (name_of h rs)) (eq-eqb h r.1 (sym is)) ∙ ap Some (sym ((bytes_eq-Decides n r.0).0 t)))
from_row k r rs first n h false t later e =
    let (less, found) = later e in
    (omega (arith, less), ap (λ b. cond b (Some r.0) (name_of h rs)) (not_same h r.1 (λ same. omega (arith, less, first, same))) ∙ found)

named_from : (k : ℕ) (rs : Rows) → count_from k rs ≡ true → (n : Text) (h : ℕ) → named n rs ≡ Some h → From k rs n h
named_from k [] c n h e = absurd (none_some h e)
named_from k (r ∷ rs) c n h e =
    let (first, rest) = both_true (nat_eq r.1 k) (count_from (suc k) rs) c in
    from_row k r rs (eqb-true r.1 k first) n h (bytes_eq n r.0) refl (named_from (suc k) rs rest n h) e

they_count : count_from 0 helper_rows ≡ true
unfolding helper_rows
they_count = refl

pub helper_named : (n : Text) (h : ℕ) → helper_number n ≡ Some h → name_of h helper_rows ≡ Some n
helper_named n h e = (named_from 0 helper_rows they_count n h e).1
