-- Whether entries are left, by their count.
use Rattle.std.proofs.Common.{◌≡◌, ℕ, suc, true, false, List, [], ◌∷◌, map, length, refl, sym, ◌∙◌, ap, arith}
use Rattle.std.specs.Prelude.{nat_eq}
use Rattle.std.proofs.lemmas.Bool.{eqb-true}
use Rattle.std.proofs.lemmas.List.{length-map, length-reverse}
use Rattle.gl_code.specs.Entries.{seen_entry, seen_left}
use Rattle.gl_code.specs.declared.entries.Entry.{Entry}

-- no items are left just where the code has none
pub none_seen : (es : List Entry) → es ≡ [] → seen_left es ≡ []
none_seen es e = ap seen_left e

pub none_left : (es : List Entry) → seen_left es ≡ [] → es ≡ []
none_left [] e = refl
none_left (x ∷ es) e =
    let l : length (seen_left (x ∷ es)) ≡ suc (length es) = length-reverse (map seen_entry (x ∷ es)) ∙ length-map (x ∷ es) seen_entry in
    let z : 0 ≡ suc (length es) = sym (ap length e) ∙ l in
    absurd (cc)

pub none_counted : (xs : List Entry) (k : ℕ) → k ≡ length xs → nat_eq k 0 ≡ true → xs ≡ []
none_counted [] k e t = refl
none_counted (x ∷ xs) k e t =
    let z : k ≡ 0 = eqb-true k 0 t in
    let l : k ≡ suc (length xs) = e in
    absurd (omega (arith, z, l))

pub some_counted : (xs : List Entry) (k : ℕ) → k ≡ length xs → nat_eq k 0 ≡ false → xs ≡ [] → ⊥
some_counted [] k e t n = let h : true ≡ false = sym (ap (λ j. nat_eq j 0) e) ∙ t in absurd (apart h) where
  apart : true ≡ false → ⊥
  apart g = let y : true ≡ false = g in absurd (cc)
some_counted (x ∷ xs) k e t n = let y : x ∷ xs ≡ [] = n in absurd (cc)
