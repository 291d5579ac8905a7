-- The greatest of a list.
use Rattle.std.proofs.Common.{◌≡◌, ℕ, ◌<◌, ◌≤◌, Bool, true, false, ltb, max, List, [], ◌∷◌, ◌++◌, map, flat_map, refl, sym, ap, ◌∙◌, arith}
use Rattle.std.specs.Prelude.{◌||◌}
use Rattle.std.specs.List.{list_any}
use Rattle.std.proofs.lemmas.Bool.{or_parts, ltb-false, ltb-true}
use Rattle.gl_arena.specs.Id.{Id, same_id}
use Rattle.gl_arena.proofs.Ids.{same_id-true}
use Rattle.gl_tags.specs.Tags as m

pub from_le : (n : ℕ) (xs : List ℕ) → n ≤ m.greatest_from n xs
from_le n [] = omega arith
from_le n (x ∷ xs) = let h = from_le (max n x) xs in omega (arith, h)

by_lead : (f : Id → ℕ) (i x : Id) (xs : List Id) (n : ℕ) (b : Bool) → same_id i x ≡ b → (b || list_any (same_id i) xs) ≡ true
    → (list_any (same_id i) xs ≡ true → f i ≤ m.greatest_from (max n (f x)) (map f xs)) → f i ≤ m.greatest_from (max n (f x)) (map f xs)
by_lead f i x xs n true e h r = let g = from_le (max n (f x)) (map f xs) in let k = ap f (same_id-true i x e) in omega (arith, g, k)
by_lead f i x xs n false e h r = r h

-- what stands in the list isn't above the greatest
pub lead_below : (f : Id → ℕ) (i : Id) (leads : List Id) → list_any (same_id i) leads ≡ true → (n : ℕ) → f i ≤ m.greatest_from n (map f leads)
lead_below f i [] h n = absurd (let z : false ≡ true = h in cc)
lead_below f i (x ∷ xs) h n = by_lead f i x xs n (same_id i x) refl h (λ g. lead_below f i xs g (max n (f x)))

-- where none is above a bound, the greatest isn't
pub within_bound : (f : Id → ℕ) (bound : ℕ) (xs : List Id) (n : ℕ) → n ≤ bound → ((k : Id) → f k ≤ bound) → m.greatest_from n (map f xs) ≤ bound
within_bound f bound [] n h g = h
within_bound f bound (x ∷ xs) n h g = let le = g x in within_bound f bound xs (max n (f x)) (omega (arith, h, le)) g

none_above : (f : Id → ℕ) (bound : ℕ) (xs : List Id) (n : ℕ) → n ≤ bound → list_any (λ k. ltb bound (f k)) xs ≡ false → m.greatest_from n (map f xs) ≤ bound
none_above f bound [] n h e = h
none_above f bound (x ∷ xs) n h e =
    let p = or_parts (ltb bound (f x)) (list_any (λ k. ltb bound (f k)) xs) e in
    let le = ltb-false bound (f x) p.0 in
    none_above f bound xs (max n (f x)) (omega (arith, h, le)) p.1

above_by : (f : Id → ℕ) (bound : ℕ) (x : Id) (xs : List Id) (n : ℕ) (b : Bool) → ltb bound (f x) ≡ b → (b || list_any (λ k. ltb bound (f k)) xs) ≡ true
    → (list_any (λ k. ltb bound (f k)) xs ≡ true → bound < m.greatest_from (max n (f x)) (map f xs)) → bound < m.greatest_from (max n (f x)) (map f xs)
above_by f bound x xs n true e h r = let g = from_le (max n (f x)) (map f xs) in let lt = ltb-true bound (f x) e in omega (arith, g, lt)
above_by f bound x xs n false e h r = r h

one_above : (f : Id → ℕ) (bound : ℕ) (xs : List Id) (n : ℕ) → list_any (λ k. ltb bound (f k)) xs ≡ true → bound < m.greatest_from n (map f xs)
one_above f bound [] n e = absurd (let z : false ≡ true = e in cc)
one_above f bound (x ∷ xs) n e = above_by f bound x xs n (ltb bound (f x)) refl e (one_above f bound xs (max n (f x)))

none_at_greatest : (f : Id → ℕ) (xs : List Id) → list_any (λ k. ltb (m.greatest_from 0 (map f xs)) (f k)) xs ≡ false
none_at_greatest f xs = by (list_any (λ k. ltb (m.greatest_from 0 (map f xs)) (f k)) xs) refl where
  by : (b : Bool) → list_any (λ k. ltb (m.greatest_from 0 (map f xs)) (f k)) xs ≡ b → b ≡ false
  by false e = refl
  by true e = let lt = one_above f (m.greatest_from 0 (map f xs)) xs 0 e in absurd (omega (arith, lt))

not_above : (f : Id → ℕ) (xs ys : List Id) → m.SameLeads xs ys → m.greatest_from 0 (map f xs) ≤ m.greatest_from 0 (map f ys)
not_above f xs ys s = none_above f (m.greatest_from 0 (map f ys)) xs 0 (omega arith) (s (λ k. ltb (m.greatest_from 0 (map f ys)) (f k)) ∙ none_at_greatest f ys)

-- lists of the same leads have one greatest
pub greatest_same : (f : Id → ℕ) (xs ys : List Id) → m.SameLeads xs ys → m.greatest_from 0 (map f xs) ≡ m.greatest_from 0 (map f ys)
greatest_same f xs ys s = let a = not_above f xs ys s in let b = not_above f ys xs (λ p. sym (s p)) in omega (arith, a, b)

from_max : (n : ℕ) (xs : List ℕ) → m.greatest_from n xs ≡ max n (m.greatest_from 0 xs)
from_max n [] = omega arith
from_max n (x ∷ xs) = let a = from_max (max n x) xs in let b = from_max (max 0 x) xs in omega (arith, a, b)

from_append : (f : Id → ℕ) (n : ℕ) (xs ys : List Id) → m.greatest_from n (map f (xs ++ ys)) ≡ m.greatest_from (m.greatest_from n (map f xs)) (map f ys)
from_append f n [] ys = refl
from_append f n (x ∷ xs) ys = from_append f (max n (f x)) xs ys

-- the greatest over what several lead to is the greatest of the greatest of each
pub greatest_flat : (f : Id → ℕ) (g : Id → List Id) (n : ℕ) (xs : List Id) → m.greatest_from n (map f (flat_map g xs)) ≡ m.greatest_from n (map (λ x. m.greatest_from 0 (map f (g x))) xs)
greatest_flat f g n [] = refl
greatest_flat f g n (x ∷ xs) =
    from_append f n (g x) (flat_map g xs)
    ∙ ap (λ k. m.greatest_from k (map f (flat_map g xs))) (from_max n (map f (g x)))
    ∙ greatest_flat f g (max n (m.greatest_from 0 (map f (g x)))) xs
