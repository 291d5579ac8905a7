-- Lists that are read or written from the front on.
use Rattle.std.proofs.Common.{◌≡◌, ℕ, ◌<◌, suc, ◌+◌, List, [], ◌∷◌, ◌++◌, map, drop, length, get_or, refl, sym, ◌∙◌, ap, append_assoc, add-one, drop-cons}
use Rattle.std.proofs.lemmas.List.{map-append}

pub item_next : {A : Type 0} (xs : List A) (i : ℕ) (x : A) → i < length xs → x ≡ get_or xs i x → drop i xs ≡ x ∷ drop (i + 1) xs
item_next xs i x h e = rw (add-one, drop-cons xs i x) (ap (λ y. y ∷ drop (suc i) xs) (sym e))

pub listed_on : {A B : Type 0} (f : A → B) (xs ys : List A) (x : A) (zs : List B) → ys ≡ xs ++ x ∷ [] → map f ys ++ zs ≡ map f xs ++ f x ∷ zs
listed_on f xs ys x zs e = ap (λ us. map f us ++ zs) e ∙ (ap (λ us. us ++ zs) (map-append f xs (x ∷ [])) ∙ append_assoc (map f xs) (f x ∷ []) zs)

pub length_more : {A : Type 0} (xs : List A) (x : A) → length (xs ++ x ∷ []) ≡ suc (length xs)
length_more [] x = refl
length_more (y ∷ xs) x = ap suc (length_more xs x)
