-- Laws of lists that are read element by element.
use Rattle.std.proofs.Common.{◌≡◌, ◌<◌, ◌+◌, ℕ, suc, List, [], ◌∷◌, ◌++◌, Option, Some, None, length, map, get_or, drop, refl, sym, ap, ◌∙◌, append_assoc, append-nil, add-one, drop-cons}
use Rattle.gl_base.specs.Answers.{◌>>=◌}
use Rattle.gl_base.specs.Reading.{read_all, after_front}

-- what is left at a place is the element there and what is left after it
pub drop_item : {A : Type 0} (xs : List A) (i : ℕ) (x : A) → i < length xs → x ≡ get_or xs i x → drop i xs ≡ x ∷ drop (i + 1) xs
drop_item xs i x h e = rw (add-one, drop-cons xs i x) (ap (λ y. y ∷ drop (suc i) xs) (sym e))

pub after_front_nil : {A : Type 0} (read : Option (List A)) → after_front [] read ≡ read
after_front_nil None = refl
after_front_nil (Some x) = refl

pub after_front_more : {A : Type 0} (done : List A) (s : A) (read : Option (List A)) → after_front (done ++ s ∷ []) read ≡ after_front done (read >>= λ more. Some (s ∷ more))
after_front_more done s None = refl
after_front_more done s (Some x) = ap Some (append_assoc done (s ∷ []) x)

-- the element is read
pub read_go : {A B : Type 0} (f : A → Option B) (done : List B) (x : A) (xs : List A) (y : B) (all : Option (List B)) → f x ≡ Some y → after_front done (read_all f (x ∷ xs)) ≡ all → after_front (done ++ y ∷ []) (read_all f xs) ≡ all
read_go f done x xs y all is e = after_front_more done y (read_all f xs) ∙ rw is at e

-- the element can't be read
pub read_fail : {A B : Type 0} (f : A → Option B) (done : List B) (x : A) (xs : List A) (all : Option (List B)) → f x ≡ None → after_front done (read_all f (x ∷ xs)) ≡ all → all ≡ None
read_fail f done x xs all is e = sym (rw is at e)

-- nothing is left to read
pub read_end : {A B : Type 0} (f : A → Option B) (done : List B) (all : Option (List B)) → after_front done (read_all f []) ≡ all → all ≡ Some done
read_end f done all e = sym e ∙ ap Some (append-nil done)

-- reading what a function makes of each element
pub read_all-map : {A B C : Type 0} (f : B → Option C) (g : A → B) (xs : List A) → read_all f (map g xs) ≡ read_all (λ (x : A). f (g x)) xs
read_all-map f g [] = refl
read_all-map f g (x ∷ xs) = rw (read_all-map f g xs) refl
