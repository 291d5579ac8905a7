-- Lists of what is found in others, and look-ups by path.
use Rattle.std.proofs.Common.{◌≡◌, List, [], ◌∷◌, map, Bool, true, false, true≢false, Option, Some, None, refl, sym, ap, ap₂, ◌∙◌, subst, inl, inr, ◌⊎◌}
use Rattle.std.specs.Prelude.{if◌then◌else◌, filter_map, ◌||◌}
use Rattle.std.specs.List.{cons_option}
use Rattle.gl_meaning.specs.Path.{Path, path_eq, has_path, at_path}
use Rattle.gl_meaning.specs.Known.{Among}
use Rattle.gl_meaning.specs.Laws.{NoRepeat}
use Rattle.gl_meaning.proofs.Equal.{path_means, path_itself}
use Rattle.gl_meaning.proofs.Pieces.{some_same, none_some}

-- what is found in a list is found in one of it
pub found_from : {A B : Type 0} (g : A → Option B) (y : B) (xs : List A) → Among y (filter_map g xs) → (x : A) × Among x xs × (g x ≡ Some y)
found_from g y [] m = absurd m
found_from {A} {B} g y (x ∷ xs) m = by (g x) refl (λ k. let h = found_from g y xs k in (h.0, inr h.1, h.2)) m where
  by : (o : Option B) → g x ≡ o → (Among y (filter_map g xs) → (x' : A) × Among x' (x ∷ xs) × (g x' ≡ Some y)) → Among y (cons_option o (filter_map g xs)) → (x' : A) × Among x' (x ∷ xs) × (g x' ≡ Some y)
  by None e f k = f k
  by (Some z) e f (inl k) = (x, inl refl, e ∙ ap Some (sym k))
  by (Some z) e f (inr k) = f k

pub found_in : {A B : Type 0} (g : A → Option B) (y : B) (x : A) (xs : List A) → g x ≡ Some y → Among x xs → Among y (filter_map g xs)
found_in g y x [] e m = absurd m
found_in {A} {B} g y x (z ∷ xs) e (inl k) = by (g z) (ap g (sym k) ∙ e) where
  by : (o : Option B) → o ≡ Some y → Among y (cons_option o (filter_map g xs))
  by None f = absurd (none_some y f)
  by (Some w) f = inl (sym (some_same w y f))
found_in {A} {B} g y x (z ∷ xs) e (inr k) = by (g z) (found_in g y x xs e k) where
  by : (o : Option B) → Among y (filter_map g xs) → Among y (cons_option o (filter_map g xs))
  by None f = f
  by (Some w) f = inr f

pub among_mapped : {A B : Type 0} (f : A → B) (x : A) (xs : List A) → Among x xs → Among (f x) (map f xs)
among_mapped f x [] m = absurd m
among_mapped f x (y ∷ ys) (inl e) = inl (ap f e)
among_mapped f x (y ∷ ys) (inr m) = inr (among_mapped f x ys m)

pub mapped_from : {A B : Type 0} (f : A → B) (y : B) (xs : List A) → Among y (map f xs) → (x : A) × Among x xs × (y ≡ f x)
mapped_from f y [] m = absurd m
mapped_from f y (x ∷ xs) (inl e) = (x, inl refl, e)
mapped_from f y (x ∷ xs) (inr m) = let h = mapped_from f y xs m in (h.0, inr h.1, h.2)

pub path_other : (p q : Path) → (p ≡ q → ⊥) → path_eq p q ≡ false
path_other p q d = by (path_eq p q) refl where
  by : (b : Bool) → path_eq p q ≡ b → path_eq p q ≡ false
  by true e = absurd (d (path_means p q e))
  by false e = e

pub at_absent : {A : Type 0} (p : Path) (xs : List (Path × A)) → ((z : Path × A) → Among z xs → p ≡ z.0 → ⊥) → at_path p xs ≡ None
at_absent p [] d = refl
at_absent p (x ∷ xs) d = ap (λ b. if b then Some x.1 else at_path p xs) (path_other p x.0 (d x (inl refl))) ∙ at_absent p xs (λ z m e. d z (inr m) e)

pub at_found : {A : Type 0} (p : Path) (n : A) (xs : List (Path × A)) → NoRepeat (map (λ z. z.0) xs) → Among (p, n) xs → at_path p xs ≡ Some n
at_found p n [] d m = absurd m
at_found {A} p n (x ∷ xs) d (inl e) = ap (λ b. if b then Some x.1 else at_path p xs) (subst (λ q. path_eq p q ≡ true) (ap (λ (z : Path × A). z.0) e) (path_itself p)) ∙ ap (λ (z : Path × A). Some z.1) (sym e)
at_found {A} p n (x ∷ xs) d (inr m) =
    ap (λ b. if b then Some x.1 else at_path p xs) (path_other p x.0 (λ e. d.0 (subst (λ q. Among q (map (λ (z : Path × A). z.0) xs)) e (among_mapped (λ (z : Path × A). z.0) (p, n) xs m)))) ∙ at_found p n xs d.1 m

-- a path of the list is looked up
pub has_means : (p : Path) (xs : List Path) → has_path p xs ≡ true → Among p xs
has_means p [] e = absurd (true≢false (sym e))
has_means p (q ∷ qs) e = by (path_eq p q) refl (has_means p qs) e where
  by : (b : Bool) → path_eq p q ≡ b → (has_path p qs ≡ true → Among p qs) → (b || has_path p qs) ≡ true → Among p (q ∷ qs)
  by true f rec g = inl (path_means p q f)
  by false f rec g = inr (rec g)

-- and a look-up by path finds what is there
pub at_means : {A : Type 0} (p : Path) (xs : List (Path × A)) (n : A) → at_path p xs ≡ Some n → Among p (map (λ z. z.0) xs)
at_means p [] n e = absurd (none_some n e)
at_means {A} p (x ∷ xs) n e = by (path_eq p x.0) refl (at_means p xs n) e where
  by : (b : Bool) → path_eq p x.0 ≡ b → (at_path p xs ≡ Some n → Among p (map (λ z. z.0) xs)) → (if b then Some x.1 else at_path p xs) ≡ Some n → Among p (x.0 ∷ map (λ z. z.0) xs)
  by true f rec g = inl (path_means p x.0 f)
  by false f rec g = inr (rec g)

pub at_none : {A : Type 0} (p : Path) (xs : List (Path × A)) → at_path p xs ≡ None → Among p (map (λ z. z.0) xs) → ⊥
at_none p [] e m = m
at_none {A} p (x ∷ xs) e m = by (path_eq p x.0) refl (at_none p xs) e m where
  by : (b : Bool) → path_eq p x.0 ≡ b → (at_path p xs ≡ None → Among p (map (λ z. z.0) xs) → ⊥) → (if b then Some x.1 else at_path p xs) ≡ None → ((p ≡ x.0) ⊎ Among p (map (λ z. z.0) xs)) → ⊥
  by true f rec g k = none_some x.1 (sym g)
  by false f rec g (inl k) = true≢false (sym (subst (λ q. path_eq p q ≡ true) k (path_itself p)) ∙ f)
  by false f rec g (inr k) = rec g k

pub has_it : (p : Path) (xs : List Path) → Among p xs → has_path p xs ≡ true
has_it p [] m = absurd m
has_it p (q ∷ qs) (inl e) = ap (λ b. b || has_path p qs) (subst (λ z. path_eq p z ≡ true) e (path_itself p))
has_it p (q ∷ qs) (inr m) = by (path_eq p q) (has_it p qs m) where
  by : (b : Bool) → has_path p qs ≡ true → (b || has_path p qs) ≡ true
  by true e = refl
  by false e = e

pub has_not : (p : Path) (xs : List Path) → (Among p xs → ⊥) → has_path p xs ≡ false
has_not p xs d = by (has_path p xs) refl where
  by : (b : Bool) → has_path p xs ≡ b → has_path p xs ≡ false
  by true e = absurd (d (has_means p xs e))
  by false e = e

pub at_gives : {A : Type 0} (p : Path) (xs : List (Path × A)) (n : A) → at_path p xs ≡ Some n → Among (p, n) xs
at_gives p [] n e = absurd (none_some n e)
at_gives {A} p (x ∷ xs) n e = by (path_eq p x.0) refl (at_gives p xs n) e where
  by : (b : Bool) → path_eq p x.0 ≡ b → (at_path p xs ≡ Some n → Among (p, n) xs) → (if b then Some x.1 else at_path p xs) ≡ Some n → Among (p, n) (x ∷ xs)
  by true f rec g = inl (ap₂ (λ q k. (q, k)) (path_means p x.0 f) (sym (some_same x.1 n g)))
  by false f rec g = inr (rec g)
