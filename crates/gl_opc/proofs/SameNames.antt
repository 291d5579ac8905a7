-- Which names stand in a list that is joined, by `++` or with each name once.
use Rattle.std.proofs.Common.{◌≡◌, List, [], ◌∷◌, ◌++◌, Bool, true, false, ◌||◌, refl, sym, ap, subst, ◌∙◌}
use Rattle.std.specs.Prelude.{if◌then◌else◌}
use Rattle.std.specs.Str.{bytes_eq}
use Rattle.std.proofs.lemmas.Slice.Eq.{bytes_eq-Decides}
use Rattle.gl_base.specs.Names.{has_text}
use Rattle.gl_base.specs.Texts.{Text}
use Rattle.gl_wire.specs.Symbols.{with_name, with_names}

or_assoc : (a b c : Bool) → ((a || b) || c) ≡ (a || (b || c))
or_assoc true b c = refl
or_assoc false b c = refl

or_false : (a : Bool) → (a || false) ≡ a
or_false true = refl
or_false false = refl

or_same : (a b : Bool) → (b ≡ true → a ≡ true) → a ≡ (a || b)
or_same true b h = refl
or_same false true h = h refl
or_same false false h = refl

pub has_text-append : (n : Text) (xs ys : List Text) → has_text n (xs ++ ys) ≡ (has_text n xs || has_text n ys)
has_text-append n [] ys = refl
has_text-append n (x ∷ xs) ys = ap (λ b. bytes_eq n x || b) (has_text-append n xs ys) ∙ sym (or_assoc (bytes_eq n x) (has_text n xs) (has_text n ys))

added : (b : Bool) (n m : Text) (ns : List Text) → has_text m ns ≡ b → has_text n (if b then ns else ns ++ m ∷ []) ≡ (has_text n ns || bytes_eq n m)
added true n m ns e =
    or_same (has_text n ns) (bytes_eq n m) (λ h. let P : Text → Type 0 = λ x. has_text x ns ≡ true in subst P (sym ((bytes_eq-Decides n m).0 h)) e)
added false n m ns e = has_text-append n ns (m ∷ []) ∙ ap (λ b. has_text n ns || b) (or_false (bytes_eq n m))

pub has_text-with_names : (n : Text) (ns ms : List Text) → has_text n (with_names ns ms) ≡ (has_text n ns || has_text n ms)
has_text-with_names n ns [] = sym (or_false (has_text n ns))
has_text-with_names n ns (m ∷ ms) =
    has_text-with_names n (with_name ns m) ms ∙ ap (λ b. b || has_text n ms) (added (has_text m ns) n m ns refl) ∙ or_assoc (has_text n ns) (bytes_eq n m) (has_text n ms)

-- the same names are in both
abbrev pub SameNames : List Text → List Text → Type 0
SameNames xs ys = (n : Text) → has_text n xs ≡ has_text n ys

-- with parameters that come into scope, too
pub same_more : (scope params ns : List Text) → SameNames scope params → SameNames (with_names scope ns) (params ++ ns)
same_more scope params ns same n =
    has_text-with_names n scope ns ∙ (ap (λ b. b || has_text n ns) (same n) ∙ sym (has_text-append n params ns))

-- each name of the one is in the other
abbrev pub Among : List Text → List Text → Type 0
Among ns symbols = (n : Text) → has_text n ns ≡ true → has_text n symbols ≡ true

or_left : (a b : Bool) → a ≡ true → (a || b) ≡ true
or_left a b e = rw e refl

or_right : (a b : Bool) → b ≡ true → (a || b) ≡ true
or_right true b e = refl
or_right false b e = e

pub front_among : (symbols xs ys : List Text) → Among (xs ++ ys) symbols → Among xs symbols
front_among symbols xs ys a n h = a n (has_text-append n xs ys ∙ or_left (has_text n xs) (has_text n ys) h)

pub back_among : (symbols xs ys : List Text) → Among (xs ++ ys) symbols → Among ys symbols
back_among symbols xs ys a n h = a n (has_text-append n xs ys ∙ or_right (has_text n xs) (has_text n ys) h)

pub once_among : (ns : List Text) → Among ns (with_names [] ns)
once_among ns n h = has_text-with_names n [] ns ∙ h

pub lone_among : (symbols : List Text) (n : Text) → Among (n ∷ []) symbols → has_text n symbols ≡ true
lone_among symbols n a = a n (or_left (bytes_eq n n) false ((bytes_eq-Decides n n).1 refl))
