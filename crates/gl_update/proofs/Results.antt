-- What is so of a fault is another thing that is so.
use Rattle.std.proofs.Common.{◌≡◌, ◌≢◌, ℕ, Bool, true, false, List, ◌++◌, length, take, sym, ◌∙◌, ap, subst}
use Rattle.std.specs.Prelude.{Result, Ok, Err, IfErr, IfOk, OnOk}
use Rattle.std.proofs.Math.Bool.{beq}
use Rattle.std.proofs.Math.Seq.{take-append_seam}

pub if_err : {T E : Type 0} {P Q : E → Type 0} (r : Result T E) → ((e : E) → P e → Q e) → IfErr r P → IfErr r Q
if_err (Ok x) g p = tt
if_err (Err e) g p = g e p

-- what is so at any rate is so of an answer
pub on_ok_always : {T E P : Type 0} (r : Result T E) → P → OnOk r P
on_ok_always (Ok x) p = p
on_ok_always (Err e) p = tt

-- two things that are so of an answer
pub on_ok_two : {T E P Q R : Type 0} (r : Result T E) → (P → Q → R) → OnOk r P → OnOk r Q → OnOk r R
on_ok_two (Ok x) g p q = g p q
on_ok_two (Err e) g p q = tt

pub if_ok_two : {T E Q : Type 0} {P R : T → Type 0} (r : Result T E) → ((x : T) → P x → Q → R x) → IfOk r P → OnOk r Q → IfOk r R
if_ok_two (Ok x) g p q = g x p q
if_ok_two (Err e) g p q = tt

-- what was written to the whole of a vector
pub written : {A : Type 0} (xs ys : List A) (n : ℕ) → n ≡ length xs → xs ≡ take n (xs ++ ys)
written xs ys n e = sym (ap (λ k. take k (xs ++ ys)) e ∙ take-append_seam xs ys)

-- of every one of a family
pub if_err_all : {M T E : Type 0} {P : M → E → Type 0} {Q : E → Type 0} (r : Result T E) → ((e : E) → ((m : M) → P m e) → Q e) → ((m : M) → IfErr r (P m)) → IfErr r Q
if_err_all (Ok x) g p = tt
if_err_all (Err e) g p = g e p

-- a test of two answers that fails
pub sides_differ : (x y : Bool) → beq x y ≡ false → x ≢ y
sides_differ true true e q = let no : true ≡ false = e in absurd (cc)
sides_differ false false e q = let no : true ≡ false = e in absurd (cc)
sides_differ true false e q = let no : true ≡ false = q in absurd (cc)
sides_differ false true e q = let no : false ≡ true = q in absurd (cc)

-- what is so of some things is so of those that are the same
pub moved2 : {A B : Type 0} (P : A → B → Type 0) {a a' : A} {b b' : B} → a ≡ a' → b ≡ b' → P a b → P a' b'
moved2 P {a} {a'} {b} {b'} e f x = subst (λ z. P z b') e (subst (λ z. P a z) f x)

pub moved4 : {A B C D : Type 0} (P : A → B → C → D → Type 0) {a a' : A} {b b' : B} {c c' : C} {d d' : D} → a ≡ a' → b ≡ b' → c ≡ c' → d ≡ d' → P a b c d → P a' b' c' d'
moved4 P {a} {a'} {b} {b'} {c} {c'} {d} {d'} e f g h x = moved2 (λ y z. P y z c' d') e f (moved2 (P a b) g h x)

pub moved5 : {A B C D E : Type 0} (P : A → B → C → D → E → Type 0) {a a' : A} {b b' : B} {c c' : C} {d d' : D} {e e' : E} → a ≡ a' → b ≡ b' → c ≡ c' → d ≡ d' → e ≡ e' → P a b c d e → P a' b' c' d' e'
moved5 P {a} {a'} {b} {b'} {c} {c'} {d} {d'} {e} {e'} f g h i j x = subst (λ z. P z b' c' d' e') f (moved4 (P a) g h i j x)
