-- Two values are the same just where they are equal.
use Rattle.std.proofs.Common.{◌≡◌, Bool, true, false, true≢false, refl, sym, ap, ap₂, subst}
use Rattle.std.specs.Prelude.{◌&&◌}
use Rattle.std.specs.Bool.{Decides}
use Rattle.std.specs.Str.{bytes_eq}
use Rattle.std.specs.Cmp.{booleans_Decides}
use Rattle.std.proofs.lemmas.Bool.Decides.{Decides-int_eq}
use Rattle.std.proofs.lemmas.Slice.Eq.{bytes_eq-Decides}
use Rattle.gl_value.specs.Value.{Value, undefined, null, boolean, integer, text, list, pairs, action, Values, no_values, value, Members, no_members, member, same, same_values, same_members}
use Rattle.gl_value.specs.Laws.{SameDecides}

pub both_left : (a b : Bool) → (a && b) ≡ true → a ≡ true
both_left true b e = refl
both_left false b e = e

pub both_right : (a b : Bool) → (a && b) ≡ true → b ≡ true
both_right true b e = e
both_right false b e = absurd (true≢false (sym e))

pub both_true : (a b : Bool) → a ≡ true → b ≡ true → (a && b) ≡ true
both_true true b e f = f
both_true false b e f = e

module _ (O : Type 0) (eq : O → O → Bool) (law : (x y : O) → Decides (eq x y) (x ≡ y)) where
  mutual
    pub same_means : (x y : Value O) → same eq x y ≡ true → x ≡ y
    same_means undefined undefined e = refl
    same_means null null e = refl
    same_means (boolean a) (boolean b) e = ap boolean ((booleans_Decides a b).0 e)
    same_means (integer a) (integer b) e = ap integer ((Decides-int_eq a b).0 e)
    same_means (text a) (text b) e = ap text ((bytes_eq-Decides a b).0 e)
    same_means (list a) (list b) e = ap list (same_values_means a b e)
    same_means (pairs a) (pairs b) e = ap pairs (same_members_means a b e)
    same_means (action o n a) (action p m b) e =
        let first = both_left (eq o p && bytes_eq n m) (same_values eq a b) e in
        ap₂ (λ f w. f w) (ap₂ action ((law o p).0 (both_left _ _ first)) ((bytes_eq-Decides n m).0 (both_right _ _ first))) (same_values_means a b (both_right (eq o p && bytes_eq n m) _ e))
    same_means _ _ e = absurd (true≢false (sym e))

    pub same_values_means : (x y : Values O) → same_values eq x y ≡ true → x ≡ y
    same_values_means no_values no_values e = refl
    same_values_means (value a x) (value b y) e = ap₂ value (same_means a b (both_left _ _ e)) (same_values_means x y (both_right (same eq a b) _ e))
    same_values_means _ _ e = absurd (true≢false (sym e))

    pub same_members_means : (x y : Members O) → same_members eq x y ≡ true → x ≡ y
    same_members_means no_members no_members e = refl
    same_members_means (member k a x) (member l b y) e =
        let first = both_left (bytes_eq k l && same eq a b) (same_members eq x y) e in
        ap₂ (λ f w. f w) (ap₂ member ((bytes_eq-Decides k l).0 (both_left _ _ first)) (same_means a b (both_right (bytes_eq k l) _ first))) (same_members_means x y (both_right (bytes_eq k l && same eq a b) _ e))
    same_members_means _ _ e = absurd (true≢false (sym e))

  mutual
    pub same_itself : (x : Value O) → same eq x x ≡ true
    same_itself undefined = refl
    same_itself null = refl
    same_itself (boolean a) = (booleans_Decides a a).1 refl
    same_itself (integer a) = (Decides-int_eq a a).1 refl
    same_itself (text a) = (bytes_eq-Decides a a).1 refl
    same_itself (list a) = same_values_itself a
    same_itself (pairs a) = same_members_itself a
    same_itself (action o n a) = both_true _ _ (both_true _ _ ((law o o).1 refl) ((bytes_eq-Decides n n).1 refl)) (same_values_itself a)

    pub same_values_itself : (x : Values O) → same_values eq x x ≡ true
    same_values_itself no_values = refl
    same_values_itself (value a x) = both_true _ _ (same_itself a) (same_values_itself x)

    pub same_members_itself : (x : Members O) → same_members eq x x ≡ true
    same_members_itself no_members = refl
    same_members_itself (member k a x) = both_true _ _ (both_true _ _ ((bytes_eq-Decides k k).1 refl) (same_itself a)) (same_members_itself x)

pub same-Decides : {O : Type 0} → SameDecides O
same-Decides {O} eq law v w = (same_means O eq law v w, λ e. subst (λ (x : Value O). same eq v x ≡ true) e (same_itself O eq law v))
