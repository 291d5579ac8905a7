-- Equality of values, paths and texts is decided by the tests.
use Rattle.std.proofs.Common.{◌≡◌, ℕ, [], ◌∷◌, Bool, true, false, true≢false, refl, sym, ap, ap₂}
use Rattle.std.specs.Prelude.{◌&&◌, nat_eq}
use Rattle.std.specs.Bool.{Decides}
use Rattle.std.specs.Str.{bytes_eq}
use Rattle.std.specs.Cmp.{booleans_Decides}
use Rattle.std.proofs.lemmas.Bool.Decides.{Decides-eqb, Decides-int_eq}
use Rattle.std.proofs.lemmas.Slice.Eq.{bytes_eq-Decides}
use Rattle.gl_meaning.specs.Path.{no_owners, PathStep, at, main, otherwise, items, item, into, slot, empty, attribute_at, modifier_at, Path, step_eq, path_eq}
use Rattle.gl_base.specs.Texts.{Text}
use Rattle.gl_value.specs.Value

pub both_left : (a b : Bool) → (a && b) ≡ true → a ≡ true
both_left true b e = refl
both_left false b e = e

pub both_right : (a b : Bool) → (a && b) ≡ true → b ≡ true
both_right true b e = e
both_right false b e = absurd (true≢false (sym e))

pub both_true : (a b : Bool) → a ≡ true → b ≡ true → (a && b) ≡ true
both_true true b e f = f
both_true false b e f = e

module _ (O : Type 0) (eq : O → O → Bool) (law : (x y : O) → Decides (eq x y) (x ≡ y)) where
  mutual
    pub same_means : (x y : Value.Value O) → Value.same eq x y ≡ true → x ≡ y
    same_means Value.undefined Value.undefined e = refl
    same_means Value.null Value.null e = refl
    same_means (Value.boolean a) (Value.boolean b) e = ap Value.boolean ((booleans_Decides a b).0 e)
    same_means (Value.integer a) (Value.integer b) e = ap Value.integer ((Decides-int_eq a b).0 e)
    same_means (Value.text a) (Value.text b) e = ap Value.text ((bytes_eq-Decides a b).0 e)
    same_means (Value.list a) (Value.list b) e = ap Value.list (same_values_means a b e)
    same_means (Value.pairs a) (Value.pairs b) e = ap Value.pairs (same_members_means a b e)
    same_means (Value.action o n a) (Value.action p m b) e =
        let first = both_left (eq o p && bytes_eq n m) (Value.same_values eq a b) e in
        ap₂ (λ f w. f w) (ap₂ Value.action ((law o p).0 (both_left _ _ first)) ((bytes_eq-Decides n m).0 (both_right _ _ first))) (same_values_means a b (both_right (eq o p && bytes_eq n m) _ e))
    same_means _ _ e = absurd (true≢false (sym e))

    pub same_values_means : (x y : Value.Values O) → Value.same_values eq x y ≡ true → x ≡ y
    same_values_means Value.no_values Value.no_values e = refl
    same_values_means (Value.value a x) (Value.value b y) e = ap₂ Value.value (same_means a b (both_left _ _ e)) (same_values_means x y (both_right (Value.same eq a b) _ e))
    same_values_means _ _ e = absurd (true≢false (sym e))

    pub same_members_means : (x y : Value.Members O) → Value.same_members eq x y ≡ true → x ≡ y
    same_members_means Value.no_members Value.no_members e = refl
    same_members_means (Value.member k a x) (Value.member l b y) e =
        let first = both_left (bytes_eq k l && Value.same eq a b) (Value.same_members eq x y) e in
        ap₂ (λ f w. f w) (ap₂ Value.member ((bytes_eq-Decides k l).0 (both_left _ _ first)) (same_means a b (both_right (bytes_eq k l) _ first))) (same_members_means x y (both_right (bytes_eq k l && Value.same eq a b) _ e))
    same_members_means _ _ e = absurd (true≢false (sym e))

  mutual
    pub same_itself : (x : Value.Value O) → Value.same eq x x ≡ true
    same_itself Value.undefined = refl
    same_itself Value.null = refl
    same_itself (Value.boolean a) = (booleans_Decides a a).1 refl
    same_itself (Value.integer a) = (Decides-int_eq a a).1 refl
    same_itself (Value.text a) = (bytes_eq-Decides a a).1 refl
    same_itself (Value.list a) = same_values_itself a
    same_itself (Value.pairs a) = same_members_itself a
    same_itself (Value.action o n a) = both_true _ _ (both_true _ _ ((law o o).1 refl) ((bytes_eq-Decides n n).1 refl)) (same_values_itself a)

    pub same_values_itself : (x : Value.Values O) → Value.same_values eq x x ≡ true
    same_values_itself Value.no_values = refl
    same_values_itself (Value.value a x) = both_true _ _ (same_itself a) (same_values_itself x)

    pub same_members_itself : (x : Value.Members O) → Value.same_members eq x x ≡ true
    same_members_itself Value.no_members = refl
    same_members_itself (Value.member k a x) = both_true _ _ (both_true _ _ ((bytes_eq-Decides k k).1 refl) (same_itself a)) (same_members_itself x)

pub no_owners-Decides : (x y : ⊥) → Decides (no_owners x y) (x ≡ y)
no_owners-Decides x y = absurd x

pub text_means : (a b : Text) → bytes_eq a b ≡ true → a ≡ b
text_means a b e = (bytes_eq-Decides a b).0 e

pub text_itself : (a : Text) → bytes_eq a a ≡ true
text_itself a = (bytes_eq-Decides a a).1 refl

number_means : (a b : ℕ) → nat_eq a b ≡ true → a ≡ b
number_means a b e = (Decides-eqb a b).0 e

number_itself : (a : ℕ) → nat_eq a a ≡ true
number_itself a = (Decides-eqb a a).1 refl

pub step_means : (s t : PathStep) → step_eq s t ≡ true → s ≡ t
step_means (at i) (at j) e = ap at (number_means i j e)
step_means main main e = refl
step_means otherwise otherwise e = refl
step_means items items e = refl
step_means (item k n) (item l m) e = ap₂ item (same_means ⊥ no_owners no_owners-Decides k l (both_left _ _ e)) (number_means n m (both_right (Value.same no_owners k l) _ e))
step_means (into c) (into d) e = ap into (text_means c d e)
step_means (slot c) (slot d) e = ap slot (text_means c d e)
step_means empty empty e = refl
step_means (attribute_at c) (attribute_at d) e = ap attribute_at (text_means c d e)
step_means (modifier_at i) (modifier_at j) e = ap modifier_at (number_means i j e)
step_means _ _ e = absurd (true≢false (sym e))

pub step_itself : (s : PathStep) → step_eq s s ≡ true
step_itself (at i) = number_itself i
step_itself main = refl
step_itself otherwise = refl
step_itself items = refl
step_itself (item k n) = both_true _ _ (same_itself ⊥ no_owners no_owners-Decides k) (number_itself n)
step_itself (into c) = text_itself c
step_itself (slot c) = text_itself c
step_itself empty = refl
step_itself (attribute_at c) = text_itself c
step_itself (modifier_at i) = number_itself i

pub path_means : (p q : Path) → path_eq p q ≡ true → p ≡ q
path_means [] [] e = refl
path_means (s ∷ p) (t ∷ q) e = ap₂ (λ x y. x ∷ y) (step_means s t (both_left _ _ e)) (path_means p q (both_right (step_eq s t) _ e))
path_means _ _ e = absurd (true≢false (sym e))

pub path_itself : (p : Path) → path_eq p p ≡ true
path_itself [] = refl
path_itself (s ∷ p) = both_true _ _ (step_itself s) (path_itself p)
