-- How many items are moved between two pieces of the updating program, by how they are put together.
use Rattle.std.proofs.Common.{◌≡◌, ◌≢◌, ℕ, zero, suc, ◌+◌, List, [], ◌∷◌, ◌++◌, map, length, Bool, true, false, Option, Some, None, refl, sym, ◌∙◌, ap, subst, inl, inr, arith}
use Rattle.std.specs.Prelude.{slice_get, if◌then◌else◌}
use Rattle.gl_meaning.specs.Known.{Among}
use Rattle.gl_meaning.specs.Laws.{NoRepeat}
use Rattle.gl_plain.specs.Binding.{Spot}
use Rattle.gl_plain.specs.Live.{Live, branch_live, listed, unlisted, Items, Lives}
use Rattle.gl_machine.specs.Code.{Code, live_of, lives_of, items_of}
use Rattle.gl_each.specs.Key.{Key, same_key}
use Rattle.gl_each.specs.SameKeys.{same_key-Decides}
use Rattle.gl_kept.specs.Between.{lives_with, kept_with, moved_between, moved_items, moved_bodies}
use Rattle.gl_kept.specs.Listed.{spot_keys}
use Rattle.gl_code.specs.CodeView.{all_codes, all_items}
use Rattle.gl_update.specs.Counted.{IsListed, IsUnlisted}
use Rattle.gl_update.specs.ListItems.{Item, spot_key, there, HasKeys}

-- Bodies

-- a statement more at the end of two bodies of one length
pub bodies_more : (xs ys : List Code) (x y : Code) → length xs ≡ length ys
    → moved_bodies (lives_of (all_codes (xs ++ x ∷ []))) (lives_of (all_codes (ys ++ y ∷ []))) ≡ moved_bodies (lives_of (all_codes xs)) (lives_of (all_codes ys)) + moved_between (live_of x) (live_of y)
bodies_more [] [] x y e = omega arith
bodies_more [] (b ∷ ys) x y e = absurd (omega (arith, e))
bodies_more (a ∷ xs) [] x y e = absurd (omega (arith, e))
bodies_more (a ∷ xs) (b ∷ ys) x y e =
    let one = moved_between (live_of a) (live_of b) in
    let rest = moved_bodies (lives_of (all_codes xs)) (lives_of (all_codes ys)) in
    let last = moved_between (live_of x) (live_of y) in
    let swap : one + (rest + last) ≡ (one + rest) + last = omega arith in
    ap (λ k. one + k) (bodies_more xs ys x y (omega (arith, e))) ∙ swap

-- Items of lists

pub keys_are : (xs : List Item) → spot_keys (items_of (all_items xs)) ≡ map spot_key xs
keys_are [] = refl
keys_are (x ∷ xs) = ap (λ ks. spot_key x ∷ ks) (keys_are xs)

-- an item more at the end
pub items_more : (olds : Items) (ys : List Item) (y : Item)
    → moved_items olds (items_of (all_items (ys ++ y ∷ []))) ≡ moved_items olds (items_of (all_items ys)) + kept_with (lives_with (spot_key y) olds) (λ ks. moved_bodies ks (lives_of y.1.1))
items_more olds [] y = omega arith
items_more olds (x ∷ ys) y =
    let one = kept_with (lives_with (spot_key x) olds) (λ ks. moved_bodies ks (lives_of x.1.1)) in
    let rest = moved_items olds (items_of (all_items ys)) in
    let last = kept_with (lives_with (spot_key y) olds) (λ ks. moved_bodies ks (lives_of y.1.1)) in
    let swap : one + (rest + last) ≡ (one + rest) + last = omega arith in
    ap (λ k. one + k) (items_more olds ys y) ∙ swap

among_key : (ks : List Key) (i : ℕ) (k : Key) → slice_get ks i ≡ Some k → Among k ks
among_key [] i k e = let no : None ≡ Some k = e in cc
among_key (x ∷ xs) zero k e = let is : Some x ≡ Some k = e in inl cc
among_key (x ∷ xs) (suc i) k e = inr (among_key xs i k e)

-- the first of the items, or one of the others
pub first_or : (k : Key) (x : Item) (xs : List Item) (b : Bool) → same_key k (spot_key x) ≡ b
    → lives_with k (items_of (all_items (x ∷ xs))) ≡ (if b then Some (lives_of x.1.1) else lives_with k (items_of (all_items xs)))
first_or k x xs b e = ap (λ t. if t then Some (lives_of x.1.1) else lives_with k (items_of (all_items xs))) e

pub apart_keys : (k l : Key) → k ≢ l → same_key k l ≡ false
apart_keys k l ne = by (same_key k l) refl where
  by : (b : Bool) → same_key k l ≡ b → b ≡ false
  by true e = absurd (ne ((same_key-Decides k l).0 e))
  by false e = refl

-- the item at the place of a key is the one with that key
pub found_there : (k : Key) (ks : List Key) (os : List (Option Item)) (i : ℕ) (x : Item) → NoRepeat ks → HasKeys ks os → slice_get ks i ≡ Some k → slice_get os i ≡ Some (Some x)
    → (lives_with k (items_of (all_items (there os))) ≡ Some (lives_of x.1.1)) × (spot_key x ≡ k)
found_there k [] os i x once has at o = let no : None ≡ Some k = at in cc
found_there k (l ∷ ks) [] i x once has at o = absurd has
found_there k (l ∷ ks) (None ∷ os) zero x once has at o = let no : Some None ≡ Some (Some x) = o in absurd (cc)
found_there k (l ∷ ks) (Some y ∷ os) zero x once has at o =
    let here : Some (Some y) ≡ Some (Some x) = o in
    let key : Some l ≡ Some k = at in
    let is : y ≡ x = cc in
    let same : spot_key y ≡ k = has.0 ∙ (let e : l ≡ k = cc in e) in
    (first_or k y (there os) true ((same_key-Decides k (spot_key y)).1 (sym same)) ∙ ap (λ z. Some (lives_of z.1.1)) is, ap spot_key (sym is) ∙ same)
found_there k (l ∷ ks) (None ∷ os) (suc i) x once has at o = found_there k ks os i x once.1 has at o
found_there k (l ∷ ks) (Some y ∷ os) (suc i) x once has at o =
    let apart : k ≢ spot_key y = λ same. once.0 (subst (λ z. Among z ks) (same ∙ has.0) (among_key ks i k at)) in
    let rest = found_there k ks os i x once.1 has.1 at o in
    (first_or k y (there os) false (apart_keys k (spot_key y) apart) ∙ rest.0, rest.1)

-- where the key is none of the keys there is no such item
pub found_nowhere : (k : Key) (ks : List Key) (os : List (Option Item)) → HasKeys ks os → ((i : ℕ) → slice_get ks i ≢ Some k) → lives_with k (items_of (all_items (there os))) ≡ None
found_nowhere k [] [] has none = refl
found_nowhere k [] (o ∷ os) has none = absurd has
found_nowhere k (l ∷ ks) [] has none = absurd has
found_nowhere k (l ∷ ks) (None ∷ os) has none = found_nowhere k ks os has (λ i. none (suc i))
found_nowhere k (l ∷ ks) (Some y ∷ os) has none =
    let apart : k ≢ spot_key y = λ same. none zero (ap Some (sym (same ∙ has.0))) in
    first_or k y (there os) false (apart_keys k (spot_key y) apart) ∙ found_nowhere k ks os has.1 (λ i. none (suc i))

-- Branches and lists that become the other kind

pub none_flipped : (s z : Spot) (b was : Bool) (k c : Option ℕ) (ks ls : Lives) → b ≢ was → moved_between (branch_live s was k ks) (branch_live z b c ls) ≡ 0
none_flipped s z true true k c ks ls ne = absurd (ne refl)
none_flipped s z true false k c ks ls ne = refl
none_flipped s z false true k c ks ls ne = refl
none_flipped s z false false k c ks ls ne = absurd (ne refl)

pub branch_same : (s z : Spot) (b : Bool) (k c : Option ℕ) (ks ls : Lives) → moved_between (branch_live s b k ks) (branch_live z b c ls) ≡ moved_bodies ks ls
branch_same s z true k c ks ls = refl
branch_same s z false k c ks ls = refl

pub none_unlisted : (z : Spot) (is : Items) (x : Live) → IsUnlisted x → moved_between (listed z is) x ≡ 0
none_unlisted z is (unlisted z2 k ls) h = refl
none_unlisted z is _ h = absurd h

pub none_listed : (z : Spot) (k : Option ℕ) (ls : Lives) (x : Live) → IsListed x → moved_between (unlisted z k ls) x ≡ 0
none_listed z k ls (listed z2 is) h = refl
none_listed z k ls _ h = absurd h
