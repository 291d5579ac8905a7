-- What was moved of the items of a list that are walked along, each in its place.
use Rattle.std.proofs.Common.{◌≡◌, ◌≢◌, ◌≤◌, ◌<◌, ℕ, zero, suc, ◌+◌, true, false, List, [], ◌∷◌, ◌++◌, map, take, set, length, get_or, Some, None, slice_get, refl, sym, ◌∙◌, ap, ap₂, subst, arith, inl, inr}
use Rattle.std.proofs.lemmas.List.{map-append, length-map, length-take-le, take_all, take_more, take_more_set}
use Rattle.gl_meaning.specs.Known.{Among}
use Rattle.gl_meaning.specs.Laws.{NoRepeat}
use Rattle.gl_plain.specs.Binding.{Spot}
use Rattle.gl_machine.specs.Code.{Listing, Code as PlainCode, listed_code, live_of, lives_of, items_of}
use Rattle.gl_each.specs.Key.{Key}
use Rattle.gl_each.specs.SameKeys.{same_key-Decides}
use Rattle.gl_kept.specs.Between.{moves_between, lives_with, kept_with, moved_between, moved_items, moved_bodies}
use Rattle.gl_kept.specs.Listed.{spot_keys}
use Rattle.gl_guards.specs.Once.{KeysOnceItems, KeysOnceIn}
use Rattle.gl_guards.proofs.Itself.{none_passed, none_moved}
use Rattle.gl_vm.specs.View.{Tables}
use Rattle.gl_code.specs.CodeView.{seen_item_code, all_items}
use Rattle.gl_code.specs.declared.code.ItemCode.{ItemCode}
use Rattle.gl_update.specs.Counted.{CodeMoved, KeptMoved, ItemsAlong, along_moved}
use Rattle.gl_update.specs.ListItems.{Item, spot_key}
use Rattle.gl_update.specs.declared.counting.Moved.{Moved}
use Rattle.gl_update.proofs.Counts.{keys_are, first_or, apart_keys}

-- Items in their places

among_keys : (xs : List Item) (i : ℕ) (x : Item) → slice_get xs i ≡ Some x → Among (spot_key x) (map spot_key xs)
among_keys [] i x e = let no : None ≡ Some x = e in absurd (cc)
among_keys (y ∷ ys) zero x e = let is : Some y ≡ Some x = e in inl (let same : y ≡ x = cc in ap spot_key (sym same))
among_keys (y ∷ ys) (suc i) x e = inr (among_keys ys i x e)

-- the item at a place is the one with its key
found_at : (all : List Item) (i : ℕ) (x : Item) → NoRepeat (map spot_key all) → slice_get all i ≡ Some x → lives_with (spot_key x) (items_of (all_items all)) ≡ Some (lives_of x.1.1)
found_at [] i x once e = let no : None ≡ Some x = e in absurd (cc)
found_at (y ∷ ys) zero x once e =
    let is : Some y ≡ Some x = e in
    let same : y ≡ x = cc in
    first_or (spot_key x) y ys true ((same_key-Decides (spot_key x) (spot_key y)).1 (ap spot_key (sym same))) ∙ ap (λ z. Some (lives_of z.1.1)) same
found_at (y ∷ ys) (suc i) x once e =
    let apart : spot_key x ≢ spot_key y = λ same. once.0 (subst (λ k. Among k (map spot_key ys)) same (among_keys ys i x e)) in
    first_or (spot_key x) y ys false (apart_keys (spot_key x) (spot_key y) apart) ∙ found_at ys i x once.1 e

-- the items stand in the list from a place on
abbrev ItemsFrom : List Item → ℕ → List Item → Type 0
ItemsFrom all i [] = Unit {0}
ItemsFrom all i (x ∷ xs) = (slice_get all i ≡ Some x) × ItemsFrom all (suc i) xs

items_further : (y : Item) (all : List Item) (i : ℕ) (xs : List Item) → ItemsFrom all i xs → ItemsFrom (y ∷ all) (suc i) xs
items_further y all i [] h = tt
items_further y all i (x ∷ xs) h = (h.0, items_further y all (suc i) xs h.1)

items_in_themselves : (xs : List Item) → ItemsFrom xs 0 xs
items_in_themselves [] = tt
items_in_themselves (x ∷ xs) = (refl, items_further x xs 0 xs (items_in_themselves xs))

abbrev first_key : Key → List Key → Key
first_key k [] = k
first_key k (l ∷ ls) = l

abbrev other_keys : List Key → List Key
other_keys [] = []
other_keys (l ∷ ls) = ls

each_found : (all : List Item) (once : NoRepeat (map spot_key all)) (i : ℕ) (xs ys : List Item) → ItemsFrom all i xs → map spot_key ys ≡ map spot_key xs → moved_items (items_of (all_items all)) (items_of (all_items ys)) ≡ along_moved xs ys
each_found all once i [] [] h e = refl
each_found all once i [] (y ∷ ys) h e = let no : spot_key y ∷ map spot_key ys ≡ [] = e in absurd (cc)
each_found all once i (x ∷ xs) [] h e = refl
each_found all once i (x ∷ xs) (y ∷ ys) h e =
    let same : spot_key y ≡ spot_key x = ap (first_key (spot_key y)) e in
    let rest : map spot_key ys ≡ map spot_key xs = ap other_keys e in
    ap₂ (λ a b. a + b)
    (ap (λ k. kept_with (lives_with k (items_of (all_items all))) (λ ks. moved_bodies ks (lives_of y.1.1))) same ∙ ap (λ o. kept_with o (λ ks. moved_bodies ks (lives_of y.1.1))) (found_at all i x once h.0))
    (each_found all once (suc i) xs ys h.1 rest)

-- The list
pub list_along : (m m' : Moved) (z : Tables → Listing) (s : Spot) (olds news : List ItemCode) (y : Tables → PlainCode) → ItemsAlong m m' olds news
    → ((n : Tables) → y n ≡ listed_code (z n) s (all_items (map (seen_item_code n) news))) → CodeMoved m m' (λ n. listed_code (z n) s (all_items (map (seen_item_code n) olds))) y
list_along m m' z s olds news y h is = λ n once.
    let xs = map (seen_item_code n) olds in
    let ys = map (seen_item_code n) news in
    let own : NoRepeat (map spot_key xs) = subst NoRepeat (keys_are xs) once.0 in
    let none : moves_between (spot_keys (items_of (all_items xs))) (spot_keys (items_of (all_items ys))) ≡ 0 = ap₂ moves_between (keys_are xs) (keys_are ys ∙ (h n).0) ∙ none_passed (map spot_key xs) own in
    let inner : moved_items (items_of (all_items xs)) (items_of (all_items ys)) ≡ along_moved xs ys = each_found xs own 0 xs ys (items_in_themselves xs) (h n).0 in
    let both : moves_between (spot_keys (items_of (all_items xs))) (spot_keys (items_of (all_items ys))) + moved_items (items_of (all_items xs)) (items_of (all_items ys)) ≡ along_moved xs ys =
    let moved = moves_between (spot_keys (items_of (all_items xs))) (spot_keys (items_of (all_items ys))) in let within = moved_items (items_of (all_items xs)) (items_of (all_items ys)) in omega (arith, none, inner) in
    let all : moved_between (live_of (listed_code (z n) s (all_items xs))) (live_of (y n)) ≡ along_moved xs ys = ap (λ c. moved_between (live_of (listed_code (z n) s (all_items xs))) (live_of c)) (is n) ∙ both in
    (h n).1 once.1 ∙ ap (λ c. m.items + c) (sym all)

-- a list that stays
pub list_stays : (m : Moved) (z : Tables → Listing) (s : Spot) (xs : List ItemCode) (y : Tables → PlainCode) → ((n : Tables) → y n ≡ listed_code (z n) s (all_items (map (seen_item_code n) xs)))
    → CodeMoved m m (λ n. listed_code (z n) s (all_items (map (seen_item_code n) xs))) y
list_stays m z s xs y is = λ n once.
    let x = live_of (listed_code (z n) s (all_items (map (seen_item_code n) xs))) in
    let none : moved_between x (live_of (y n)) ≡ 0 = ap (λ c. moved_between x (live_of c)) (is n) ∙ none_moved x once in
    omega (arith, none)

-- The items before a place

-- in items and one more
once_split : (xs : List Item) (x : Item) → KeysOnceItems (items_of (all_items (xs ++ x ∷ []))) → KeysOnceItems (items_of (all_items xs)) × KeysOnceIn (lives_of x.1.1)
once_split [] x h = (tt, h.0)
once_split (y ∷ ys) x h = let rest = once_split ys x h.1 in ((h.0, rest.0), rest.1)

abbrev pub Along : Moved → Moved → List ItemCode → List ItemCode → ℕ → Type 0
Along m0 m olds items i = ItemsAlong m0 m (take i olds) (take i items)

pub along_begin : (m : Moved) (olds items : List ItemCode) → Along m m olds items 0
along_begin m olds items = λ n. (refl, λ once. omega arith)

moved_more : (xs ys : List Item) (x y : Item) → length xs ≡ length ys → along_moved (xs ++ x ∷ []) (ys ++ y ∷ []) ≡ along_moved xs ys + moved_bodies (lives_of x.1.1) (lives_of y.1.1)
moved_more [] [] x y e = omega arith
moved_more [] (b ∷ ys) x y e = absurd (omega (arith, e))
moved_more (a ∷ xs) [] x y e = absurd (omega (arith, e))
moved_more (a ∷ xs) (b ∷ ys) x y e =
    let one = moved_bodies (lives_of a.1.1) (lives_of b.1.1) in
    let rest = along_moved xs ys in
    let last = moved_bodies (lives_of x.1.1) (lives_of y.1.1) in
    let swap : one + (rest + last) ≡ (one + rest) + last = omega arith in
    ap (λ k. one + k) (moved_more xs ys x y (omega (arith, e))) ∙ swap

pub along_next : (m0 m m' : Moved) (olds items : List ItemCode) (i : ℕ) (x y : ItemCode) → i < length items → length items ≡ length olds → x ≡ get_or olds i x → Along m0 m olds items i
    → KeptMoved m m' false (λ n. seen_item_code n x) (λ n. seen_item_code n y) → ((n : Tables) → spot_key (seen_item_code n y) ≡ spot_key (seen_item_code n x)) → Along m0 m' olds (set items i y) (i + 1)
along_next m0 m m' olds items i x y lt long is w h key = λ n.
    let seen : ItemCode → Item = seen_item_code n in
    let less : i < length olds = omega (arith, lt, long) in
    let front : map seen (take (i + 1) olds) ≡ map seen (take i olds) ++ seen x ∷ [] = ap (map seen) (take_more olds i x less ∙ ap (λ z. take i olds ++ z ∷ []) (sym is)) ∙ map-append seen (take i olds) (x ∷ []) in
    let behind : map seen (take (i + 1) (set items i y)) ≡ map seen (take i items) ++ seen y ∷ [] = ap (map seen) (take_more_set items i y lt) ∙ map-append seen (take i items) (y ∷ []) in
    let even : length (map seen (take i olds)) ≡ length (map seen (take i items)) =
    length-map (take i olds) seen ∙ (length-take-le i olds (omega (arith, less)) ∙ sym (length-map (take i items) seen ∙ length-take-le i items (omega (arith, lt)))) in
    let so_far = along_moved (map seen (take i olds)) (map seen (take i items)) in
    let one = moved_bodies (lives_of (seen x).1.1) (lives_of (seen y).1.1) in
    let more : along_moved (map seen (take (i + 1) olds)) (map seen (take (i + 1) (set items i y))) ≡ so_far + one = ap₂ along_moved front behind ∙ moved_more (map seen (take i olds)) (map seen (take i items)) (seen x) (seen y) even in (
      ap (map spot_key) behind
          ∙ (map-append spot_key (map seen (take i items)) (seen y ∷ [])
          ∙ (ap₂ (λ ks (k : Key). ks ++ k ∷ []) (w n).0 (key n) ∙ sym (ap (map spot_key) front ∙ map-append spot_key (map seen (take i olds)) (seen x ∷ [])))),
      (λ once.
          let parts = once_split (map seen (take i olds)) (seen x) (subst (λ zs. KeysOnceItems (items_of (all_items zs))) front once) in
          let a = (w n).1 parts.0 in
          let b = h n parts.1 in
          omega (arith, a, b, more)),
    )

pub along_end : (m0 m : Moved) (olds news items : List ItemCode) (i : ℕ) → length items ≡ length olds → length items ≤ i → items ≡ news → Along m0 m olds items i → ItemsAlong m0 m olds news
along_end m0 m olds news items i long le is w =
    let more : length olds ≤ i = omega (arith, le, long) in
    subst (λ ys. ItemsAlong m0 m olds ys) (take_all i items le ∙ is) (subst (λ xs. ItemsAlong m0 m xs (take i items)) (take_all i olds more) w)
