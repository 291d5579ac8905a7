-- What was moved, counted as the updating program is walked along.
use Rattle.std.proofs.Common.{◌≡◌, ◌≢◌, ◌≤◌, ◌<◌, ℕ, ◌+◌, Bool, List, [], ◌∷◌, ◌++◌, map, take, set, length, get_or, Option, sym, ◌∙◌, ap, ap₂, subst, arith}
use Rattle.std.proofs.lemmas.List.{map-append, length-map, length-take-le, take_all, take_more, take_more_set}
use Rattle.gl_plain.specs.Binding.{Spot}
use Rattle.gl_machine.specs.Code.{Choice, Listing, Code as PlainCode, Codes as PlainCodes, branch_code, listed_code, unlisted_code, live_of, lives_of}
use Rattle.gl_kept.specs.Between.{moved_between, moved_bodies}
use Rattle.gl_guards.specs.Once.{KeysOnce, KeysOnceIn}
use Rattle.gl_guards.proofs.Itself.{none_moved_in}
use Rattle.gl_vm.specs.View.{Tables}
use Rattle.gl_code.specs.CodeView.{all_codes, all_items, seen_code, seen_codes}
use Rattle.gl_code.specs.declared.code.Code.{Code}
use Rattle.gl_code.specs.declared.code.Codes.{Codes}
use Rattle.gl_code.proofs.CodeNests.{body_is}
use Rattle.gl_update.specs.Counted.{one_if, CodeMoved, CodesMoved, KeptMoved, IsListed, IsUnlisted}
use Rattle.gl_update.specs.ListItems.{Item}
use Rattle.gl_update.specs.declared.counting.Moved.{Moved}
use Rattle.gl_update.proofs.Counts.{bodies_more, none_flipped, branch_same, none_unlisted, none_listed}
use Rattle.gl_update.proofs.Walking.{seen_all}

-- nothing is moved
pub none_moved : (m : Moved) (x y : Tables → PlainCode) → ((n : Tables) → moved_between (live_of (x n)) (live_of (y n)) ≡ 0) → CodeMoved m m x y
none_moved m x y e = λ n once. let z = e n in omega (arith, z)

-- the same statements by what they are
pub code_moved : (m m' : Moved) (x y k l : Tables → PlainCode) → ((n : Tables) → x n ≡ k n) → ((n : Tables) → y n ≡ l n) → CodeMoved m m' k l → CodeMoved m m' x y
code_moved m m' x y k l e d h = λ n once. h n (subst (λ c. KeysOnce (live_of c)) (e n) once) ∙ ap (λ c. m.items + c) (ap₂ (λ a b. moved_between (live_of a) (live_of b)) (sym (e n)) (sym (d n)))

-- Where the items counted are the same, so much was moved of a statement, and of a body.
pub code_counted : (k m m' l : Moved) (x y : Tables → PlainCode) → m.items ≡ k.items → l.items ≡ m'.items → CodeMoved m m' x y → CodeMoved k l x y
code_counted k m m' l x y e d h = λ n once. d ∙ (h n once ∙ ap (λ c. c + moved_between (live_of (x n)) (live_of (y n))) e)

pub body_counted : (k m m' l : Moved) (x y : Tables → PlainCodes) → m.items ≡ k.items → l.items ≡ m'.items → CodesMoved m m' x y → CodesMoved k l x y
body_counted k m m' l x y e d h = λ n once. d ∙ (h n once ∙ ap (λ c. c + moved_bodies (lives_of (x n)) (lives_of (y n))) e)

-- a statement by what it is
pub arm_moved : (m m' : Moved) (x y : Code) (k l : Tables → PlainCode) → ((n : Tables) → seen_code n x ≡ k n) → ((n : Tables) → seen_code n y ≡ l n) → CodeMoved m m' k l → CodeMoved m m' (λ n. seen_code n x) (λ n. seen_code n y)
arm_moved m m' x y k l e d h = code_moved m m' (λ n. seen_code n x) (λ n. seen_code n y) k l e d h

-- a page, from none on
pub page_moved : (m m' : Moved) (x y : Code) (k l : Tables → PlainCode) → m.items ≡ 0 → ((n : Tables) → seen_code n x ≡ k n) → ((n : Tables) → seen_code n y ≡ l n) → CodeMoved m m' k l
    → (n : Tables) → KeysOnce (live_of (seen_code n x)) → m'.items ≡ moved_between (live_of (seen_code n x)) (live_of (seen_code n y))
page_moved m m' x y k l none e d h = λ n once.
    let a = arm_moved m m' x y k l e d h n once in
    let b = moved_between (live_of (seen_code n x)) (live_of (seen_code n y)) in
    omega (arith, none, a)

-- A body

-- in statements and one more
once_split : (xs : List PlainCode) (x : PlainCode) → KeysOnceIn (lives_of (all_codes (xs ++ x ∷ []))) → KeysOnceIn (lives_of (all_codes xs)) × KeysOnce (live_of x)
once_split [] x h = (tt, h.0)
once_split (y ∷ ys) x h = let rest = once_split ys x h.1 in ((h.0, rest.0), rest.1)

-- a body that stays
pub stays_moved : (m : Moved) (xs : Tables → PlainCodes) → CodesMoved m m xs xs
stays_moved m xs = λ n once. let z = none_moved_in (lives_of (xs n)) once in omega (arith, z)

-- of the statements before a place, so much was moved
abbrev pub Walked : Moved → Moved → List Code → List Code → ℕ → Type 0
Walked m0 m olds items i = (n : Tables) → KeysOnceIn (lives_of (seen_all (take i olds) n)) → m.items ≡ m0.items + moved_bodies (lives_of (seen_all (take i olds) n)) (lives_of (seen_all (take i items) n))

pub walked_begin : (m : Moved) (olds items : List Code) → Walked m m olds items 0
walked_begin m olds items = λ n once. omega arith

before_is : (xs : List Code) (y : Code) (n : Tables) → seen_all (xs ++ y ∷ []) n ≡ all_codes (map (seen_code n) xs ++ seen_code n y ∷ [])
before_is xs y n = ap all_codes (map-append (seen_code n) xs (y ∷ []))

pub walked_next : (m0 m m' : Moved) (olds items : List Code) (i : ℕ) (x y : Code) → i < length items → length items ≡ length olds → x ≡ get_or olds i x → Walked m0 m olds items i
    → CodeMoved m m' (λ n. seen_code n x) (λ n. seen_code n y) → Walked m0 m' olds (set items i y) (i + 1)
walked_next m0 m m' olds items i x y lt long is w h = λ n once.
    let less : i < length olds = omega (arith, lt, long) in
    let one = moved_between (live_of (seen_code n x)) (live_of (seen_code n y)) in
    let so_far = moved_bodies (lives_of (seen_all (take i olds) n)) (lives_of (seen_all (take i items) n)) in
    let front : take (i + 1) olds ≡ take i olds ++ x ∷ [] = take_more olds i x less ∙ ap (λ z. take i olds ++ z ∷ []) (sym is) in
    let behind : take (i + 1) (set items i y) ≡ take i items ++ y ∷ [] = take_more_set items i y lt in
    let even : length (map (seen_code n) (take i olds)) ≡ length (map (seen_code n) (take i items)) =
    length-map (take i olds) (seen_code n) ∙ (length-take-le i olds (omega (arith, less)) ∙ sym (length-map (take i items) (seen_code n) ∙ length-take-le i items (omega (arith, lt)))) in
    let more : moved_bodies (lives_of (seen_all (take (i + 1) olds) n)) (lives_of (seen_all (take (i + 1) (set items i y)) n)) ≡ so_far + one =
    ap₂ (λ xs ys. moved_bodies (lives_of (seen_all xs n)) (lives_of (seen_all ys n))) front behind
    ∙ (ap₂ (λ xs ys. moved_bodies (lives_of xs) (lives_of ys)) (before_is (take i olds) x n) (before_is (take i items) y n)
    ∙ bodies_more (map (seen_code n) (take i olds)) (map (seen_code n) (take i items)) (seen_code n x) (seen_code n y) even) in
    let parts = once_split (map (seen_code n) (take i olds)) (seen_code n x) (subst (λ cs. KeysOnceIn (lives_of cs)) (ap (λ zs. seen_all zs n) front ∙ before_is (take i olds) x n) once) in
    let a = w n parts.0 in
    let b = h n parts.1 in
    omega (arith, a, b, more)

pub walked_end : (m0 m : Moved) (all new : Codes) (items : List Code) (i : ℕ) → length items ≡ length all.list.items → length items ≤ i → items ≡ new.list.items → Walked m0 m all.list.items items i
    → CodesMoved m0 m (λ n. seen_codes n all) (λ n. seen_codes n new)
walked_end m0 m all new items i long le is w = λ n once.
    let more : length all.list.items ≤ i = omega (arith, le, long) in
    w n (subst (λ cs. KeysOnceIn (lives_of cs)) (body_is n all ∙ ap (λ zs. seen_all zs n) (sym (take_all i all.list.items more))) once)
    ∙ ap (λ c. m0.items + c)
    (ap₂ (λ xs ys. moved_bodies (lives_of (seen_all xs n)) (lives_of (seen_all ys n))) (take_all i all.list.items more) (take_all i items le ∙ is)
    ∙ ap₂ (λ xs ys. moved_bodies (lives_of xs) (lives_of ys)) (sym (body_is n all)) (sym (body_is n new)))

-- A branch

pub same_moved : (m m' : Moved) (z w : Tables → Choice) (s : Spot) (b : Bool) (k c : Option ℕ) (xs ys : Tables → PlainCodes) → CodesMoved m m' xs ys
    → CodeMoved m m' (λ n. branch_code (z n) s b k (xs n)) (λ n. branch_code (w n) s b c (ys n))
same_moved m m' z w s b k c xs ys h = λ n once. h n once ∙ ap (λ j. m.items + j) (sym (branch_same s s b k c (lives_of (xs n)) (lives_of (ys n))))

pub flip_moved : (m : Moved) (z w : Tables → Choice) (s : Spot) (b was : Bool) (k c : Option ℕ) (xs ys : Tables → PlainCodes) → b ≢ was
    → CodeMoved m m (λ n. branch_code (z n) s was k (xs n)) (λ n. branch_code (w n) s b c (ys n))
flip_moved m z w s b was k c xs ys ne = none_moved m (λ n. branch_code (z n) s was k (xs n)) (λ n. branch_code (w n) s b c (ys n)) (λ n. none_flipped s s b was k c (lives_of (xs n)) (lives_of (ys n)) ne)

-- A list that has no items any more, or has some now

pub ended_moved : (m : Moved) (z : Tables → Listing) (s : Spot) (xs : Tables → List Item) (y : Tables → PlainCode) → ((n : Tables) → IsUnlisted (live_of (y n))) → CodeMoved m m (λ n. listed_code (z n) s (all_items (xs n))) y
ended_moved m z s xs y h = none_moved m (λ n. listed_code (z n) s (all_items (xs n))) y (λ n. none_unlisted s _ (live_of (y n)) (h n))

pub begun_moved : (m : Moved) (z : Tables → Listing) (s : Spot) (k : Option ℕ) (xs : Tables → PlainCodes) (y : Tables → PlainCode) → ((n : Tables) → IsListed (live_of (y n))) → CodeMoved m m (λ n. unlisted_code (z n) s k (xs n)) y
begun_moved m z s k xs y h = none_moved m (λ n. unlisted_code (z n) s k (xs n)) y (λ n. none_listed s k (lives_of (xs n)) (live_of (y n)) (h n))

pub is_unlisted : (x : PlainCode) (z : Listing) (s : Spot) (k : Option ℕ) (cs : PlainCodes) → x ≡ unlisted_code z s k cs → IsUnlisted (live_of x)
is_unlisted x z s k cs e = rw e tt

pub is_listed : (x : PlainCode) (z : Listing) (s : Spot) (xs : List Item) → x ≡ listed_code z s (all_items xs) → IsListed (live_of x)
is_listed x z s xs e = rw e tt

-- An item that is kept

pub kept_moved : (m0 m m' : Moved) (moves : Bool) (x y : Tables → Item) (b d : Tables → PlainCodes) → ((n : Tables) → (x n).1.1 ≡ b n) → ((n : Tables) → (y n).1.1 ≡ d n) → CodesMoved m0 m b d → m'.items ≡ m.items + one_if moves
    → KeptMoved m0 m' moves x y
kept_moved m0 m m' moves x y b d e f h more = λ n once.
    let a = h n (subst (λ cs. KeysOnceIn (lives_of cs)) (e n) once) in
    let same : moved_bodies (lives_of (b n)) (lives_of (d n)) ≡ moved_bodies (lives_of (x n).1.1) (lives_of (y n).1.1) = ap₂ (λ xs ys. moved_bodies (lives_of xs) (lives_of ys)) (sym (e n)) (sym (f n)) in
    let one = one_if moves in
    omega (arith, a, more, same)

-- one that moved before
pub moved_kept : (m0 m m' : Moved) (moves : Bool) (x y : Tables → Item) (b d : Tables → PlainCodes) → ((n : Tables) → (x n).1.1 ≡ b n) → ((n : Tables) → (y n).1.1 ≡ d n) → m.items ≡ m0.items + one_if moves → CodesMoved m m' b d
    → KeptMoved m0 m' moves x y
moved_kept m0 m m' moves x y b d e f more h = λ n once.
    let a = h n (subst (λ cs. KeysOnceIn (lives_of cs)) (e n) once) in
    let same : moved_bodies (lives_of (b n)) (lives_of (d n)) ≡ moved_bodies (lives_of (x n).1.1) (lives_of (y n).1.1) = ap₂ (λ xs ys. moved_bodies (lives_of xs) (lives_of ys)) (sym (e n)) (sym (f n)) in
    let one = one_if moves in
    omega (arith, a, more, same)
