-- What is read of the name of a block: a name that is neither reserved nor `inverse`, and no less than the longest such.
use Rattle.std.proofs.Common.{◌≡◌, ◌<◌, ℕ, List, [], ◌∷◌, ◌++◌, ◌-◌, Bool, true, false, Option, Some, cond, ◌&&◌, ◌||◌, not, length, take, drop, length-append, refl, sym, ap, subst, ◌∙◌, append_assoc, arith, eqb}
use Rattle.std.specs.Prelude.{codes}
use Rattle.std.specs.List.{list_all}
use Rattle.std.specs.Str.{bytes_eq, IsUtf8}
use Rattle.std.proofs.Math.Seq.{drop-append_seam}
use Rattle.std.proofs.lemmas.Bool.Decides.{nat_tests}
use Rattle.std.proofs.lemmas.Slice.Eq.{bytes_eq-Decides}
use Rattle.gl_base.specs.Names.{has_text}
use Rattle.gl_base.specs.Texts.{Text}
use Rattle.gl_ast.specs.Marks.{starts_name, in_name}
use Rattle.gl_ast.specs.Scans.{after_all}
use Rattle.gl_ast.specs.TokenText.{is_block_name}
use Rattle.gl_ast.specs.Words.{read_part, barred, if_block, after_name, after_block_name}
use Rattle.gl_ast.proofs.Forward.{Steps, Moves, bind_some, if_some, both, tail_text}

-- A word without its last character is the name of a block. This is one of a name, and no `x`.
abbrev pub Ended : Text → Type 0
Ended w = (b : ℕ) × (front : Text) × (c : ℕ) × (w ≡ b ∷ (front ++ c ∷ [])) × (is_block_name (b ∷ front) ≡ true) × (in_name c ≡ true) × (eqb 120 c ≡ false)

abbrev AllEnded : List Text → Type 0
AllEnded [] = Unit {0}
AllEnded (w ∷ ws) = Ended w × AllEnded ws

among_ended : (w : Text) (ws : List Text) → AllEnded ws → has_text w ws ≡ true → Ended w
among_ended w [] a e = let r : ⊥ = cc in absurd r
among_ended w (m ∷ ms) a e = by_test (bytes_eq w m) refl e (λ g. among_ended w ms a.1 g) where
  by_test : (t : Bool) → bytes_eq w m ≡ t → (t || has_text w ms) ≡ true → (has_text w ms ≡ true → Ended w) → Ended w
  by_test true f g more = subst Ended (sym ((bytes_eq-Decides w m).0 f)) a.0
  by_test false f g more = more g

all_ended : AllEnded barred
all_ended = ((105, codes "nvers", 101, refl, refl, refl, refl), ((116, codes "hi", 115, refl, refl, refl, refl), ((116, codes "ru", 101, refl, refl, refl, refl), ((102, codes "als", 101, refl, refl, refl, refl), ((110, codes "ul", 108, refl, refl, refl, refl), ((117, codes "ndefine", 100, refl, refl, refl, refl), ((101, codes "ls", 101, refl, refl, refl, refl), ((121, codes "iel", 100, refl, refl, refl, refl), tt))))))))

-- each name that no block has
pub barred_ended : (w : Text) → has_text w barred ≡ true → Ended w
barred_ended w e = among_ended w barred all_ended e

-- what a word is that was read
run_read : (p : ℕ → Bool) (bs : List ℕ) → (front : List ℕ) × (bs ≡ front ++ after_all p bs) × (list_all p front ≡ true)
run_read p [] = ([], refl, refl)
run_read p (b ∷ bs) = by_test (p b) refl (run_read p bs) where
  by_test : (t : Bool) → p b ≡ t → (front : List ℕ) × (bs ≡ front ++ after_all p bs) × (list_all p front ≡ true) → (front : List ℕ) × (b ∷ bs ≡ front ++ cond t (after_all p bs) (b ∷ bs)) × (list_all p front ≡ true)
  by_test true e r = (b ∷ r.0, ap (λ l. b ∷ l) r.1, rw e r.2)
  by_test false e r = ([], refl, refl)

pub word_read : (bs rest : List ℕ) → after_name bs ≡ Some rest → (b : ℕ) × (front : List ℕ) × (bs ≡ (b ∷ front) ++ rest) × (starts_name b ≡ true) × (list_all in_name front ≡ true)
word_read [] rest e = cc
word_read (b ∷ bs) rest e =
    let t = if_some (starts_name b) (Some (after_all in_name bs)) rest e in
    let r = run_read in_name bs in
    let same : after_all in_name bs ≡ rest = (let k = t.1 in cc) in
    (b, r.0, ap (λ l. b ∷ l) (r.1 ∙ ap (λ l. r.0 ++ l) same), t.0, r.2)

take_front : (xs ys : List ℕ) → take (length xs) (xs ++ ys) ≡ xs
take_front [] ys = refl
take_front (x ∷ xs) ys = ap (λ l. x ∷ l) (take_front xs ys)

pub read_front : (w rest : List ℕ) → read_part (w ++ rest) rest ≡ w
read_front w rest = let n : length (w ++ rest) - length rest ≡ length w = omega (arith, length-append w rest) in ap (λ m. take m (w ++ rest)) n ∙ take_front w rest

-- without the last character
pub cut_last : (w rest : List ℕ) (c : ℕ) → drop (length ((w ++ c ∷ []) ++ rest) - length rest - 1) ((w ++ c ∷ []) ++ rest) ≡ c ∷ rest
cut_last w rest c =
    let n : length ((w ++ c ∷ []) ++ rest) - length rest - 1 ≡ length w = omega (arith, length-append (w ++ c ∷ []) rest, length-append w (c ∷ [])) in
    ap (λ m. drop m ((w ++ c ∷ []) ++ rest)) n ∙ ap (λ l. drop (length w) l) (append_assoc w (c ∷ []) rest) ∙ drop-append_seam w (c ∷ rest)

-- a name that some block has is read whole
pub block_whole : (bs x : List ℕ) → has_text (read_part bs x) barred ≡ false → if_block bs x ≡ Some x
block_whole bs x e = rw e refl

-- any other is read but for its last character
pub block_cut : (bs x : List ℕ) → has_text (read_part bs x) barred ≡ true → if_block bs x ≡ Some (drop (length bs - length x - 1) bs)
block_cut bs x e = rw e refl

named_block : (b : ℕ) (front : List ℕ) → starts_name b ≡ true → list_all in_name front ≡ true → has_text (b ∷ front) barred ≡ false → is_block_name (b ∷ front) ≡ true
named_block b front e f g = rw (e, f, g) refl

same_left : (x y : List ℕ) → ◌≡◌ {A = Option (List ℕ)} (Some x) (Some y) → x ≡ y
same_left x y e = cc

-- what was read is the name of a block
pub block_read : (bs rest : List ℕ) → after_block_name bs ≡ Some rest → (w : List ℕ) × (bs ≡ w ++ rest) × (is_block_name w ≡ true)
unfolding after_block_name
block_read bs rest e =
    let a = bind_some (after_name bs) (if_block bs) rest e in
    let w = word_read bs a.0 a.1 in
    let part : read_part bs a.0 ≡ w.0 ∷ w.1 = ap (λ l. read_part l a.0) w.2 ∙ read_front (w.0 ∷ w.1) a.0 in
    by_test w.0 w.1 a.0 w.2 w.3 w.4 part a.2 (has_text (w.0 ∷ w.1) barred) refl where
      by_test : (b : ℕ) (front x : List ℕ) → bs ≡ (b ∷ front) ++ x → starts_name b ≡ true → list_all in_name front ≡ true → read_part bs x ≡ b ∷ front → if_block bs x ≡ Some rest
          → (t : Bool) → has_text (b ∷ front) barred ≡ t → (w : List ℕ) × (bs ≡ w ++ rest) × (is_block_name w ≡ true)
      by_test b front x whole first more part is false f =
          let same = same_left x rest (sym (block_whole bs x (ap (λ n. has_text n barred) part ∙ f)) ∙ is) in
          (b ∷ front, whole ∙ ap (λ l. (b ∷ front) ++ l) same, named_block b front first more f)
      by_test b front x whole first more part is true f =
          let d = barred_ended (b ∷ front) f in
          let cut : bs ≡ ((d.0 ∷ d.1) ++ d.2 ∷ []) ++ x = whole ∙ ap (λ l. l ++ x) d.3 in
          let left : rest ≡ d.2 ∷ x = same_left rest (d.2 ∷ x) (sym is ∙ block_cut bs x (ap (λ n. has_text n barred) part ∙ f) ∙ ap (λ l. Some (drop (length l - length x - 1) l)) cut ∙ ap Some (cut_last (d.0 ∷ d.1) x d.2)) in
          (d.0 ∷ d.1, cut ∙ append_assoc (d.0 ∷ d.1) (d.2 ∷ []) x ∙ ap (λ l. (d.0 ∷ d.1) ++ l) (sym left), d.4)

name_low : (b : ℕ) → starts_name b ≡ true → b < 128
name_low b e = grind (arith, nat_tests)

in_name_low : (b : ℕ) → in_name b ≡ true → b < 128
in_name_low b e = grind (arith, nat_tests)

names_text : (front rest : List ℕ) → list_all in_name front ≡ true → IsUtf8 (front ++ rest) → IsUtf8 rest
names_text [] rest e u = u
names_text (b ∷ front) rest e u = let k = both (in_name b) (list_all in_name front) e in names_text front rest k.1 (tail_text b (front ++ rest) (in_name_low b k.0) u)

pub block_moves : Moves after_block_name
block_moves bs rest e = let r = block_read bs rest e in by_name r.0 r.1 r.2 where
  by_name : (w : List ℕ) → bs ≡ w ++ rest → is_block_name w ≡ true → Steps bs rest
  by_name [] whole is = let r : ⊥ = cc in absurd r
  by_name (b ∷ front) whole is =
      let k = both (starts_name b && list_all in_name front) (not (has_text (b ∷ front) barred)) is in
      let j = both (starts_name b) (list_all in_name front) k.0 in
      (b, front, whole, λ u. names_text front rest j.1 (tail_text b (front ++ rest) (name_low b j.0) (subst IsUtf8 whole u)))

-- the last of two lists that are the same
last_same : (xs ys : List ℕ) (x y : ℕ) → xs ++ x ∷ [] ≡ ys ++ y ∷ [] → x ≡ y
last_same [] [] x y e = cc
last_same [] (b ∷ ys) x y e = absurd (omega (arith, ap length e, length-append ys (y ∷ [])))
last_same (a ∷ xs) [] x y e = absurd (omega (arith, ap length e, length-append xs (x ∷ [])))
last_same (a ∷ xs) (b ∷ ys) x y e = last_same xs ys x y (let k : xs ++ x ∷ [] ≡ ys ++ y ∷ [] = cc in k)

-- a name with an `x` after it is one that some block has
pub longer_name : (w : Text) → has_text (w ++ 120 ∷ []) barred ≡ false
longer_name w = by_test (has_text (w ++ 120 ∷ []) barred) refl where
  by_test : (t : Bool) → has_text (w ++ 120 ∷ []) barred ≡ t → t ≡ false
  by_test false e = refl
  by_test true e =
      let d = barred_ended (w ++ 120 ∷ []) e in
      let same = last_same w (d.0 ∷ d.1) 120 d.2 d.3 in
      let differs : eqb 120 120 ≡ false = ap (λ c. eqb 120 c) same ∙ d.6 in
      let r : ⊥ = cc in
      absurd r
