-- Numbers in decimal are read as they were.
use Rattle.std.proofs.Common.{◌≡◌, ◌<◌, ◌≤◌, ◌+◌, ◌*◌, ◌-◌, ◌/◌, ◌%◌, ◌^◌, ℕ, suc, List, [], ◌∷◌, ◌++◌, Bool, true, false, Some, None, cond, length, take, refl, ap, ◌∙◌, arith, eqb, leb, length-append, lit<}
use Rattle.std.specs.Prelude.{not, ◌||◌, nat_le, ℤ, pos, negsuc, ◌-ℤ◌}
use Rattle.std.specs.Fmt.{decimal, signed_decimal}
use Rattle.std.specs.List.{list_all}
use Rattle.std.proofs.lemmas.Bool.Decides.{nat_tests}
use Rattle.std.proofs.lemmas.Fmt.{decimal_by_steps}
use Rattle.gl_base.specs.Answers.{◌>>=◌}
use Rattle.gl_base.specs.Texts.{is_ascii_text}
use Rattle.gl_ast.specs.Marks.{is_digit, in_name}
use Rattle.gl_ast.specs.TokenText.{integer_of, magnitude_of, whole_of}
use Rattle.gl_ast.specs.Words.{read_part, number_from, goes_on, fits, greatest, if_number, after_natural, after_number}
use Rattle.gl_ast.proofs.Forward.{both}
use Rattle.gl_show.specs.Spellable.{is_word, is_within}
use Rattle.gl_show.proofs.Scanning.{Stops, word_then, stops_digit, word_low}

-- digits, and their number
abbrev pub IsNumber : ℕ → List ℕ → Type 0
IsNumber n ds = (is_word is_digit is_digit ds ≡ true) × (number_from 0 ds ≡ n)

one_digit : (n : ℕ) → n < 10 → IsNumber n ((48 + n) ∷ [])
one_digit n h = (let d : is_digit (48 + n) ≡ true = grind (arith, nat_tests) in rw d refl, let e : 0 * 10 + (48 + n - 48) ≡ n = omega arith in e)

number_push : (n : ℕ) (ds : List ℕ) (d : ℕ) → number_from n (ds ++ d ∷ []) ≡ number_from n ds * 10 + (d - 48)
number_push n [] d = refl
number_push n (c ∷ ds) d = number_push (n * 10 + (c - 48)) ds d

all_push : (p : ℕ → Bool) (ds : List ℕ) (d : ℕ) → list_all p ds ≡ true → p d ≡ true → list_all p (ds ++ d ∷ []) ≡ true
all_push p [] d a h = rw h refl
all_push p (c ∷ ds) d a h = let k = both (p c) (list_all p ds) a in let l : p c ≡ true = k.0 in rw l (all_push p ds d k.1 h)

word_push : (p : ℕ → Bool) (ds : List ℕ) (d : ℕ) → is_word p p ds ≡ true → p d ≡ true → is_word p p (ds ++ d ∷ []) ≡ true
word_push p [] d a h = cc
word_push p (c ∷ ds) d a h = let k = both (p c) (list_all p ds) a in let l : p c ≡ true = k.0 in rw l (all_push p ds d k.1 h)

more_digits : (n : ℕ) (ds : List ℕ) → 10 ≤ n → IsNumber (n / 10) ds → IsNumber n (ds ++ ((48 + n % 10) ∷ []))
more_digits n ds h is =
    let small : n % 10 < 10 = omega arith in
    let d : is_digit (48 + n % 10) ≡ true = grind (arith, nat_tests) in
    let whole : (n / 10) * 10 + (48 + n % 10 - 48) ≡ n = omega arith in
    (word_push is_digit ds (48 + n % 10) is.0 d, number_push 0 ds (48 + n % 10) ∙ ap (λ (m : ℕ). m * 10 + (48 + n % 10 - 48)) is.1 ∙ whole)

decimal_number : (n : ℕ) → n < 2 ^ 64 → IsNumber n (decimal n)
decimal_number n h = decimal_by_steps IsNumber one_digit more_digits n h

digit_low : (b : ℕ) → is_digit b ≡ true → b < 128
digit_low b e = grind (arith, nat_tests)

pub digits_ascii : (ds : List ℕ) → is_word is_digit is_digit ds ≡ true → is_ascii_text ds ≡ true
digits_ascii ds w = word_low is_digit is_digit digit_low digit_low ds w

stops_going : (rest : List ℕ) → Stops in_name rest → goes_on rest ≡ false
stops_going [] s = refl
stops_going (b ∷ bs) s = s

pub take_front : (xs ys : List ℕ) → take (length xs) (xs ++ ys) ≡ xs
take_front [] ys = refl
take_front (x ∷ xs) ys = ap (λ l. x ∷ l) (take_front xs ys)

pub part_read : (xs rest : List ℕ) → read_part (xs ++ rest) rest ≡ xs
part_read xs rest = let n : length (xs ++ rest) - length rest ≡ length xs = omega (arith, length-append xs rest) in ap (λ m. take m (xs ++ rest)) n ∙ take_front xs rest

fits_number : (n : ℕ) (ds : List ℕ) → IsNumber n ds → nat_le n greatest ≡ true → fits ds ≡ true
unfolding fits
fits_number n ds is h = ap (λ m. nat_le m greatest) is.1 ∙ h

natural_then : (n : ℕ) (ds rest : List ℕ) → IsNumber n ds → nat_le n greatest ≡ true → Stops in_name rest → after_natural (ds ++ rest) ≡ Some rest
unfolding after_natural
natural_then n ds rest is h s =
    ap (λ o. o >>= if_number (ds ++ rest)) (word_then is_digit is_digit ds rest is.0 (stops_digit rest s))
    ∙ ap (λ b. cond (b || not (fits (read_part (ds ++ rest) rest))) None (Some rest)) (stops_going rest s)
    ∙ ap (λ l. cond (not (fits l)) None (Some rest)) (part_read ds rest)
    ∙ ap (λ b. cond (not b) None (Some rest)) (fits_number n ds is h)

digit_no_minus : (b : ℕ) → is_digit b ≡ true → eqb 45 b ≡ false
digit_no_minus b e = grind (arith, nat_tests)

pub number_then : (n : ℕ) (ds rest : List ℕ) → IsNumber n ds → nat_le n greatest ≡ true → Stops in_name rest → after_number (ds ++ rest) ≡ Some rest
unfolding after_number
number_then n [] rest is h s = let w = is.0 in cc
number_then n (c ∷ cs) rest is h s = let e = digit_no_minus c (both (is_digit c) (list_all is_digit cs) is.0).0 in rw e (natural_then n (c ∷ cs) rest is h s)

pub minus_then : (n : ℕ) (ds rest : List ℕ) → IsNumber n ds → nat_le n greatest ≡ true → Stops in_name rest → after_number (45 ∷ (ds ++ rest)) ≡ Some rest
unfolding after_number
minus_then n ds rest is h s = natural_then n ds rest is h s

digit_no_sign : (b : ℕ) → is_digit b ≡ true → eqb b 45 ≡ false
digit_no_sign b e = grind (arith, nat_tests)

pub natural_of : (n : ℕ) (ds : List ℕ) → IsNumber n ds → integer_of ds ≡ pos n
natural_of n [] is = let w = is.0 in cc
natural_of n (c ∷ cs) is = let e = digit_no_sign c (both (is_digit c) (list_all is_digit cs) is.0).0 in rw e (ap pos is.1)

pub less : (n : ℕ) → pos 0 -ℤ pos (suc n) ≡ negsuc n
less n = let t : leb 1 (suc n) ≡ true = grind (arith, nat_tests) in let e : suc n - 1 ≡ n = omega arith in rw (t, e) refl

small : (n limit : ℕ) → limit < 2 ^ 64 → nat_le n limit ≡ true → n < 2 ^ 64
small n limit k h = grind (arith, nat_tests)

-- the digits of a number within the bounds
pub within_number : (n : ℕ) → nat_le n greatest ≡ true → IsNumber n (decimal n)
within_number n h = decimal_number n (small n greatest (lit< tt) h)

integer_read : (z : ℤ) → is_within z ≡ true → integer_of (signed_decimal z) ≡ z
integer_read (pos n) h = natural_of n (decimal n) (within_number n h)
integer_read (negsuc n) h = ap (λ m. pos 0 -ℤ pos m) (within_number (suc n) h).1 ∙ less n

-- and its bound is kept
natural_size : (n : ℕ) (ds : List ℕ) → IsNumber n ds → magnitude_of ds ≡ n
natural_size n [] is = let w = is.0 in cc
natural_size n (c ∷ cs) is = let e = digit_no_sign c (both (is_digit c) (list_all is_digit cs) is.0).0 in rw e is.1

size_read : (z : ℤ) → is_within z ≡ true → nat_le (magnitude_of (signed_decimal z)) greatest ≡ true
size_read (pos n) h = ap (λ m. nat_le m greatest) (natural_size n (decimal n) (within_number n h)) ∙ h
size_read (negsuc n) h = ap (λ m. nat_le m greatest) (within_number (suc n) h).1 ∙ h

pub whole_read : (z : ℤ) → is_within z ≡ true → whole_of (signed_decimal z) ≡ Some z
whole_read z h = ap (λ b. cond b (Some (integer_of (signed_decimal z))) None) (size_read z h) ∙ ap Some (integer_read z h)
