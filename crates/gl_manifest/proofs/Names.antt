-- Names are ASCII, so they are their own bytes.
use Rattle.std.proofs.Common.{◌≡◌, ◌<◌, ℕ, List, [], ◌∷◌, Bool, true, false, cond, refl, arith, ltb}
use Rattle.std.specs.Prelude.{◌&&◌, ◌==◌, not, slice_index}
use Rattle.std.specs.List.{list_all}
use Rattle.std.specs.Str.{chars}
use Rattle.std.proofs.lemmas.Bool.Decides.{nat_tests}
use Rattle.std.proofs.lemmas.Str.{encodes-chars, IsUtf8-from_ascii}
use Rattle.gl_base.specs.Texts.{bytes_of, is_ascii_text}
use Rattle.gl_base.proofs.Chars.{ascii, chars_of_ascii}
use Rattle.gl_ast.specs.Marks.{is_capital, starts_name, in_name, in_class}
use Rattle.gl_ast.specs.Words.{reserved}
use Rattle.gl_ast.proofs.Forward.{both}
use Rattle.gl_meaning.specs.Signs.{colon}
use Rattle.gl_meaning.specs.NameTests.{is_one_of, is_name, is_free_name, is_class_name, ends_class, after_colon}

in_name_low : (b : ℕ) → in_name b ≡ true → b < 128
in_name_low b e = grind (arith, nat_tests)

capital_low : (b : ℕ) → is_capital b ≡ true → b < 128
capital_low b e = grind (arith, nat_tests)

in_class_low : (b : ℕ) → in_class b ≡ true → b < 128
in_class_low b e = grind (arith, nat_tests)

colon_low : (b : ℕ) → (b == colon) ≡ true → b < 128
colon_low b e = grind (arith, nat_tests)

low_then : (c : ℕ) (s : List ℕ) → c < 128 → is_ascii_text s ≡ true → is_ascii_text (c ∷ s) ≡ true
low_then c s l a = let k : ltb c 128 ≡ true = grind (arith, nat_tests) in rw k a

all_ascii : (s : List ℕ) → list_all in_name s ≡ true → is_ascii_text s ≡ true
all_ascii [] e = refl
all_ascii (c ∷ s) e =
    let h = both (in_name c) (list_all in_name s) e in
    low_then c s (in_name_low c h.0) (all_ascii s h.1)

free_ascii : (s : List ℕ) → is_free_name s ≡ true → is_ascii_text s ≡ true
unfolding is_free_name is_name
free_ascii s e =
    let name = both (is_name s) (not (is_one_of reserved s)) e in
    all_ascii s (both (starts_name (slice_index s 0)) (list_all in_name s) name.0).1

ends_by : (c : ℕ) (s : List ℕ) (b : Bool) → (after_colon s ≡ true → is_ascii_text s ≡ true) → (ends_class s ≡ true → is_ascii_text s ≡ true) → (c == colon) ≡ b → cond b (after_colon s) (in_class c && ends_class s) ≡ true → is_ascii_text (c ∷ s) ≡ true
ends_by c s true colon ends is e = low_then c s (colon_low c is) (colon e)
ends_by c s false colon ends is e =
    let h = both (in_class c) (ends_class s) e in
    low_then c s (in_class_low c h.0) (ends h.1)

mutual
  class_ascii : (s : List ℕ) → is_class_name s ≡ true → is_ascii_text s ≡ true
  class_ascii [] e = refl
  class_ascii (c ∷ s) e =
      let h = both (is_capital c) (ends_class s) e in
      low_then c s (capital_low c h.0) (ends_ascii s h.1)

  ends_ascii : (s : List ℕ) → ends_class s ≡ true → is_ascii_text s ≡ true
  ends_ascii [] e = refl
  ends_ascii (c ∷ s) e = ends_by c s (c == colon) (colon_ascii s) (ends_ascii s) refl e

  colon_ascii : (s : List ℕ) → after_colon s ≡ true → is_ascii_text s ≡ true
  colon_ascii [] e = refl
  colon_ascii (c ∷ s) e =
      let h = both (c == colon) (is_class_name s) e in
      low_then c s (colon_low c h.0) (class_ascii s h.1)

ascii_bytes : (s : List ℕ) → is_ascii_text s ≡ true → bytes_of (chars s) ≡ s
ascii_bytes s a = encodes-chars s (IsUtf8-from_ascii s (ascii s a))

-- and their own characters
pub free_chars : (s : List ℕ) → is_free_name s ≡ true → chars s ≡ s
free_chars s e = chars_of_ascii s (free_ascii s e)

pub free_bytes : (s : List ℕ) → is_free_name s ≡ true → bytes_of (chars s) ≡ s
free_bytes s e = ascii_bytes s (free_ascii s e)

pub class_bytes : (s : List ℕ) → is_class_name s ≡ true → bytes_of (chars s) ≡ s
class_bytes s e = ascii_bytes s (class_ascii s e)
