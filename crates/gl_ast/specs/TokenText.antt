-- What the text of a token stands for.
use Rattle.std.specs.Prelude.{ℕ, zero, suc, ℤ, pos, ◌-ℤ◌, List, [], ◌∷◌, ◌+◌, ◌*◌, ◌-◌, Bool, false, not, ◌&&◌, ◌||◌, ◌==◌, nat_le, nat_lt, length, take, drop, filter, if◌then◌else◌, Option, Some, None}
use Rattle.std.specs.List.{list_all, prefix_len}
use Rattle.gl_base.specs.Names.{named, has_text}
use Rattle.gl_base.specs.Texts.{Text}
use Rattle.gl_value.specs.Value.{split}
use Rattle.gl_ast.specs.Marks.{is_between, is_white, is_digit, starts_name, in_name}
use Rattle.gl_ast.specs.References.{references}
use Rattle.gl_ast.specs.Scans.{begins}
use Rattle.gl_ast.specs.Words.{number_from, greatest, reserved, barred}

-- the characters in front of the first c
abbrev pub up_to : ℕ → Text → Text
up_to c [] = []
up_to c (x ∷ xs) = if x == c then [] else x ∷ up_to c xs

-- whether the character stands in the text
abbrev pub has_char : ℕ → Text → Bool
has_char c [] = false
has_char c (x ∷ xs) = x == c || has_char c xs

-- the digits that a hexadecimal number is written with
abbrev pub is_hex : ℕ → Bool
is_hex c = is_digit c || is_between 97 102 c || is_between 65 70 c

abbrev pub hex_digit : ℕ → ℕ
hex_digit c = if is_digit c then c - 48 else (if nat_le 97 c then c - 87 else c - 55)

-- the number that hexadecimal digits spell after those that spell n
abbrev pub hex_from : ℕ → Text → ℕ
hex_from n [] = n
hex_from n (c ∷ cs) = hex_from (n * 16 + hex_digit c) cs

-- A reference by number stands for a code point from 1 to 1114111 that is no surrogate.
abbrev pub is_referable : ℕ → Bool
is_referable n = (is_between 1 55295 n || is_between 57344 1114111 n)

abbrev pub referable : ℕ → Option ℕ
referable n = if is_referable n then Some n else None

-- decimal digits, at least one
abbrev pub decimal_code : Text → Option ℕ
decimal_code cs = if list_all is_digit cs && nat_lt 0 (length cs) then referable (number_from 0 cs) else None

-- hexadecimal digits, at least one
abbrev pub hex_code : Text → Option ℕ
hex_code cs = if list_all is_hex cs && nat_lt 0 (length cs) then referable (hex_from 0 cs) else None

-- after `#`: digits, or `x` or `X` and hexadecimal digits
abbrev pub numeric_code : Text → Option ℕ
numeric_code [] = None
numeric_code (c ∷ cs) = if c == 120 || c == 88 then hex_code cs else decimal_code (c ∷ cs)

-- what stands between `&` and `;`: a name of the table, or `#` and a number
abbrev pub reference_code : Text → Option ℕ
reference_code [] = None
reference_code (c ∷ cs) = if c == 35 then numeric_code cs else named (c ∷ cs) references

-- The code point of a character reference whose `&` stands before these characters. It ends at the first `;`.
abbrev pub reference_in : Text → Option ℕ
reference_in cs = if has_char 59 cs then reference_code (up_to 59 cs) else None

-- What an `&` before these characters stands for, and how many characters of them belong to it: a reference's
-- character, or the `&` itself.
abbrev pub reference_or_sign : Option ℕ → Text → ℕ × ℕ
reference_or_sign None cs = (38, 0)
reference_or_sign (Some n) cs = (n, length (up_to 59 cs) + 1)

-- The text with its character references decoded, once. The first `skipped` characters belong to a reference that was
-- read.
abbrev pub decoded_from : ℕ → Text → Text
decoded_from skipped [] = []
decoded_from (suc skipped) (c ∷ cs) = decoded_from skipped cs
decoded_from zero (c ∷ cs) =
    if c == 38 then (reference_or_sign (reference_in cs) cs).0 ∷ decoded_from (reference_or_sign (reference_in cs) cs).1 cs
    else c ∷ decoded_from zero cs

unfoldable pub decoded : Text → Text
decoded cs = decoded_from zero cs

-- In a string a `\` directly before the quote stands for the quote alone.
abbrev pub unescaped : ℕ → Text → Text
unescaped quote [] = []
unescaped quote (c ∷ cs) = if c == 92 && begins (quote ∷ []) cs then unescaped quote cs else c ∷ unescaped quote cs

-- the text of a string, which stands between two quotes
abbrev pub string_of : Text → Text
string_of [] = []
string_of (quote ∷ cs) = unescaped quote (take (length cs - 1) cs)

-- the integer of a number
abbrev pub integer_of : Text → ℤ
integer_of [] = pos 0
integer_of (c ∷ cs) = if c == 45 then pos 0 -ℤ pos (number_from 0 cs) else pos (number_from 0 (c ∷ cs))

-- the same without its sign
abbrev pub magnitude_of : Text → ℕ
magnitude_of [] = 0
magnitude_of (c ∷ cs) = if c == 45 then number_from 0 cs else number_from 0 (c ∷ cs)

-- the integer of a number that is not too large
abbrev pub whole_of : Text → Option ℤ
whole_of cs = if nat_le (magnitude_of cs) greatest then Some (integer_of cs) else None

-- the head and the segments of a path
abbrev pub names_of : Text → List Text
names_of path = split 46 path

-- a name that is not reserved
abbrev pub is_free : Text → Bool
is_free name = not (begins (64 ∷ []) name) && not (has_text name reserved)

abbrev pub is_name : Text → Bool
is_name [] = false
is_name (c ∷ cs) = starts_name c && list_all in_name cs

-- the name of a block: a name that is neither reserved nor `inverse`
abbrev pub is_block_name : Text → Bool
is_block_name n = is_name n && not (has_text n barred)

-- the text between `<!--` and `-->`
abbrev pub comment_of : Text → Text
comment_of cs = take (length cs - 7) (drop 4 cs)

abbrev pub ends_tag_name : ℕ → Bool
ends_tag_name c = is_white c || c == 62

-- the name of an end tag, between `</` and what follows it
abbrev pub end_name_of : Text → Text
end_name_of cs = take (prefix_len (λ c. not (ends_tag_name c)) (drop 2 cs)) (drop 2 cs)

-- The words that white space parts. The first characters may end a word that began before.
abbrev pub add_first : ℕ → List Text → List Text
add_first c [] = (c ∷ []) ∷ []
add_first c (w ∷ ws) = (c ∷ w) ∷ ws

abbrev pub pieces : Text → List Text
pieces [] = [] ∷ []
pieces (c ∷ cs) = if is_white c then [] ∷ pieces cs else add_first c (pieces cs)

abbrev pub words : Text → List Text
words cs = filter (λ w. nat_lt 0 (length w)) (pieces cs)

-- the characters after the first c
abbrev pub beyond : ℕ → Text → Text
beyond c [] = []
beyond c (x ∷ xs) = if x == c then xs else beyond c xs

-- the names of parameters, which stand between two `|`
abbrev pub parameters_of : Text → List Text
parameters_of cs = words (up_to 124 (beyond 124 cs))

-- the first character passes the test
abbrev pub leads : (ℕ → Bool) → Text → Bool
leads p [] = false
leads p (c ∷ cs) = p c
