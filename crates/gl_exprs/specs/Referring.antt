-- Character references, as they are read character by character.
use Rattle.std.specs.Prelude.{◌≡◌, ℕ, [], ◌∷◌, ◌+◌, ◌*◌, ◌-◌, Bool, ◌&&◌, ◌||◌, ◌==◌, length, drop, if◌then◌else◌, Option, Some, None}
use Rattle.gl_base.specs.Answers.{◌>>=◌}
use Rattle.gl_base.specs.Texts.{Text}
use Rattle.gl_ast.specs.Marks.{is_between, is_digit, is_letter}
use Rattle.gl_ast.specs.TokenText.{referable, reference_in, up_to}
use Rattle.gl_exprs.specs.Pieces.{is_none_left}

-- the characters of references between `&` and `;`
abbrev pub in_reference : ℕ → Bool
in_reference c = is_letter c || is_digit c || c == 35

-- as many of them as come first
abbrev pub run : Text → Text
run [] = []
run (c ∷ cs) = if in_reference c then c ∷ run cs else []

abbrev pub base : Bool → ℕ
base hexadecimal = if hexadecimal then 16 else 10

-- the value of a digit
abbrev pub digit_in : Bool → ℕ → Option ℕ
digit_in hexadecimal c =
    if is_digit c then Some (c - 48)
    else (if hexadecimal && is_between 97 102 c then Some (c - 87)
    else (if hexadecimal && is_between 65 70 c then Some (c - 55) else None))

-- the number that digits spell after those that spell n
abbrev pub value_from : Bool → ℕ → Text → Option ℕ
value_from hexadecimal n [] = Some n
value_from hexadecimal n (c ∷ cs) = digit_in hexadecimal c >>= λ d. value_from hexadecimal (n * base hexadecimal + d) cs

-- the code point that digits spell, at least one
abbrev pub code_in : Bool → Text → Option ℕ
code_in hexadecimal cs = if is_none_left cs then None else (value_from hexadecimal 0 cs >>= referable)

-- Before these characters a reference stands for the first, and the second is what follows it.
abbrev pub IsReference : Text → ℕ × Text → Type 0
IsReference cs r = (reference_in cs ≡ Some r.0) × (r.1 ≡ drop (length (up_to 59 cs) + 1) cs)
