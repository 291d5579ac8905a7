-- What a single byte of a template may be. All that tells tokens apart is ASCII, so a byte of another character is
-- none of these.
use Rattle.std.specs.Prelude.{ℕ, Bool, ◌||◌, ◌&&◌, not, ◌==◌, nat_le}

abbrev pub is_between : ℕ → ℕ → ℕ → Bool
is_between low high b = nat_le low b && nat_le b high

-- blank, tab, line feed, form feed and carriage return
abbrev pub is_white : ℕ → Bool
is_white b = b == 32 || b == 9 || b == 10 || b == 12 || b == 13

abbrev pub is_blank : ℕ → Bool
is_blank b = b == 32 || b == 9

abbrev pub is_capital : ℕ → Bool
is_capital b = is_between 65 90 b

abbrev pub is_small : ℕ → Bool
is_small b = is_between 97 122 b

abbrev pub is_letter : ℕ → Bool
is_letter b = is_capital b || is_small b

abbrev pub is_digit : ℕ → Bool
is_digit b = is_between 48 57 b

-- a name begins with a letter, `_` or `$`
abbrev pub starts_name : ℕ → Bool
starts_name b = is_letter b || b == 95 || b == 36

-- and goes on with these, digits and `-`
abbrev pub in_name : ℕ → Bool
in_name b = starts_name b || is_digit b || b == 45

-- a part of a class name goes on with letters and digits
abbrev pub in_class : ℕ → Bool
in_class b = is_letter b || is_digit b

-- a tag name goes on with letters, digits and `-`
abbrev pub in_tag : ℕ → Bool
in_tag b = in_class b || b == 45

-- an attribute's name begins with a letter or `_`
abbrev pub starts_attribute : ℕ → Bool
starts_attribute b = is_letter b || b == 95

-- and goes on with letters, digits, `_`, `:`, `.` and `-`
abbrev pub in_attribute : ℕ → Bool
in_attribute b = starts_attribute b || is_digit b || b == 58 || b == 46 || b == 45

-- A value without quotes has no white space and none of `"`, `'`, `<`, `>`, `=`, the back quote and `{`.
abbrev pub ends_unquoted : ℕ → Bool
ends_unquoted b = is_white b || b == 34 || b == 39 || b == 60 || b == 62 || b == 61 || b == 96 || b == 123

abbrev pub in_unquoted : ℕ → Bool
in_unquoted b = not (ends_unquoted b)
