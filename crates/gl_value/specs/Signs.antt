-- Single characters that texts are written with.
use Rattle.std.specs.Prelude.{ℕ}

abbrev pub tab : ℕ
tab = 9

abbrev pub line_feed : ℕ
line_feed = 10

abbrev pub carriage_return : ℕ
carriage_return = 13

-- the first character that is no control character
abbrev pub blank : ℕ
blank = 32

-- `"`
abbrev pub quotation_mark : ℕ
quotation_mark = 34

-- `+`
abbrev pub plus : ℕ
plus = 43

-- `.`
abbrev pub full_stop : ℕ
full_stop = 46

-- `0`
abbrev pub zero_digit : ℕ
zero_digit = 48

-- `\`
abbrev pub backslash : ℕ
backslash = 92

-- the last character of ASCII, a control character
abbrev pub delete : ℕ
delete = 127
