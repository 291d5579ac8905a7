-- Tables of names with their numbers.
use Rattle.std.specs.Prelude.{ℕ, List, [], ◌∷◌, ◌+◌, ◌≡◌, ◌<◌, ◌^◌, true, Option, Some, None, nat_eq, length, take, drop, if◌then◌else◌}
use Rattle.gl_base.specs.Texts.{Text, is_ascii_text}
use Rattle.gl_names.specs.declared.table.Row.{Row}

-- a table is the list of its rows, each a name and its number
abbrev pub Rows : Type 0
Rows = List (Text × ℕ)

-- the first name that has the number
abbrev pub name_of : ℕ → Rows → Option Text
name_of n [] = None
name_of n (r ∷ rs) = if nat_eq n r.1 then Some r.0 else name_of n rs

-- how many bytes the names of the rows have together
abbrev pub width : List Row → ℕ
width [] = 0
width (r ∷ rs) = r.length + width rs

-- the rows of a table whose names stand one after another
abbrev pub seen_rows : List ℕ → List Row → Rows
seen_rows names [] = []
seen_rows names (r ∷ rs) = (take r.length names, r.number) ∷ seen_rows (drop r.length names) rs

-- the names are ASCII, so that each byte is a character, and they are just the rows' names
abbrev pub IsTable : List ℕ → List Row → Type 0
IsTable names rows = (is_ascii_text names ≡ true) × (width rows ≡ length names)

-- there are no more rows than a number of 16 bits counts
abbrev pub IsCounted : ℕ → Type 0
IsCounted count = count < 2 ^ 16
