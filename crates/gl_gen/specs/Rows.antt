-- The rows of the sample, which its list shows.
use Rattle.std.specs.Prelude.{ℕ, List, [], ◌∷◌, ◌++◌, codes, map, take, drop}
use Rattle.std.specs.List.{flat_map, range_with_len}
use Rattle.std.specs.Fmt.{decimal}
use Rattle.gl_base.specs.Texts.{Text}

-- a row in JSON: its number, and that number after an r as its text
abbrev pub row : ℕ → Text
row i = codes "{\"id\":" ++ (decimal i ++ (codes ",\"t\":\"r" ++ (decimal i ++ codes "\"}")))

-- the rows from 0 to n - 1
unfoldable pub rows : ℕ → List Text
rows n = map row (range_with_len 0 n)

-- these texts with the first ones, so many of them, moved to the end in order
abbrev pub moved : ℕ → List Text → List Text
moved count texts = drop count texts ++ take count texts

-- each text after a comma
abbrev pub after_commas : List Text → Text
after_commas texts = flat_map (λ t. 44 ∷ t) texts

-- texts of JSON as an array of JSON, without blanks
abbrev pub array : List Text → Text
array [] = codes "[]"
array (t ∷ ts) = 91 ∷ (t ++ (after_commas ts ++ 93 ∷ []))
