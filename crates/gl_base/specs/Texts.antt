-- Texts, seen as their characters.
use Rattle.std.specs.Prelude.{ℕ, List, [], ◌∷◌, Bool, true, ◌&&◌, nat_lt, encode_utf8_all}
use Rattle.std.specs.List.{flat_map}
use Rattle.std.specs.Ordering.{nat_cmp, is_lt}
use Rattle.std.specs.Cmp.Lexicographic.{slice_cmp}

-- a text is the list of its characters, each as its code point
abbrev pub Text : Type 0
Text = List ℕ

-- the bytes of a text, in UTF-8
abbrev pub bytes_of : Text → List ℕ
bytes_of text = encode_utf8_all text

-- the texts one after another
abbrev pub joined : List Text → Text
joined texts = flat_map (λ t. t) texts

-- each byte is ASCII, as a test that a literal computes
abbrev pub is_ascii_text : List ℕ → Bool
is_ascii_text [] = true
is_ascii_text (b ∷ bs) = nat_lt b 128 && is_ascii_text bs

-- the byte order of texts: the order of their encodings
abbrev pub text_less : Text → Text → Bool
text_less s t = is_lt (slice_cmp nat_cmp (bytes_of s) (bytes_of t))
