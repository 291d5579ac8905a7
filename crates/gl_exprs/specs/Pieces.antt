-- What the texts of tokens stand for, as it is read character by character.
use Rattle.std.specs.Prelude.{ℕ, List, [], ◌∷◌, ◌++◌, ◌-◌, Bool, true, false, not, ◌&&◌, ◌==◌, length, take, filter, nat_lt, nat_le, if◌then◌else◌, Option, Some, None}
use Rattle.std.specs.Borrow.{Bor}
use Rattle.gl_base.specs.Texts.{Text, is_ascii_text}
use Rattle.gl_value.specs.Value.{split}
use Rattle.gl_ast.specs.TokenText.{leads, ends_tag_name, pieces}
use Rattle.gl_ast.specs.Words.{number_from, greatest}

abbrev pub is_none_left : Text → Bool
is_none_left [] = true
is_none_left (c ∷ cs) = false

-- all characters but the last
abbrev pub front : Text → Text
front cs = take (length cs - 1) cs

-- A character of a string stands for itself where it is not the last of these and no `\` directly before a quote that
-- is not the last.
abbrev pub is_kept : ℕ → ℕ → Text → Bool
is_kept quote c cs = not (is_none_left cs) && not (c == 92 && leads (λ d. quote == d) (front cs))

-- the characters in front of what ends the name of an end tag
abbrev pub end_name : Text → Text
end_name [] = []
end_name (c ∷ cs) = if ends_tag_name c then [] else c ∷ end_name cs

-- characters before the first of several texts
abbrev pub add_front : Text → List Text → List Text
add_front w [] = w ∷ []
add_front w (v ∷ vs) = (w ++ v) ∷ vs

-- a word, or none where it is empty
abbrev pub some_word : Text → List Text
some_word [] = []
some_word (c ∷ cs) = (c ∷ cs) ∷ []

-- the words that white space parts, where these characters of the first are read already
abbrev pub words_after : Text → Text → List Text
words_after w cs = filter (λ v. nat_lt 0 (length v)) (add_front w (pieces cs))

-- the names after a dot that comes first
abbrev pub after_dot : Text → List Text
after_dot [] = []
after_dot (c ∷ cs) = split 46 cs

-- the number that digits spell, where it is not too large
abbrev pub natural_of : Text → Option ℕ
natural_of cs = if nat_le (number_from 0 cs) greatest then Some (number_from 0 cs) else None

-- each word is ASCII, as a test that a literal computes
abbrev pub ascii_words : List (Bor (List ℕ)) → Bool
ascii_words [] = true
ascii_words (w ∷ ws) = is_ascii_text w.now && ascii_words ws
