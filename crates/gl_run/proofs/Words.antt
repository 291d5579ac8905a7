-- The word of a command.
use Rattle.std.proofs.Common.{◌≡◌, List, ℕ, ◌∙◌, ap}
use Rattle.std.specs.Prelude.{true}
use Rattle.std.specs.Str.{bytes_eq, chars, IsUtf8}
use Rattle.std.proofs.lemmas.Str.{IsUtf8-from_ascii}
use Rattle.gl_base.specs.Texts.{is_ascii_text}
use Rattle.gl_base.proofs.Chars.{ascii, bytes_eq-chars, chars_of_ascii}

-- a word of ASCII is compared by its bytes as by its characters
pub word_is : (word literal : List ℕ) → IsUtf8 word → is_ascii_text literal ≡ true → bytes_eq word literal ≡ bytes_eq (chars word) literal
word_is word literal u a = bytes_eq-chars word literal u (IsUtf8-from_ascii literal (ascii literal a)) ∙ ap (bytes_eq (chars word)) (chars_of_ascii literal a)
