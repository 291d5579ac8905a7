-- Words of ASCII.
use Rattle.std.proofs.Common.{◌≡◌, ℕ, List, true}
use Rattle.std.specs.Str.{bytes_eq, chars, IsUtf8}
use Rattle.std.proofs.lemmas.Str.{IsUtf8-from_ascii}
use Rattle.gl_base.specs.Texts.{is_ascii_text}
use Rattle.gl_base.proofs.Chars.{ascii, chars_of_ascii, bytes_eq-chars}

-- a text is a word of ASCII just where its characters are
pub bytes_eq-word : (bs word : List ℕ) → IsUtf8 bs → is_ascii_text word ≡ true → bytes_eq bs word ≡ bytes_eq (chars bs) word
bytes_eq-word bs word u a =
    rw (chars_of_ascii word a) at (bytes_eq-chars bs word u (IsUtf8-from_ascii word (ascii word a)))
