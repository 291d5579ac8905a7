-- The names between the dots of a text.
use Rattle.std.proofs.Common.{◌≡◌, ℕ, List, [], ◌∷◌, ◌++◌, refl, arith, true}
use Rattle.std.specs.Prelude.{◌==◌}
use Rattle.std.specs.Str.{chars, IsUtf8, NonePass, NoCharPasses}
use Rattle.std.proofs.lemmas.Str.{chars-append, chars_past_char, encode_ascii, chars_from_encodes, IsUtf8-append, IsUtf8-from_ascii}
use Rattle.gl_base.proofs.Chars.{ascii}
use Rattle.gl_value.specs.Value.{split}

-- a text without the character is one piece
pub split-none : (c : ℕ) (cs : List ℕ) → NonePass (λ d. d == c) cs → split c cs ≡ cs ∷ []
split-none c [] h = refl
split-none c (x ∷ cs) h = rw (h.0, split-none c cs h.1) refl

-- the first piece ends at the first of the characters
pub split-first : (c : ℕ) (cs ds : List ℕ) → NonePass (λ d. d == c) cs → (c == c) ≡ true → split c (cs ++ c ∷ ds) ≡ cs ∷ split c ds
split-first c [] ds h same = rw same refl
split-first c (x ∷ cs) ds h same = rw (h.0, split-first c cs ds h.1 same) refl

whole_chars : (bs : List ℕ) → IsUtf8 bs → (none : NoCharPasses (λ d. d == 46) bs) → none.0 ≡ chars bs
whole_chars bs u none = chars_from_encodes none.0 bs u none.1

-- no dot is found
pub split-end : (bs : List ℕ) → IsUtf8 bs → NoCharPasses (λ d. d == 46) bs → split 46 (chars bs) ≡ chars bs ∷ []
split-end bs u none = split-none 46 (chars bs) (rw (whole_chars bs u none) at none.2)

-- the first dot is found
pub split-next : (bs name after : List ℕ) → bs ≡ name ++ 46 ∷ after → IsUtf8 name → IsUtf8 (46 ∷ after) → NoCharPasses (λ d. d == 46) name → split 46 (chars bs) ≡ chars name ∷ split 46 (chars after)
split-next bs name after e u v none =
    let rest : chars (46 ∷ after) ≡ 46 ∷ chars after = chars_past_char (46 ∷ after) after 46 v (rw (encode_ascii 46 (omega arith)) refl) in
    rw (e, chars-append name (46 ∷ after) u, rest) (split-first 46 (chars name) (chars after) (rw (whole_chars name u none) at none.2) refl)

pub dot-utf8 : (after : List ℕ) → IsUtf8 after → IsUtf8 (46 ∷ after)
dot-utf8 after u = IsUtf8-append (46 ∷ []) after (IsUtf8-from_ascii (46 ∷ []) (ascii (46 ∷ []) refl)) u
