-- Laws of texts as bytes and as characters.
use Rattle.std.proofs.Common.{[], ◌∷◌, append-nil, arith, true, zero, suc, ◌≡◌, ℕ, List, ◌++◌, sym, ap, ◌∙◌, append_assoc, length}
use Rattle.std.specs.Prelude.{encode_utf8, encode_utf8_all, flat_map}
use Rattle.std.specs.Char.{IsScalar}
use Rattle.std.specs.Bool.{Decides}
use Rattle.std.specs.Str.{bytes_eq, chars, IsUtf8, IsAscii}
use Rattle.std.proofs.lemmas.Bool.Decides.{same_from_decides}
use Rattle.std.proofs.lemmas.Slice.Eq.{bytes_eq-Decides}
use Rattle.std.proofs.lemmas.Str.{chars-nil, chars_past_char, IsUtf8-encode, encodes-chars, chars-encodes, chars-append, chars-IsAscii, chars_from_encodes, encodes-append, IsUtf8-string_bytes}
use Rattle.std.proofs.lemmas.Grind.{flat_map-append}
use Rattle.gl_base.specs.Texts.{is_ascii_text}

-- what a text's characters and bytes have to do with each other
pub ruleset char_laws = (chars-nil, chars-append, chars_from_encodes, encodes-chars, IsUtf8-string_bytes)

-- two texts have equal bytes where they have equal characters
pub bytes_eq-chars : (xs ys : List ℕ) → IsUtf8 xs → IsUtf8 ys → bytes_eq xs ys ≡ bytes_eq (chars xs) (chars ys)
bytes_eq-chars xs ys u v =
    let d : Decides (bytes_eq (chars xs) (chars ys)) (xs ≡ ys) = (
      λ e. sym (encodes-chars xs u) ∙ ap encode_utf8_all ((bytes_eq-Decides (chars xs) (chars ys)).0 e) ∙ encodes-chars ys v,
      λ e. (bytes_eq-Decides (chars xs) (chars ys)).1 (ap chars e),
    ) in
    same_from_decides (bytes_eq xs ys) (bytes_eq (chars xs) (chars ys)) (bytes_eq-Decides xs ys) d

pub ascii : (bs : List ℕ) → is_ascii_text bs ≡ true → IsAscii bs
ascii [] e i = omega arith
ascii (b ∷ bs) e zero = grind arith
ascii (b ∷ bs) e (suc i) = ascii bs (grind arith) i

-- a text of ASCII has its bytes as its characters
pub chars_of_ascii : (bs : List ℕ) → is_ascii_text bs ≡ true → chars bs ≡ bs
chars_of_ascii bs e = chars-IsAscii bs (ascii bs e)

pub chars-append_ascii : (xs ys : List ℕ) → IsUtf8 xs → IsAscii ys → chars (xs ++ ys) ≡ chars xs ++ ys
chars-append_ascii xs ys u a = chars-append xs ys u ∙ ap (λ zs. chars xs ++ zs) (chars-IsAscii ys a)

pub chars-append_literal : (xs ys : List ℕ) → IsUtf8 xs → is_ascii_text ys ≡ true → chars (xs ++ ys) ≡ chars xs ++ ys
chars-append_literal xs ys u e = chars-append_ascii xs ys u (ascii ys e)

pub chars-encode : (c : ℕ) → IsScalar c → chars (encode_utf8 c) ≡ c ∷ []
chars-encode c scalar = chars_past_char (encode_utf8 c) [] c (IsUtf8-encode c scalar) (sym (append-nil (encode_utf8 c))) ∙ ap (λ l. c ∷ l) chars-nil

pub chars-append_char : (xs : List ℕ) (c : ℕ) → IsUtf8 xs → IsScalar c → chars (xs ++ encode_utf8 c) ≡ chars xs ++ c ∷ []
chars-append_char xs c u h = chars-append xs (encode_utf8 c) u ∙ ap (λ zs. chars xs ++ zs) (chars-encode c h)

-- a text that is written character by character: one more character is written
pub written_more : (f : ℕ → List ℕ) (start out new cs : List ℕ) (c : ℕ) → out ≡ start ++ flat_map f cs → new ≡ out ++ f c → new ≡ start ++ flat_map f (cs ++ c ∷ [])
written_more f start out new cs c e g =
    g ∙ ap (λ o. o ++ f c) e ∙ append_assoc start (flat_map f cs) (f c)
    ∙ ap (λ o. start ++ o) (ap (λ o. flat_map f cs ++ o) (sym (append-nil (f c))) ∙ sym (flat_map-append f cs (c ∷ [])))

pub ruleset equal_laws = (bytes_eq-chars, IsUtf8-string_bytes)

pub empty_chars : (bs : List ℕ) → length bs ≡ 0 → chars bs ≡ []
empty_chars [] e = chars-nil
empty_chars (b ∷ bs) e = absurd (omega (arith, e))

pub chars_empty : (bs : List ℕ) → IsUtf8 bs → chars bs ≡ [] → length bs ≡ 0
chars_empty bs u e = ap length (sym (encodes-chars bs u) ∙ ap encode_utf8_all e)
