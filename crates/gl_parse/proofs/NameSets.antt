-- Names among the keys of a set, as texts and as the strings that hold them.
use Rattle.std.proofs.Common.{◌≡◌, ℕ, List, [], ◌∷◌, ◌++◌, false, map, refl, ap, ◌∙◌, String, Global, string_bytes}
use Rattle.std.specs.Prelude.{if◌then◌else◌}
use Rattle.std.specs.List.{list_any}
use Rattle.std.specs.Str.{bytes_eq, chars, IsUtf8}
use Rattle.std.proofs.lemmas.List.{map-append}
use Rattle.std.proofs.lemmas.Str.{IsUtf8-string_bytes}
use Rattle.gl_base.proofs.Chars.{bytes_eq-chars}
use Rattle.gl_base.specs.Names.{has_text}
use Rattle.gl_base.specs.Texts.{Text}

-- the texts that strings hold
abbrev pub seen : List (String Global) → List Text
seen ks = map (λ k. chars (string_bytes k)) ks

has_text-seen : (bs : List ℕ) → IsUtf8 bs → (ks : List (String Global)) → list_any (λ k. bytes_eq bs (string_bytes k)) ks ≡ has_text (chars bs) (seen ks)
has_text-seen bs u [] = refl
has_text-seen bs u (k ∷ ks) = rw (bytes_eq-chars bs (string_bytes k) u (IsUtf8-string_bytes k), has_text-seen bs u ks) refl

-- whether the key stands among the others, where the texts are known by other names
pub has_name : (ks : List (String Global)) (k : String Global) (n : Text) (ns : List Text) → chars (string_bytes k) ≡ n → seen ks ≡ ns → list_any (λ j. bytes_eq (string_bytes k) (string_bytes j)) ks ≡ has_text n ns
has_name ks k n ns e f = has_text-seen (string_bytes k) (IsUtf8-string_bytes k) ks ∙ ap (λ m. has_text m (seen ks)) e ∙ ap (has_text n) f

-- a key that does not stand there yet is put at the end
pub new_name : (ks : List (String Global)) (k : String Global) (n : Text) (ns : List Text) → chars (string_bytes k) ≡ n → seen ks ≡ ns → has_text n ns ≡ false
    → seen (if list_any (λ j. bytes_eq (string_bytes k) (string_bytes j)) ks then ks else ks ++ k ∷ []) ≡ ns ++ n ∷ []
new_name ks k n ns e f free =
    ap (λ b. seen (if b then ks else ks ++ k ∷ [])) (has_name ks k n ns e f ∙ free)
    ∙ map-append (λ j. chars (string_bytes j)) ks (k ∷ []) ∙ ap (λ l. l ++ chars (string_bytes k) ∷ []) f ∙ ap (λ m. ns ++ m ∷ []) e
