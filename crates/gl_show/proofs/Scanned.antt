-- Laws of places in a text.
use Rattle.std.proofs.Common.{◌≡◌, ℕ, List, [], ◌∷◌, ◌++◌, Option, Some, None, length, sym, ap, ◌∙◌}
use Rattle.std.specs.Prelude.{MatchOption, encode_utf8}
use Rattle.std.specs.Str.{chars, IsUtf8}
use Rattle.std.proofs.lemmas.Str.{chars_past_char}
use Rattle.gl_base.proofs.Chars.{empty_chars}

-- the next character of a text, which an iterator gave
pub next_char : {S : Type 0} (rest : S → List ℕ) (s t : S) (r : Option ℕ) (text new old : List ℕ) → IsUtf8 text → rest s ≡ text → new ≡ rest t → old ≡ chars text → MatchOption r ((length (rest s) ≡ 0) × (t ≡ s)) (λ c. rest s ≡ encode_utf8 c ++ rest t) → MatchOption r ((old ≡ []) × (chars new ≡ [])) (λ c. old ≡ c ∷ chars new)
next_char rest s t None text new old u e f g h =
    let none = empty_chars text (sym (ap length e) ∙ h.0) in
    let same : new ≡ text = f ∙ ap rest h.1 ∙ e in
    (g ∙ none, ap chars same ∙ none)
next_char rest s t (Some c) text new old u e f g h = g ∙ chars_past_char text new c u (sym e ∙ h ∙ ap (λ x. encode_utf8 c ++ x) (sym f))
