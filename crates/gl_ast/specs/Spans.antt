-- Where tokens stand in their text.
use Rattle.std.specs.Prelude.{ℕ, List, [], ◌∷◌, ◌-◌, ◌<◌, ◌≤◌, ◌≡◌, length, take, drop}
use Rattle.std.specs.Str.{chars, IsCharBoundary}
use Rattle.gl_ast.specs.declared.token.Token.{Token}

-- the bytes of a text from one place to another
abbrev pub slice : List ℕ → ℕ → ℕ → List ℕ
slice bs start end = take (end - start) (drop start bs)

-- The tokens stand one after another from a place on, none of them empty, each within the text and from one border of
-- characters to another, and the text of each is the slice of its span.
abbrev pub Spans : List ℕ → ℕ → List Token → Type 0
Spans bs at [] = Unit {0}
Spans bs at (t ∷ ts) =
    (at ≤ t.start) × (t.start < t.end) × (t.end ≤ length bs) × IsCharBoundary bs t.start × IsCharBoundary bs t.end
    × (t.text ≡ chars (slice bs t.start t.end)) × Spans bs t.end ts
