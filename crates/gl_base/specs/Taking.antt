-- What a sink of bytes took, where it tells.
use Rattle.std.specs.Prelude.{◌≡◌, ℕ, List, ◌++◌, Option, option_map, take}
use Rattle.gl_base.specs.Texts.{Text, bytes_of, joined}

-- it took these bytes
abbrev pub Takes : Option (List ℕ) → Option (List ℕ) → List ℕ → Type 0
Takes old new piece = new ≡ option_map (λ taken. taken ++ piece) old

-- it took a front of the piece
abbrev pub TakesFront : Option (List ℕ) → Option (List ℕ) → List ℕ → Type 0
TakesFront old new piece = (front rest : List ℕ) × (piece ≡ front ++ rest) × Takes old new front

-- it took some of the first texts, each whole
abbrev pub TakesSome : Option (List ℕ) → Option (List ℕ) → List Text → Type 0
TakesSome old new texts = (count : ℕ) × Takes old new (bytes_of (joined (take count texts)))
