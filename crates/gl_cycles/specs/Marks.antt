-- Sets of places below 32, each the bits of a number, and the places that a getter's mentions have.
use Rattle.std.specs.Prelude.{◌≡◌, ℕ, suc, ◌^◌, ◌==◌, List, [], ◌∷◌, Bool, if◌then◌else◌, Option, Some, None, option_map, slice_get, slice_index, bit_or}
use Rattle.std.specs.Int.{bit_at}
use Rattle.std.specs.Str.{bytes_eq}
use Rattle.gl_base.specs.Texts.{Text}
use Rattle.gl_ast.specs.Template.{Expr}
use Rattle.gl_meaning.specs.Known.{mentions}

-- the place is in the set
unfoldable pub has_mark : ℕ → ℕ → Bool
has_mark marks place = bit_at marks place == 1

-- the set with that place
unfoldable pub with_mark : ℕ → ℕ → ℕ
with_mark marks place = bit_or marks (2 ^ place)

-- the set with the place, where there is one
abbrev pub with_place : ℕ → Option ℕ → ℕ
with_place marks None = marks
with_place marks (Some place) = with_mark marks place

abbrev pub Getters : Type 0
Getters = List (Text × Expr)

-- the place of the first getter of that name
abbrev pub place : Text → Getters → Option ℕ
place n [] = None
place n (g ∷ gs) = if bytes_eq n g.0 then Some 0 else option_map (λ k. suc k) (place n gs)

-- the set with the places of those of the names that getters have
abbrev pub with_names : Getters → ℕ → List Text → ℕ
with_names gs marks [] = marks
with_names gs marks (n ∷ ns) = with_names gs (with_place marks (place n gs)) ns

-- the places of the getters that a getter mentions
abbrev pub mentioned : Getters → Option (Text × Expr) → ℕ
mentioned gs None = 0
mentioned gs (Some g) = with_names gs 0 (mentions g.1)

-- each row holds what the getter at its place mentions
abbrev pub AreMentions : List ℕ → Getters → Type 0
AreMentions rows gs = (k : ℕ) → slice_index rows k ≡ mentioned gs (slice_get gs k)
