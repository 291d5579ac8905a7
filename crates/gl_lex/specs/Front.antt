-- The tokens of a text up to where none stands, read forward.
use Rattle.std.specs.Prelude.{ℕ, zero, suc, List, [], ◌∷◌, ◌++◌, ◌+◌, ◌-◌, length, if◌then◌else◌, Option, Some, None}
use Rattle.gl_ast.specs.Modes.{Found, token, spaced}
use Rattle.gl_ast.specs.TokenReading.{width, token_at, stands_white}
use Rattle.gl_ast.specs.declared.mode.Mode.{Mode}
use Rattle.gl_ast.specs.declared.token.Token.{Token}
use Rattle.gl_lex.specs.Begun.{is_begun}

-- the tokens, and the place at which none stands, if the text goes on there
abbrev pub Front : Type 0
Front = List Token × Option ℕ

-- the place that a fault names where no token stands: the text's end where the text ends within a token
abbrev pub stop_at : Mode → ℕ → List ℕ → ℕ
stop_at mode at bs = if is_begun mode bs then at + length bs else at

-- more tokens before a front
abbrev pub with_front : List Token → Front → Front
with_front ts f = (ts ++ f.0, f.1)

-- what is read of the token that was found, or else this
abbrev pub front_or : Front → (Found → Front) → Option Found → Front
front_or other read None = other
front_or other read (Some f) = read f

-- the front from this place on; the first `skipped` bytes are of a token that was read
abbrev pub front_from : Mode → ℕ → ℕ → List ℕ → Front
front_from mode skipped at [] = ([], None)
front_from mode (suc skipped) at (b ∷ bs) = front_from mode skipped (at + 1) bs
front_from mode zero at (b ∷ bs) =
    if stands_white mode (b ∷ bs) then front_from (spaced mode) zero (at + 1) bs
    else front_or ([], Some (stop_at mode at (b ∷ bs))) (λ f. with_front (token_at at (b ∷ bs) f ∷ []) (front_from f.2 (width (b ∷ bs) f - 1) (at + 1) bs)) (token mode (b ∷ bs))

-- all tokens of a text, where no place is without one
abbrev pub all_of : Front → Option (List Token)
all_of (ts, None) = Some ts
all_of (ts, Some place) = None
