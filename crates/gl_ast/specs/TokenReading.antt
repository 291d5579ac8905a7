-- The tokens of a text, read forward.
use Rattle.std.specs.Prelude.{ℕ, zero, suc, List, [], ◌∷◌, ◌+◌, ◌-◌, Bool, false, ◌&&◌, length, take, if◌then◌else◌, Option, Some}
use Rattle.std.specs.Str.{chars}
use Rattle.gl_base.specs.Answers.{◌>>=◌}
use Rattle.gl_ast.specs.Marks.{is_white}
use Rattle.gl_ast.specs.Modes.{Found, token, skips_white, spaced}
use Rattle.gl_ast.specs.declared.mode.Mode.{Mode}
use Rattle.gl_ast.specs.declared.mode.Mode.TheVariants as m
use Rattle.gl_ast.specs.declared.token.Token.{Token}

-- how many bytes the token has that was read where these bytes are left
abbrev pub width : List ℕ → Found → ℕ
width bs f = length bs - length f.1

-- the token at this place
abbrev pub token_at : ℕ → List ℕ → Found → Token
token_at at bs f = record { kind = f.0; start = at; end = at + width bs f; text = chars (take (width bs f) bs) }

-- white space that is between tokens stands here
abbrev pub stands_white : Mode → List ℕ → Bool
stands_white mode [] = false
stands_white mode (b ∷ bs) = skips_white mode && is_white b

-- the tokens from this place on; the first `skipped` bytes are of a token that was read
abbrev pub read_from : Mode → ℕ → ℕ → List ℕ → Option (List Token)
read_from mode skipped at [] = Some []
read_from mode (suc skipped) at (b ∷ bs) = read_from mode skipped (at + 1) bs
read_from mode zero at (b ∷ bs) =
    if stands_white mode (b ∷ bs) then read_from (spaced mode) zero (at + 1) bs
    else (token mode (b ∷ bs) >>= λ f. (read_from f.2 (width (b ∷ bs) f - 1) (at + 1) bs >>= λ ts. Some (token_at at (b ∷ bs) f ∷ ts)))

-- the tokens of a template
unfoldable pub template_tokens : List ℕ → Option (List Token)
template_tokens bs = read_from m.Content 0 0 bs

-- the tokens of an expression that stands alone
unfoldable pub lone_tokens : List ℕ → Option (List Token)
lone_tokens bs = read_from m.Expression 0 0 bs
