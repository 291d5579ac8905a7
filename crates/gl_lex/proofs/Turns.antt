-- The turns of the lexer's loop: over white space, and over a token.
use Rattle.std.proofs.Common.{◌≡◌, ◌<◌, ◌+◌, ℕ, List, ◌∷◌, length, length-append, take, ap, ◌∙◌, arith}
use Rattle.gl_ast.specs.Modes.{Found}
use Rattle.std.specs.Str.{chars}
use Rattle.gl_ast.specs.TokenReading.{width, token_at}
use Rattle.gl_ast.specs.declared.token.Token.{Token}
use Rattle.gl_ast.specs.declared.token.TokenKind.{TokenKind}
use Rattle.gl_ast.proofs.Forward.{Steps}
use Rattle.gl_lex.specs.Clear.{IsClear}
use Rattle.gl_lex.proofs.Cleared.{clear_more}

-- what is left is shorter by what was passed over
pub falls : (bs rest : List ℕ) → Steps bs rest → length rest < length bs
falls bs rest s = omega (arith, length-append s.1 rest, ap length s.2)

pub steps_clear : (count : ℕ) (bs rest : List ℕ) → Steps bs rest → IsClear count bs → IsClear count rest
steps_clear count bs rest s clear = clear_more count bs rest clear (s.0 ∷ s.1) s.2

-- a token of so many bytes
abbrev pub new_token : TokenKind → ℕ → ℕ → List ℕ → Token
new_token kind at size text = record { kind = kind; start = at; end = at + size; text = chars text }

-- the token that was added
pub token_same : (at : ℕ) (bs front : List ℕ) (f : Found) → front ≡ take (width bs f) bs → length front ≡ width bs f → new_token f.0 at (length front) front ≡ token_at at bs f
token_same at bs front f e len = ap (λ n. new_token f.0 at n front) len ∙ ap (λ l. new_token f.0 at (width bs f) l) e
