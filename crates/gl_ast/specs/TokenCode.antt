-- A code for tokens: their kind, their places and their text.
use Rattle.std.specs.Prelude.{ℕ, List, refl}
use Rattle.std.specs.Coded.{Coded, code_by, coded×, coded_list, coded_ℕ}
use Rattle.gl_ast.specs.declared.token.TokenKind.{TokenKind}
use Rattle.gl_ast.specs.declared.token.Token.{Token}
use Rattle.gl_ast.specs.contracts.token.TokenKind as kind

abbrev Fields : Type 0
Fields = TokenKind × (ℕ × (ℕ × List ℕ))

abbrev fields : Token → Fields
fields t = (t.kind, (t.start, (t.end, t.text)))

abbrev of_fields : Fields → Token
of_fields f = record { kind = f.0; start = f.1.0; end = f.1.1.0; text = f.1.1.1 }

abbrev pub token_code : Coded Token
token_code = code_by Fields (coded× kind.the_row.coded (coded× coded_ℕ (coded× coded_ℕ (coded_list coded_ℕ)))) fields of_fields (λ _. refl)
