-- Values of attributes and arguments, read from the front of the tokens.
use Rattle.std.specs.Prelude.{List, [], ◌∷◌, ◌++◌, Bool, ◌&&◌, ◌||◌, drop, length, if◌then◌else◌, Some, option_map}
use Rattle.gl_base.specs.Answers.{◌>>=◌}
use Rattle.gl_value.specs.Value as v
use Rattle.gl_ast.specs.Template.{Expr, literal, cat, AttrValue, fixed, live, exprs_of}
use Rattle.gl_ast.specs.TokenText.{decoded}
use Rattle.gl_ast.specs.declared.token.Token.{Token}
use Rattle.gl_ast.specs.declared.token.TokenKind.{TokenKind}
use Rattle.gl_ast.specs.declared.token.TokenKind.TheVariants as k
use Rattle.gl_exprs.specs.ReadExpr.{read_mustache}
use Rattle.gl_exprs.specs.Take.{Taken, stands, take_kind, read_many, with_front}

-- a text, and after it the quote that closes the value
unfoldable pub stands_plain : List Token → Bool
stands_plain ts = stands k.Text ts && stands k.CloseQuote (drop 1 ts)

-- a value that is a text
unfoldable pub read_fixed : TokenKind → List Token → Taken AttrValue
read_fixed kind ts = option_map (λ t. (fixed (decoded t.0), t.1)) (take_kind kind ts)

-- a text of a quoted value
unfoldable pub read_quoted_text : List Token → Taken Expr
read_quoted_text ts = option_map (λ t. (literal (v.text (decoded t.0)), t.1)) (take_kind k.Text ts)

-- a text or a mustache of a quoted value
unfoldable pub starts_quoted : List Token → Bool
starts_quoted ts = stands k.Text ts || stands k.OpenMustache ts

unfoldable pub read_quoted : List Token → Taken Expr
read_quoted ts = if stands k.Text ts then read_quoted_text ts else read_mustache ts

-- a value of texts and mustaches, with one mustache at least: texts, the first mustache, and texts and mustaches
unfoldable pub read_cat : List Token → Taken AttrValue
read_cat ts = do
  texts ← read_many (stands k.Text) read_quoted_text (length ts) ts
  first ← read_mustache texts.1
  all ← with_front (texts.0 ++ first.0 ∷ []) (read_many starts_quoted read_quoted (length first.1) first.1)
  Some (live (cat (exprs_of all.0)), all.1)

-- what stands between the quotes
unfoldable pub read_between : List Token → Taken AttrValue
read_between ts =
    if stands k.CloseQuote ts then Some (fixed [], ts)
    else (if stands_plain ts then read_fixed k.Text ts else read_cat ts)

unfoldable pub read_quote : List Token → Taken AttrValue
read_quote ts = do
  front ← take_kind k.OpenQuote ts
  value ← read_between front.1
  back ← take_kind k.CloseQuote value.1
  Some (value.0, back.1)

-- a value
unfoldable pub read_value : List Token → Taken AttrValue
read_value ts =
    if stands k.Unquoted ts then read_fixed k.Unquoted ts
    else (if stands k.OpenMustache ts then option_map (λ e. (live e.0, e.1)) (read_mustache ts) else read_quote ts)

-- `=` and a value, or none
unfoldable pub read_given : List Token → Taken AttrValue
read_given ts = if stands k.Equals ts then (take_kind k.Equals ts >>= λ mark. read_value mark.1) else Some (fixed [], ts)
