-- The token that stands at a place of a template.
use Rattle.std.specs.Prelude.{ℕ, List, [], ◌∷◌, Bool, true, false, codes, Option, None, option_map}
use Rattle.gl_base.specs.Answers.{◌>>=◌}
use Rattle.gl_base.specs.Names.{or_else}
use Rattle.gl_ast.specs.Scans.{after, after_run}
use Rattle.gl_ast.specs.Words.{after_end_tag, after_tag_opening, after_html_comment, after_comment, after_opening, after_mustache, after_attribute, after_argument, after_unquoted, after_parameters, after_path, after_number, after_string, ends_text, ends_quoted}
use Rattle.gl_ast.specs.declared.mode.Quote.{Quote}
use Rattle.gl_ast.specs.declared.mode.Quote.TheVariants.{Double, Single}
use Rattle.gl_ast.specs.declared.mode.Around.{Around}
use Rattle.gl_ast.specs.declared.mode.Around.TheVariants as a
use Rattle.gl_ast.specs.declared.mode.Mode.{Mode}
use Rattle.gl_ast.specs.declared.mode.Mode.TheVariants as m
use Rattle.gl_ast.specs.declared.token.TokenKind.{TokenKind}
use Rattle.gl_ast.specs.declared.token.TokenKind.TheVariants as k

-- a token that was read: what it is, what is left after it, and what may follow it
abbrev pub Found : Type 0
Found = TokenKind × List ℕ × Mode

abbrev pub found : TokenKind → Mode → Option (List ℕ) → Option Found
found kind next left = option_map (λ rest. (kind, rest, next)) left

-- the first of them that stands there
abbrev pub first_found : List (Option Found) → Option Found
first_found [] = None
first_found (o ∷ os) = or_else o (first_found os)

abbrev pub quote_byte : Quote → ℕ
quote_byte Double = 34
quote_byte Single = 39

-- what goes on after a mustache
abbrev pub after_around : Around → Mode
after_around a.Content = m.Content
after_around a.Tag = m.Tag
after_around a.ValueEnd = m.ValueEnd
after_around (a.Value q) = m.Value q

-- White space between tokens is none. It belongs to the text in content and in quoted values.
abbrev pub skips_white : Mode → Bool
skips_white m.Content = false
skips_white (m.Value q) = false
skips_white _ = true

-- After white space a value is no longer directly before.
abbrev pub spaced : Mode → Mode
spaced m.ValueEnd = m.Tag
spaced mode = mode

-- the opening of a mustache in the content
unfoldable pub content_opening : List ℕ → Option Found
content_opening bs = first_found (
    found k.OpenBlock (m.Mustache a.Content) (after_opening bs >>= after (codes "#"))
    ∷ found k.OpenClosing (m.Mustache a.Content) (after_opening bs >>= after (codes "/"))
    ∷ found k.OpenMustache (m.Mustache a.Content) (after_opening bs)
    ∷ [])

unfoldable pub content_token : List ℕ → Option Found
content_token bs = first_found (
    found k.Text m.Content (after_run ends_text bs)
    ∷ found k.HtmlComment m.Content (after_html_comment bs)
    ∷ found k.EndTag m.Content (after_end_tag bs)
    ∷ found k.TagOpening m.Tag (after_tag_opening bs)
    ∷ found k.MustacheComment m.Content (after_comment bs)
    ∷ content_opening bs
    ∷ [])

-- directly after a value only the tag's end stands
unfoldable pub value_end_token : List ℕ → Option Found
value_end_token bs = first_found (
    found k.TagEnd m.Content (after (codes ">") bs)
    ∷ found k.SelfEnd m.Content (after (codes "/>") bs)
    ∷ [])

-- `...attributes`, `=` and what ends a tag
unfoldable pub tag_mark : List ℕ → Option Found
tag_mark bs = first_found (
    found k.Spread m.Tag (after (codes "...attributes") bs)
    ∷ found k.Equals m.Equals (after (codes "=") bs)
    ∷ value_end_token bs
    ∷ [])

unfoldable pub tag_token : List ℕ → Option Found
tag_token bs = first_found (
    found k.Parameters m.Tag (after_parameters bs)
    ∷ found k.Attribute m.Tag (after_attribute bs)
    ∷ found k.Argument m.Tag (after_argument bs)
    ∷ tag_mark bs
    ∷ found k.MustacheComment m.Tag (after_comment bs)
    ∷ found k.OpenMustache (m.Mustache a.Tag) (after_opening bs)
    ∷ [])

-- after `=` only a value stands
unfoldable pub equals_token : List ℕ → Option Found
equals_token bs = first_found (
    found k.Unquoted m.ValueEnd (after_unquoted bs)
    ∷ found k.OpenQuote (m.Value Double) (after (34 ∷ []) bs)
    ∷ found k.OpenQuote (m.Value Single) (after (39 ∷ []) bs)
    ∷ found k.OpenMustache (m.Mustache a.ValueEnd) (after_opening bs)
    ∷ [])

unfoldable pub value_token : Quote → List ℕ → Option Found
value_token q bs = first_found (
    found k.CloseQuote m.ValueEnd (after (quote_byte q ∷ []) bs)
    ∷ found k.Text (m.Value q) (after_run (ends_quoted (quote_byte q)) bs)
    ∷ found k.OpenMustache (m.Mustache (a.Value q)) (after_opening bs)
    ∷ [])

-- `(`, `)` and `=`
unfoldable pub expression_mark : Mode → List ℕ → Option Found
expression_mark mode bs = first_found (
    found k.OpenParen mode (after (codes "(") bs)
    ∷ found k.CloseParen mode (after (codes ")") bs)
    ∷ found k.Equals mode (after (codes "=") bs)
    ∷ [])

-- a token of an expression, in this mode
unfoldable pub expression_token : Mode → List ℕ → Option Found
expression_token mode bs = first_found (
    found k.Parameters mode (after_parameters bs)
    ∷ found k.Path mode (after_path bs)
    ∷ found k.Number mode (after_number bs)
    ∷ found k.StringLit mode (after_string 34 bs)
    ∷ found k.StringLit mode (after_string 39 bs)
    ∷ expression_mark mode bs
    ∷ [])

unfoldable pub mustache_token : Around → List ℕ → Option Found
mustache_token around bs = or_else (expression_token (m.Mustache around) bs) (found k.CloseMustache (after_around around) (after_mustache bs))

unfoldable pub token : Mode → List ℕ → Option Found
token m.Content bs = content_token bs
token m.Tag bs = tag_token bs
token m.Equals bs = equals_token bs
token m.ValueEnd bs = value_end_token bs
token (m.Value q) bs = value_token q bs
token (m.Mustache around) bs = mustache_token around bs
token m.Expression bs = expression_token m.Expression bs
