-- What the tokens of a text are. At each place the longest of the tokens that may stand there is the next one.
use Rattle.std.specs.Prelude.{ℕ, List, [], ◌∷◌, ◌+◌, ◌<◌, ◌≡◌, ◌⊎◌, true, false, codes, length, Option, Some}
use Rattle.gl_base.specs.Answers.{◌>>=◌}
use Rattle.gl_ast.specs.Modes.{Found, found, quote_byte, after_around, spaced}
use Rattle.gl_ast.specs.Scans.{after, after_run}
use Rattle.gl_ast.specs.TokenReading.{width, token_at, stands_white}
use Rattle.gl_ast.specs.Words.{after_end_tag, after_tag_opening, after_html_comment, after_long_comment, after_short_comment, after_opening, after_mustache, after_attribute, after_argument, after_unquoted, after_parameters, after_path, after_number, after_string, ends_text, ends_quoted}
use Rattle.gl_ast.specs.declared.mode.Quote.TheVariants.{Double, Single}
use Rattle.gl_ast.specs.declared.mode.Around.TheVariants as a
use Rattle.gl_ast.specs.declared.mode.Mode.{Mode}
use Rattle.gl_ast.specs.declared.mode.Mode.TheVariants as m
use Rattle.gl_ast.specs.declared.token.Token.{Token}
use Rattle.gl_ast.specs.declared.token.TokenKind.TheVariants as k

-- The tokens that may stand in the content, each with what is left after it and with what follows it.
abbrev pub content_forms : List ℕ → List (Option Found)
content_forms bs =
    found k.Text m.Content (after_run ends_text bs)
    ∷ found k.HtmlComment m.Content (after_html_comment bs)
    ∷ found k.EndTag m.Content (after_end_tag bs)
    ∷ found k.TagOpening m.Tag (after_tag_opening bs)
    ∷ found k.MustacheComment m.Content (after_long_comment bs)
    ∷ found k.MustacheComment m.Content (after_short_comment bs)
    ∷ found k.OpenBlock (m.Mustache a.Content) (after_opening bs >>= after (codes "#"))
    ∷ found k.OpenClosing (m.Mustache a.Content) (after_opening bs >>= after (codes "/"))
    ∷ found k.OpenMustache (m.Mustache a.Content) (after_opening bs)
    ∷ []

-- in a tag
abbrev pub tag_forms : List ℕ → List (Option Found)
tag_forms bs =
    found k.Parameters m.Tag (after_parameters bs)
    ∷ found k.Attribute m.Tag (after_attribute bs)
    ∷ found k.Argument m.Tag (after_argument bs)
    ∷ found k.Spread m.Tag (after (codes "...attributes") bs)
    ∷ found k.Equals m.Equals (after (codes "=") bs)
    ∷ found k.TagEnd m.Content (after (codes ">") bs)
    ∷ found k.SelfEnd m.Content (after (codes "/>") bs)
    ∷ found k.MustacheComment m.Tag (after_long_comment bs)
    ∷ found k.MustacheComment m.Tag (after_short_comment bs)
    ∷ found k.OpenMustache (m.Mustache a.Tag) (after_opening bs)
    ∷ []

-- after `=` in a tag: a value
abbrev pub equals_forms : List ℕ → List (Option Found)
equals_forms bs =
    found k.Unquoted m.ValueEnd (after_unquoted bs)
    ∷ found k.OpenQuote (m.Value Double) (after (34 ∷ []) bs)
    ∷ found k.OpenQuote (m.Value Single) (after (39 ∷ []) bs)
    ∷ found k.OpenMustache (m.Mustache a.ValueEnd) (after_opening bs)
    ∷ []

-- directly after a value
abbrev pub value_end_forms : List ℕ → List (Option Found)
value_end_forms bs =
    found k.TagEnd m.Content (after (codes ">") bs)
    ∷ found k.SelfEnd m.Content (after (codes "/>") bs)
    ∷ []

-- in a quoted value
abbrev pub value_forms : Mode → ℕ → Mode → List ℕ → List (Option Found)
value_forms mode quote inner bs =
    found k.CloseQuote m.ValueEnd (after (quote ∷ []) bs)
    ∷ found k.Text mode (after_run (ends_quoted quote) bs)
    ∷ found k.OpenMustache inner (after_opening bs)
    ∷ []

-- in an expression, which goes on in this mode, and then these
abbrev pub expression_forms : Mode → List ℕ → List (Option Found) → List (Option Found)
expression_forms mode bs others =
    found k.Parameters mode (after_parameters bs)
    ∷ found k.Path mode (after_path bs)
    ∷ found k.Number mode (after_number bs)
    ∷ found k.StringLit mode (after_string 34 bs)
    ∷ found k.StringLit mode (after_string 39 bs)
    ∷ found k.OpenParen mode (after (codes "(") bs)
    ∷ found k.CloseParen mode (after (codes ")") bs)
    ∷ found k.Equals mode (after (codes "=") bs)
    ∷ others

abbrev pub forms : Mode → List ℕ → List (Option Found)
forms m.Content bs = content_forms bs
forms m.Tag bs = tag_forms bs
forms m.Equals bs = equals_forms bs
forms m.ValueEnd bs = value_end_forms bs
forms (m.Value q) bs = value_forms (m.Value q) (quote_byte q) (m.Mustache (a.Value q)) bs
forms (m.Mustache around) bs = expression_forms (m.Mustache around) bs (found k.CloseMustache (after_around around) (after_mustache bs) ∷ [])
forms m.Expression bs = expression_forms m.Expression bs []

-- it is one of those that stand there
abbrev pub IsOneOf : Found → List (Option Found) → Type 0
IsOneOf f [] = ⊥
IsOneOf f (o ∷ os) = (o ≡ Some f) ⊎ IsOneOf f os

-- it is the longest of them: every other leaves more
abbrev pub IsLongest : Found → List (Option Found) → Type 0
IsLongest f os = IsOneOf f os × ((g : Found) → IsOneOf g os → (g ≡ f) ⊎ (length f.1 < length g.1))

-- The tokens from a place on: white space between tokens is passed over, and then the longest token stands there.
pub data Reads : Mode → ℕ → List ℕ → List Token → Type 0 where
  ends : {mode : Mode} {at : ℕ} → Reads mode at [] []
  passes : {mode : Mode} {at b : ℕ} {bs : List ℕ} {list : List Token} → stands_white mode (b ∷ bs) ≡ true → Reads (spaced mode) (at + 1) bs list → Reads mode at (b ∷ bs) list
  reads : {mode : Mode} {at : ℕ} {bs : List ℕ} {list : List Token} (f : Found) → stands_white mode bs ≡ false → IsLongest f (forms mode bs) → Reads f.2 (at + width bs f) f.1 list → Reads mode at bs (token_at at bs f ∷ list)

-- the list is the reading of the text as a template
abbrev pub IsTokens : List ℕ → List Token → Type 0
IsTokens text list = Reads m.Content 0 text list

-- and as an expression that stands alone, where a mustache's end is no token
abbrev pub IsLoneTokens : List ℕ → List Token → Type 0
IsLoneTokens text list = Reads m.Expression 0 text list
