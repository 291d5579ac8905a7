-- The kinds of bytes and of places that the lexer looks for, by name.
use Rattle.std.specs.Prelude.{ℕ, List, Bool, Option, codes}
use Rattle.gl_ast.specs.Marks as s
use Rattle.gl_ast.specs.Modes.{quote_byte}
use Rattle.gl_ast.specs.Scans.{begins}
use Rattle.gl_ast.specs.Words.{shows_long_end, ends_text, ends_quoted, after_more_class, after_segment, after_spaced_name}
use Rattle.gl_lex.specs.declared.class.Class.{Class}
use Rattle.gl_lex.specs.declared.class.Class.TheVariants as c
use Rattle.gl_lex.specs.declared.sign.Sign.{Sign}
use Rattle.gl_lex.specs.declared.sign.Sign.TheVariants as g
use Rattle.gl_lex.specs.declared.pieces.Piece.{Piece}
use Rattle.gl_lex.specs.declared.pieces.Piece.TheVariants as p

abbrev pub test : Class → ℕ → Bool
test c.White = s.is_white
test c.NameStart = s.starts_name
test c.Name = s.in_name
test c.Capital = s.is_capital
test c.ClassPart = s.in_class
test c.Small = s.is_small
test c.Tag = s.in_tag
test c.AttributeStart = s.starts_attribute
test c.Attribute = s.in_attribute
test c.Unquoted = s.in_unquoted
test c.Digit = s.is_digit

abbrev pub shows : Sign → List ℕ → Bool
shows g.HtmlEnd = begins (codes "-->")
shows g.LongEnd = shows_long_end
shows g.ShortEnd = begins (codes "}}")
shows g.TextEnd = ends_text
shows (g.QuotedEnd q) = ends_quoted (quote_byte q)

abbrev pub after_piece : Piece → List ℕ → Option (List ℕ)
after_piece p.ClassPart = after_more_class
after_piece p.Segment = after_segment
after_piece p.Name = after_spaced_name
