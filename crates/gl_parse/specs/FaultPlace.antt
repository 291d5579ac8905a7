-- The place at which a text leaves the grammar: that of the first token which can't stand where it does, as the list of
-- what is due tells it, or else where its tokens end.
use Rattle.std.specs.Prelude.{ℕ, List, length, if◌then◌else◌, Option, Some, None}
use Rattle.std.specs.Str.{is_utf8}
use Rattle.std.specs.Str.Lossy.{utf8_valid_len}
use Rattle.gl_ast.specs.Settling.{settled}
use Rattle.gl_ast.specs.declared.mode.Mode.TheVariants as m
use Rattle.gl_lex.specs.Front.{Front, front_from}
use Rattle.gl_parse.specs.Due.{refused, place_of, template_due, expression_due}

-- where the tokens end: at the first place where none stands, or with the text
abbrev pub stop_of : ℕ → Option ℕ → ℕ
stop_of size None = size
stop_of size (Some place) = place

abbrev pub front_place : List ℕ → Front → ℕ
front_place text front = place_of (stop_of (length text) front.1) (refused template_due (settled text front.0))

unfoldable pub text_place : List ℕ → ℕ
text_place text = front_place text (front_from m.Content 0 0 text)

-- of bytes that aren't UTF-8 it is the first that isn't
unfoldable pub template_place : List ℕ → ℕ
template_place bytes = if is_utf8 bytes then text_place bytes else utf8_valid_len bytes

abbrev pub lone_place : List ℕ → Front → ℕ
lone_place text front = place_of (stop_of (length text) front.1) (refused expression_due front.0)

unfoldable pub expression_place : List ℕ → ℕ
expression_place text = lone_place text (front_from m.Expression 0 0 text)
