-- What is told of the code's turn.
use Rattle.std.specs.Prelude.{◌++◌}
use Rattle.gl_base.specs.Texts.{Text}
use Rattle.gl_meaning.specs.Session.{work_line}
use Rattle.gl_session.specs.Turn.{work_view}
use Rattle.gl_session.specs.declared.turn.Turn as code
use Rattle.gl_commands.specs.declared.told.Told.{Told}
use Rattle.gl_commands.specs.declared.told.Told.TheVariants as v

-- the same of the code's turn
abbrev pub seen_text : Told → code.Turn → Text
seen_text v.Alone made = made.text
seen_text v.WithWork made = made.text ++ work_line (work_view made.work)
