-- What is told of a turn.
use Rattle.std.specs.Prelude.{List, ◌++◌, map}
use Rattle.gl_base.specs.Texts.{Text}
use Rattle.gl_meaning.specs.Session.{Turn, work_line}
use Rattle.gl_commands.specs.declared.told.Told.{Told}
use Rattle.gl_commands.specs.declared.told.Told.TheVariants as v

-- its text, with the line of its work or without
abbrev pub told_text : Told → Turn → Text
told_text v.Alone t = t.text
told_text v.WithWork t = t.text ++ work_line t.work

abbrev pub told_texts : Told → List Turn → List Text
told_texts told turns = map (told_text told) turns
