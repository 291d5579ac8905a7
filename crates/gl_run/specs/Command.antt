-- The code's commands.
use Rattle.std.specs.Prelude.{◌≤◌, Option, Some}
use Rattle.std.specs.Str.{chars}
use Rattle.gl_commands.specs.Command.{Command, run_command, show_command, wire_command, check_command, migrate_command, sample_command}
use Rattle.gl_run.specs.declared.command.Command as code
use Rattle.gl_run.specs.declared.command.Command.TheVariants as v

-- the command that the code's one stands for
abbrev pub seen_command : code.Command → Command
seen_command (v.Run told manifest script) = run_command told (chars manifest.now) (chars script.now)
seen_command (v.Show template) = show_command (chars template.now)
seen_command (v.Wire template) = wire_command (chars template.now)
seen_command (v.Check manifest) = check_command (chars manifest.now)
seen_command (v.Migrate file) = migrate_command (chars file.now)
seen_command (v.Sample rows) = sample_command rows

-- a sample that is asked for has so many rows as there may be
abbrev pub IsSized : Option code.Command → Type 0
IsSized (Some (v.Sample rows)) = (1 ≤ rows) × (rows ≤ 10000)
IsSized _ = Unit {0}
