-- The commands, and the words that give them.
use Rattle.std.specs.Prelude.{◌+◌, ℕ, zero, suc, List, [], ◌∷◌, codes, Option, Some, None, option_map, if◌then◌else◌}
use Rattle.std.specs.Str.{bytes_eq}
use Rattle.std.specs.Fmt.{decimal}
use Rattle.gl_base.specs.Texts.{Text}
use Rattle.gl_commands.specs.declared.told.Told.{Told}
use Rattle.gl_commands.specs.declared.told.Told.TheVariants as told

pub data Command : Type 0 where
  -- plays the session of a manifest and a script, and tells so much of each turn
  run_command : Told → Text → Text → Command
  -- shows the canonical spelling of a template
  show_command : Text → Command
  -- writes the wire of a template
  wire_command : Text → Command
  -- checks the application of a manifest
  check_command : Text → Command
  -- writes the JSON of the wire of a file in version 2
  migrate_command : Text → Command
  -- plays the session of the sample application of so many rows, and writes how much it is
  sample_command : ℕ → Command

-- the command plays a session
abbrev pub IsPlay : Option Command → Type 0
IsPlay (Some (run_command told manifest script)) = Unit {0}
IsPlay (Some (sample_command rows)) = Unit {0}
IsPlay _ = ⊥

-- the number that a text writes in decimal, of so many numbers from this one on
unfoldable pub number_among : Text → ℕ → ℕ → Option ℕ
number_among text zero first = None
number_among text (suc count) first = if bytes_eq text (decimal first) then Some first else number_among text count (first + 1)

-- how many rows a text asks for: a number from 1 to 10000 in decimal, with no leading zero and no sign
unfoldable pub rows_in : Text → Option ℕ
rows_in text = number_among text 10000 1

-- the commands of one file, and that of a number of rows
abbrev pub file_command : Text → Text → Option Command
file_command word file =
    if bytes_eq word (codes "show") then Some (show_command file)
    else (if bytes_eq word (codes "wire") then Some (wire_command file)
    else (if bytes_eq word (codes "check") then Some (check_command file)
    else (if bytes_eq word (codes "migrate") then Some (migrate_command file)
    else (if bytes_eq word (codes "sample") then option_map sample_command (rows_in file) else None))))

-- the commands of two files
abbrev pub session_command : Text → Text → Text → Option Command
session_command word manifest script =
    if bytes_eq word (codes "run") then Some (run_command told.Alone manifest script)
    else (if bytes_eq word (codes "work") then Some (run_command told.WithWork manifest script) else None)

-- A command stands at the first place, and its files or its number at the next ones.
unfoldable pub command_of : List Text → Option Command
command_of (word ∷ file ∷ []) = file_command word file
command_of (word ∷ manifest ∷ script ∷ []) = session_command word manifest script
command_of _ = None
