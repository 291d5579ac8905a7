-- The exit status.
use Rattle.std.specs.Prelude.{ℕ}
use Rattle.gl_commands.specs.declared.status.Status.{Status}
use Rattle.gl_commands.specs.declared.status.Status.TheVariants as v

abbrev pub code_of : Status → ℕ
code_of v.Done = 0
code_of v.NestingLimit = 1
code_of v.Usage = 2
code_of v.Refused = 3
code_of v.ReadFault = 4
code_of v.WriteFault = 5
code_of v.NoMemory = 6
