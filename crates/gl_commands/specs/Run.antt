-- How a run ends, and why.
use Rattle.std.specs.Prelude.{◌≡◌, ◌<◌, ◌⊎◌, ℕ, List, [], ◌∷◌, codes, Option, Some, None, Result, Ok, Err}
use Rattle.gl_base.specs.Texts.{Text, bytes_of, joined}
use Rattle.gl_base.specs.Taking.{Takes}
use Rattle.gl_outside.specs.Shelf.{Entry}
use Rattle.gl_commands.specs.Command.{Command, run_command, show_command, wire_command, check_command, migrate_command, sample_command}
use Rattle.gl_meaning.specs.View.{kind_view}
use Rattle.gl_load.specs.Load.{app_fetched, whole_fetched}
use Rattle.gl_load.specs.Loads as l
use Rattle.gl_load.specs.Loads.{IsAmong}
use Rattle.gl_load.specs.declared.fault.LoadCause.{LoadCause}
use Rattle.gl_load.specs.declared.fault.LoadCause.TheVariants as cause
use Rattle.gl_commands.specs.Output.{Output, message_line, file_line, absent_line, too_long_line, wire_refusal, shape_line, expression_line, grammar_line, unknown_line, cycle_line, field_line, limit_line, usage_line}
use Rattle.gl_commands.specs.declared.status.Status.{Status}
use Rattle.gl_commands.specs.declared.status.Status.TheVariants as status
use Rattle.gl_commands.specs.declared.fault.PlayFault.{PlayFault}
use Rattle.gl_commands.specs.declared.fault.PlayFault.TheVariants as play
use Rattle.gl_commands.specs.declared.ending.RunFault.{RunFault}
use Rattle.gl_commands.specs.declared.ending.RunFault.TheVariants as v

-- all was written, or why not
abbrev pub Ending : Type 0
Ending = Result (Unit {0}) RunFault

-- of a file that is refused or can't be read
abbrev pub file_status : LoadCause → Status
file_status cause.ReadFault = status.ReadFault
file_status cause.Memory = status.NoMemory
file_status _ = status.Refused

abbrev pub status_of : Ending → Status
status_of (Ok x) = status.Done
status_of (Err v.Usage) = status.Usage
status_of (Err (v.Load fault)) = file_status fault.cause
status_of (Err (v.BadWire file)) = status.Refused
status_of (Err (v.NestingLimit turn limit)) = status.NestingLimit
status_of (Err v.WriteFault) = status.WriteFault
status_of (Err v.Memory) = status.NoMemory

abbrev pub memory_line : Text
memory_line = codes "out of memory\n"

-- the line on a file
abbrev pub cause_line : Text → LoadCause → Text
cause_line file cause.Absent = absent_line file
cause_line file (cause.TooLong taken) = too_long_line file
cause_line file cause.BadJson = file_line file (codes ": not JSON\n")
cause_line file (cause.BadShape pointer) = shape_line file pointer
cause_line file (cause.BadExpression pointer) = expression_line file pointer
cause_line file (cause.NotInGrammar byte) = grammar_line file byte
cause_line file (cause.UnknownName kind name) = unknown_line file (kind_view kind) name
cause_line file (cause.GetterCycle class getter) = cycle_line file class getter
cause_line file (cause.UnknownField index name) = field_line file index name
cause_line file cause.ReadFault = file_line file (codes ": read fault\n")
cause_line file cause.Memory = memory_line

-- the line on `err`: none where all was written
abbrev pub line_of : Ending → Text
line_of (Ok x) = []
line_of (Err v.Usage) = usage_line
line_of (Err (v.Load fault)) = cause_line fault.file fault.cause
line_of (Err (v.BadWire file)) = wire_refusal file
line_of (Err (v.NestingLimit turn limit)) = limit_line turn limit
line_of (Err v.WriteFault) = codes "write fault\n"
line_of (Err v.Memory) = memory_line

-- A file is absent only where the shelf's misses rose; it can't be read only where the shelf's faults rose; a write fails only
-- where the faults of `out` rose.
abbrev pub HasCause : Ending → ℕ → ℕ → ℕ → ℕ → ℕ → ℕ → Type 0
HasCause (Err (v.Load fault)) misses misses_now faults faults_now writes writes_now = l.HasCause fault.cause misses misses_now faults faults_now
HasCause (Err v.WriteFault) misses misses_now faults faults_now writes writes_now = writes < writes_now
HasCause ending misses misses_now faults faults_now writes writes_now = Unit {0}

-- the files that a command has fetched, in order; a sample has its own files
abbrev pub fetched_by : Option Command → List Entry → List Text
fetched_by None files = []
fetched_by (Some (run_command told manifest script)) files = whole_fetched files manifest script
fetched_by (Some (show_command template)) files = template ∷ []
fetched_by (Some (wire_command template)) files = template ∷ []
fetched_by (Some (check_command manifest)) files = app_fetched files manifest
fetched_by (Some (migrate_command file)) files = file ∷ []
fetched_by (Some (sample_command rows)) files = []

-- Over a shelf that tells its files: the line on a file is the output's, where no device and no memory failed; a file that
-- can't be read is one that is fetched, where no step before it refuses.
abbrev pub TellsFile : LoadCause → Text → Output → List Text → Type 0
TellsFile cause.ReadFault file o names = IsAmong file names
TellsFile cause.Memory file o names = Unit {0}
TellsFile c file o names = cause_line file c ≡ message_line o.message

-- the same of each ending
abbrev pub Tells : Ending → Output → List Text → Type 0
Tells (Err (v.Load fault)) o names = TellsFile fault.cause fault.file o names
Tells (Err v.WriteFault) o names = Unit {0}
Tells (Err v.Memory) o names = Unit {0}
Tells ending o names = line_of ending ≡ message_line o.message

-- where no device failed, all is as the output says, but for want of memory
abbrev pub Completes : Status → Option (List ℕ) → Option (List ℕ) → Output → Type 0
Completes s old new o = (s ≡ status.NoMemory) ⊎ ((o.status ≡ s) × Takes old new (bytes_of (joined o.texts)))

-- the ending of a run whose play ended before all was written
abbrev pub play_ending : PlayFault → RunFault
play_ending (play.NestingLimit turn limit) = v.NestingLimit turn limit
play_ending play.WriteFault = v.WriteFault
play_ending play.Memory = v.Memory

-- no wire has the JSON of the file of this name; or memory is wanting
abbrev pub IsBadWire : Text → RunFault → Type 0
IsBadWire name fault = (fault ≡ v.BadWire name) ⊎ (fault ≡ v.Memory)

-- a run that loads nothing has written nothing
abbrev pub Untouched : Ending → Option (List ℕ) → Option (List ℕ) → Type 0
Untouched (Err v.Usage) old new = new ≡ old
Untouched (Err (v.Load fault)) old new = new ≡ old
Untouched (Err (v.BadWire file)) old new = new ≡ old
Untouched ending old new = Unit {0}
