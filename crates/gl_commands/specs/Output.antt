-- What the program writes, and how it ends.
use Rattle.std.specs.Prelude.{◌≡◌, ℕ, List, [], ◌∷◌, ◌++◌, codes, decimal, length, map, Option, Some, None, Result, Ok, Err}
use Rattle.gl_base.specs.Texts.{Text, bytes_of, joined}
use Rattle.gl_base.specs.Taking.{Takes, TakesFront, TakesSome}
use Rattle.gl_value.specs.Quote.{quoted}
use Rattle.gl_outside.specs.Shelf.{Entry}
use Rattle.gl_wire.specs.Json.{wire_text}
use Rattle.gl_wire.specs.Wire.{Wire}
use Rattle.gl_wire.specs.WireOf.{wire_of}
use Rattle.gl_wirein.specs.Answer.{wire_in}
use Rattle.gl_ast.specs.Canon.{canonical}
use Rattle.gl_ast.specs.Template.{Body}
use Rattle.gl_commands.specs.Command.{Command, run_command, show_command, wire_command, check_command, migrate_command, sample_command, command_of}
use Rattle.gl_load.specs.Refusal.{Cause, absent, too_long, not_json, bad_shape, bad_expression, not_in_grammar, unknown_name, getter_cycle, unknown_field, Refusal, ◌>>=◌}
use Rattle.gl_meaning.specs.Known.{Kind, component_kind, helper_kind, modifier_kind, member_kind, local_kind, field_kind}
use Rattle.gl_meaning.specs.Manifest.{app_of}
use Rattle.gl_meaning.specs.App.{App, Event}
use Rattle.gl_meaning.specs.Session.{Turn, Session, session}
use Rattle.gl_load.specs.Load.{Parts, Whole, app_in, whole_in}
use Rattle.gl_commands.specs.Load.{tree_in, json_in}
use Rattle.gl_commands.specs.Sample.{sample_whole, sample_line}
use Rattle.gl_commands.specs.Told.{told_texts}
use Rattle.gl_commands.specs.declared.told.Told.{Told}
use Rattle.gl_commands.specs.declared.status.Status.{Status}
use Rattle.gl_commands.specs.declared.status.Status.TheVariants as status

-- what the line on `err` tells: nothing, that the words are no command, a refusal, that no wire has the JSON of a file, or the turn that
-- components nest too deep for, with the limit
pub data Message : Type 0 where
  no_message : Message
  no_command : Message
  refused : Refusal → Message
  bad_wire : Text → Message
  too_deep : ℕ → ℕ → Message

-- the texts that `out` gets, what the line on `err` tells, and the status
pub record Output : Type 0 where
  pub texts : List Text
  pub message : Message
  pub status : Status

-- what is the matter with a file
abbrev pub file_line : Text → Text → Text
file_line file matter = quoted file ++ matter

abbrev pub absent_line : Text → Text
absent_line file = file_line file (codes ": absent\n")

abbrev pub too_long_line : Text → Text
too_long_line file = file_line file (codes ": longer than 16777216 bytes\n")

-- no wire has the JSON of the file
abbrev pub wire_refusal : Text → Text
wire_refusal file = file_line file (codes ": bad wire\n")

-- the byte is counted from 0
abbrev pub grammar_line : Text → ℕ → Text
grammar_line file byte = file_line file (codes ": not in the grammar at byte " ++ (decimal byte ++ codes "\n"))

-- turns are counted from 0
abbrev pub limit_line : ℕ → ℕ → Text
limit_line turn limit = codes "turn " ++ (decimal turn ++ (codes ": nesting limit " ++ (decimal limit ++ codes "\n")))

abbrev pub usage_line : Text
usage_line = codes "bad command line\n"

-- the pointer is quoted
abbrev pub shape_line : Text → Text → Text
shape_line file pointer = quoted file ++ (codes ": bad shape at " ++ (quoted pointer ++ codes "\n"))

abbrev pub expression_line : Text → Text → Text
expression_line file pointer = quoted file ++ (codes ": bad expression at " ++ (quoted pointer ++ codes "\n"))

-- what is the matter with a file in which a name is not known, by the kind of the name
abbrev pub unknown_matter : Kind → Text
unknown_matter component_kind = codes ": unknown component "
unknown_matter helper_kind = codes ": unknown helper "
unknown_matter modifier_kind = codes ": unknown modifier "
unknown_matter member_kind = codes ": unknown member "
unknown_matter local_kind = codes ": unknown local "
unknown_matter field_kind = codes ": unknown field "

-- the name is quoted
abbrev pub unknown_line : Text → Kind → Text → Text
unknown_line file kind name = quoted file ++ (unknown_matter kind ++ (quoted name ++ codes "\n"))

-- the names of a class and of a getter are not quoted: they have no other characters than letters, digits and a few signs
abbrev pub cycle_line : Text → Text → Text → Text
cycle_line file class getter = (quoted file ++ codes ": getter cycle through ") ++ (class ++ (codes "." ++ (getter ++ codes "\n")))

-- events are counted from 0
abbrev pub field_line : Text → ℕ → Text → Text
field_line file index name = (quoted file ++ codes ": event ") ++ (decimal index ++ (codes ": unknown field " ++ (quoted name ++ codes "\n")))

-- the line of a file that is refused
abbrev pub refusal_line : Text → Cause → Text
refusal_line file absent = absent_line file
refusal_line file too_long = too_long_line file
refusal_line file not_json = file_line file (codes ": not JSON\n")
refusal_line file (bad_shape pointer) = shape_line file pointer
refusal_line file (bad_expression pointer) = expression_line file pointer
refusal_line file (not_in_grammar byte) = grammar_line file byte
refusal_line file (unknown_name kind name) = unknown_line file kind name
refusal_line file (getter_cycle class getter) = cycle_line file class getter
refusal_line file (unknown_field index name) = field_line file index name

-- the line of a message
abbrev pub message_line : Message → Text
message_line no_message = []
message_line no_command = usage_line
message_line (refused r) = refusal_line r.file r.cause
message_line (bad_wire file) = wire_refusal file
message_line (too_deep turn limit) = limit_line turn limit

-- the canonical spelling and a line feed
abbrev pub shown_text : Body → Text
shown_text tree = canonical tree ++ codes "\n"

-- the text of the JSON of the wire in version 2, and a line feed
abbrev pub wire_line : Body → Text
wire_line tree = wire_text (wire_of tree) ++ codes "\n"

-- how many classes there are, and a line feed
abbrev pub classes_line : Parts → Text
classes_line parts = codes "classes " ++ (decimal (length parts.manifest.classes) ++ codes "\n")

-- all is written
abbrev pub written : List Text → Output
written texts = record { texts = texts; message = no_message; status = status.Done }

-- the text of the JSON of a wire in version 2, and a line feed; where no wire was found the file is refused
abbrev pub migrated : Text → Option Wire → Output
migrated file None = record { texts = []; message = bad_wire file; status = status.Refused }
migrated file (Some w) = written ((wire_text w ++ codes "\n") ∷ [])

-- the texts, and where the session stopped at a turn its line
abbrev pub stopped_at : ℕ → Option ℕ → List Text → Output
stopped_at limit None texts = written texts
stopped_at limit (Some turn) texts = record { texts = texts; message = too_deep turn limit; status = status.NestingLimit }

-- a session that is played: what is told of its turns
abbrev pub played : Told → ℕ → Session → Output
played told limit s = stopped_at limit s.stopped (told_texts told s.turns)

-- the session of an application over some events
abbrev pub played_app : Told → App → List Event → Output
played_app told app events = played told app.limit (session app events)

-- the texts in one line; where the session stopped at a turn nothing but its line on `err`
abbrev pub summed_at : ℕ → Option ℕ → List Text → Output
summed_at limit None texts = written (sample_line texts ∷ [])
summed_at limit (Some turn) texts = record { texts = []; message = too_deep turn limit; status = status.NestingLimit }

abbrev pub turn_texts : List Turn → List Text
turn_texts turns = map (λ t. t.text) turns

-- a session that is played, of which the sums are written
abbrev pub summed : ℕ → Session → Output
summed limit s = summed_at limit s.stopped (turn_texts s.turns)

abbrev pub summed_app : App → List Event → Output
summed_app app events = summed app.limit (session app events)

abbrev pub app_in_whole : Whole → App
app_in_whole whole = app_of whole.parts.manifest whole.parts.templates

-- What a command gives, where nothing is refused: `run` and `work` a text for each turn, the others one text. `check` loads no script, and
-- `sample` looks at no file but its own.
abbrev pub outcome_of : Command → List Entry → Result Output Refusal
outcome_of (run_command told manifest script) files = whole_in files manifest script >>= λ whole. Ok (played_app told (app_in_whole whole) whole.events)
outcome_of (show_command template) files = tree_in files template >>= λ tree. Ok (written (shown_text tree ∷ []))
outcome_of (wire_command template) files = tree_in files template >>= λ tree. Ok (written (wire_line tree ∷ []))
outcome_of (check_command manifest) files = app_in files manifest >>= λ parts. Ok (written (classes_line parts ∷ []))
outcome_of (migrate_command file) files = json_in files file >>= λ d. Ok (migrated file (wire_in d))
outcome_of (sample_command rows) files = sample_whole rows >>= λ whole. Ok (summed_app (app_in_whole whole) whole.events)

-- where a command is refused, nothing is written
abbrev pub output_or : Result Output Refusal → Output
output_or (Err r) = record { texts = []; message = refused r; status = status.Refused }
output_or (Ok o) = o

abbrev pub command_output : Option Command → List Entry → Output
command_output None files = record { texts = []; message = no_command; status = status.Usage }
command_output (Some c) files = output_or (outcome_of c files)

-- The output of the words over the files: where they are no command nothing is written, and else what the command says.
unfoldable pub output_of : List Text → List Entry → Output
output_of words files = command_output (command_of words) files

-- nothing is refused, so that something is written
abbrev pub Writes : Status → Type 0
Writes status.Done = Unit {0}
Writes status.NestingLimit = Unit {0}
Writes _ = ⊥

-- What a call that ended with this status left in `out`, where o is the output of its words over its files. With a status that
-- no fault made, it is o's, and all of o's texts were taken; at the nesting limit these are the texts of the turns before. After a
-- write fault a front of them was taken, after want of memory some of the first texts, each whole; after a read fault nothing.
abbrev pub Answers : Status → Option (List ℕ) → Option (List ℕ) → Output → Type 0
Answers status.ReadFault old new o = new ≡ old
Answers status.WriteFault old new o = Writes o.status × TakesFront old new (bytes_of (joined o.texts))
Answers status.NoMemory old new o = TakesSome old new o.texts
Answers s old new o = (o.status ≡ s) × Takes old new (bytes_of (joined o.texts))
