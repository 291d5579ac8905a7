-- What follows where a file is refused.
use Rattle.std.proofs.Common.{◌≡◌, List, Option, Result, ℕ, refl}
use Rattle.gl_base.specs.Texts.{Text}
use Rattle.gl_base.proofs.Taken.{takes_nothing, some_nothing}
use Rattle.gl_load.specs.Loads.{Stops, refusal, FailsAmong}
use Rattle.gl_load.specs.Refusal.{Refusal}
use Rattle.gl_load.specs.declared.fault.LoadCause.{LoadCause}
use Rattle.gl_load.specs.declared.fault.LoadCause.TheVariants as cause
use Rattle.gl_commands.specs.Output.{Output, output_or, Answers}
use Rattle.gl_commands.specs.Run.{file_status, TellsFile}
use Rattle.gl_commands.specs.declared.status.Status.TheVariants as status

-- nothing is written
pub stopped : (name : Text) (c : LoadCause) (out : Result Output Refusal) (took : Option (List ℕ)) → Stops (refusal name) c out → Answers (file_status c) took took (output_or out)
stopped name cause.Absent out took h = rw h (refl, takes_nothing took)
stopped name (cause.TooLong taken) out took h = rw h.0 (refl, takes_nothing took)
stopped name cause.BadJson out took h = rw h (refl, takes_nothing took)
stopped name (cause.BadShape pointer) out took h = rw h (refl, takes_nothing took)
stopped name (cause.BadExpression pointer) out took h = rw h (refl, takes_nothing took)
stopped name (cause.NotInGrammar offset) out took h = rw h (refl, takes_nothing took)
stopped name (cause.UnknownName kind unknown) out took h = rw h (refl, takes_nothing took)
stopped name (cause.GetterCycle class getter) out took h = rw h (refl, takes_nothing took)
stopped name (cause.UnknownField index field) out took h = rw h (refl, takes_nothing took)
stopped name cause.ReadFault out took h = refl
stopped name cause.Memory out took h = some_nothing took (output_or out).texts

-- and the line is that of the refusal
pub stop_tells : (name : Text) (c : LoadCause) (out : Result Output Refusal) (names : List Text) → Stops (refusal name) c out → FailsAmong c name names → TellsFile c name (output_or out) names
stop_tells name cause.Absent out names h among = rw h refl
stop_tells name (cause.TooLong taken) out names h among = rw h.0 refl
stop_tells name cause.BadJson out names h among = rw h refl
stop_tells name (cause.BadShape pointer) out names h among = rw h refl
stop_tells name (cause.BadExpression pointer) out names h among = rw h refl
stop_tells name (cause.NotInGrammar offset) out names h among = rw h refl
stop_tells name (cause.UnknownName kind unknown) out names h among = rw h refl
stop_tells name (cause.GetterCycle class getter) out names h among = rw h refl
stop_tells name (cause.UnknownField index field) out names h among = rw h refl
stop_tells name cause.ReadFault out names h among = among
stop_tells name cause.Memory out names h among = tt

-- a file that is refused or can't be read is not too deep
pub file_is_not_deep : (c : LoadCause) → file_status c ≡ status.NestingLimit → ⊥
file_is_not_deep cause.ReadFault e = cc
file_is_not_deep cause.Memory e = cc
file_is_not_deep _ e = cc

pub file_is_not_done : (c : LoadCause) → file_status c ≡ status.Done → ⊥
file_is_not_done cause.ReadFault e = cc
file_is_not_done cause.Memory e = cc
file_is_not_done _ e = cc
