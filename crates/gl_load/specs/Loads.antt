-- What the calls that load say.
use Rattle.std.specs.Prelude.{◌≡◌, ◌<◌, ◌≤◌, ◌⊎◌, ℕ, List, [], ◌∷◌, Result, Ok, Err}
use Rattle.gl_base.specs.Texts.{Text}
use Rattle.gl_meaning.specs.View.{kind_view}
use Rattle.gl_load.specs.Refusal.{Cause, absent, too_long, not_json, bad_shape, bad_expression, not_in_grammar, unknown_name, getter_cycle, unknown_field, Refusal}
use Rattle.gl_load.specs.declared.fault.LoadCause.{LoadCause}
use Rattle.gl_load.specs.declared.fault.LoadCause.TheVariants as v
use Rattle.gl_load.specs.declared.fault.LoadFault.{LoadFault}

-- so many bytes are taken of a file that is too long
abbrev pub one_too_many : ℕ
one_too_many = 16777217

-- The cause is that of the file, said as `told` says it, alone or with the name of the file. Want of memory and a read fault may come at
-- any point.
abbrev pub Stops : {X E : Type 0} → (Cause → E) → LoadCause → Result X E → Type 0
Stops told v.Absent out = out ≡ Err (told absent)
Stops told (v.TooLong taken) out = (out ≡ Err (told too_long)) × (taken ≡ one_too_many)
Stops told v.BadJson out = out ≡ Err (told not_json)
Stops told (v.BadShape pointer) out = out ≡ Err (told (bad_shape pointer))
Stops told (v.BadExpression pointer) out = out ≡ Err (told (bad_expression pointer))
Stops told (v.NotInGrammar offset) out = out ≡ Err (told (not_in_grammar offset))
Stops told (v.UnknownName kind name) out = out ≡ Err (told (unknown_name (kind_view kind) name))
Stops told (v.GetterCycle class getter) out = out ≡ Err (told (getter_cycle class getter))
Stops told (v.UnknownField index name) out = out ≡ Err (told (unknown_field index name))
Stops told v.ReadFault out = Unit {0}
Stops told v.Memory out = Unit {0}

-- What a call gave of a file, seen by view, is what the file gives.
abbrev pub Gives : {X Y : Type 0} → (X → Y) → Result X LoadCause → Result Y Cause → Type 0
Gives view (Ok x) out = out ≡ Ok (view x)
Gives view (Err cause) out = Stops (λ c. c) cause out

abbrev pub refusal : Text → Cause → Refusal
refusal name cause = record { file = name; cause = cause }

-- What a call loaded, seen by view, is what the files give.
abbrev pub Loads : {X Y : Type 0} → (X → Y) → Result X LoadFault → Result Y Refusal → Type 0
Loads view (Ok x) out = out ≡ Ok (view x)
Loads view (Err fault) out = Stops (refusal fault.file) fault.cause out

-- the fault has the cause, and the file has the name; or memory is wanting
abbrev pub IsFaultIn : Text → LoadCause → LoadFault → Type 0
IsFaultIn name cause fault = ((fault.file ≡ name) × (fault.cause ≡ cause)) ⊎ (fault.cause ≡ v.Memory)

-- a file is absent only where misses rose, and can't be read only where faults rose
abbrev pub HasCause : LoadCause → ℕ → ℕ → ℕ → ℕ → Type 0
HasCause v.Absent misses misses_now faults faults_now = misses < misses_now
HasCause v.ReadFault misses misses_now faults faults_now = faults < faults_now
HasCause _ misses misses_now faults faults_now = Unit {0}

abbrev pub IsAmong : Text → List Text → Type 0
IsAmong name [] = ⊥
IsAmong name (n ∷ ns) = (name ≡ n) ⊎ IsAmong name ns

-- a file that can't be read is one of these
abbrev pub FailsAmong : LoadCause → Text → List Text → Type 0
FailsAmong v.ReadFault name names = IsAmong name names
FailsAmong _ name names = Unit {0}
