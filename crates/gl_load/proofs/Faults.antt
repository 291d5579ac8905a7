-- The faults of files.
use Rattle.std.proofs.Common.{◌≡◌, ℕ, List, [], ◌∷◌, ◌++◌, Result, Ok, inl, inr, refl, sym, ap, ◌∙◌}
use Rattle.std.specs.Prelude.{⊤}
use Rattle.gl_base.specs.Texts.{Text}
use Rattle.gl_load.specs.Refusal.{Cause, Refusal, ◌>>=◌, in_file}
use Rattle.gl_load.specs.Loads.{Stops, refusal, IsFaultIn, HasCause, IsAmong, FailsAmong}
use Rattle.gl_load.specs.Names.{IsTold, IsToldIn}
use Rattle.gl_load.specs.declared.fault.LoadCause.{LoadCause}
use Rattle.gl_load.specs.declared.fault.LoadCause.TheVariants as v
use Rattle.gl_load.specs.declared.fault.LoadFault.{LoadFault}

stops_in : {X : Type 0} (name : Text) (cause : LoadCause) (out : Result X Cause) → Stops (λ c. c) cause out → Stops (refusal name) cause (in_file name out)
stops_in name v.Absent out h = rw h refl
stops_in name (v.TooLong taken) out h = rw h.0 (refl, h.1)
stops_in name v.BadJson out h = rw h refl
stops_in name (v.BadShape pointer) out h = rw h refl
stops_in name (v.BadExpression pointer) out h = rw h refl
stops_in name (v.NotInGrammar offset) out h = rw h refl
stops_in name (v.UnknownName kind unknown) out h = rw h refl
stops_in name (v.GetterCycle class getter) out h = rw h refl
stops_in name (v.UnknownField index field) out h = rw h refl
stops_in name v.ReadFault out h = tt
stops_in name v.Memory out h = tt

-- the fault of a file stops where the file does
pub fault_stops : {X : Type 0} (name : Text) (cause : LoadCause) (f : LoadFault) (out : Result X Cause) → IsFaultIn name cause f → Stops (λ c. c) cause out → Stops (refusal f.file) f.cause (in_file name out)
fault_stops name cause f out (inl e) h = rw (e.0, e.1) (stops_in name cause out h)
fault_stops name cause f out (inr e) h = rw e tt

pub fault_causes : (name : Text) (cause : LoadCause) (f : LoadFault) (misses misses_now faults faults_now : ℕ) → IsFaultIn name cause f → HasCause cause misses misses_now faults faults_now → HasCause f.cause misses misses_now faults faults_now
fault_causes name cause f misses misses_now faults faults_now (inl e) h = rw e.1 h
fault_causes name cause f misses misses_now faults faults_now (inr e) h = rw e tt

among_one : (cause : LoadCause) (name : Text) → FailsAmong cause name (name ∷ [])
among_one v.Absent name = tt
among_one (v.TooLong taken) name = tt
among_one v.BadJson name = tt
among_one (v.BadShape pointer) name = tt
among_one (v.BadExpression pointer) name = tt
among_one (v.NotInGrammar offset) name = tt
among_one (v.UnknownName kind unknown) name = tt
among_one (v.GetterCycle class getter) name = tt
among_one (v.UnknownField index field) name = tt
among_one v.ReadFault name = inl refl
among_one v.Memory name = tt

pub fault_among : (name : Text) (cause : LoadCause) (f : LoadFault) → IsFaultIn name cause f → FailsAmong f.cause f.file (name ∷ [])
fault_among name cause f (inl e) = rw (e.0, e.1) (among_one cause name)
fault_among name cause f (inr e) = rw e tt

-- what is stopped goes no further
pub stops_then : {X Y : Type 0} (name : Text) (cause : LoadCause) (out : Result X Refusal) (then : X → Result Y Refusal) → Stops (refusal name) cause out → Stops (refusal name) cause (out >>= then)
stops_then name v.Absent out then h = rw h refl
stops_then name (v.TooLong taken) out then h = rw h.0 (refl, h.1)
stops_then name v.BadJson out then h = rw h refl
stops_then name (v.BadShape pointer) out then h = rw h refl
stops_then name (v.BadExpression pointer) out then h = rw h refl
stops_then name (v.NotInGrammar offset) out then h = rw h refl
stops_then name (v.UnknownName kind unknown) out then h = rw h refl
stops_then name (v.GetterCycle class getter) out then h = rw h refl
stops_then name (v.UnknownField index field) out then h = rw h refl
stops_then name v.ReadFault out then h = tt
stops_then name v.Memory out then h = tt

-- among more files
pub among_more : (cause : LoadCause) (name : Text) (ns ms : List Text) → ((n : Text) → IsAmong n ns → IsAmong n ms) → FailsAmong cause name ns → FailsAmong cause name ms
among_more v.Absent name ns ms more h = tt
among_more (v.TooLong taken) name ns ms more h = tt
among_more v.BadJson name ns ms more h = tt
among_more (v.BadShape pointer) name ns ms more h = tt
among_more (v.BadExpression pointer) name ns ms more h = tt
among_more (v.NotInGrammar offset) name ns ms more h = tt
among_more (v.UnknownName kind unknown) name ns ms more h = tt
among_more (v.GetterCycle class getter) name ns ms more h = tt
among_more (v.UnknownField index field) name ns ms more h = tt
among_more v.ReadFault name ns ms more h = more name h
among_more v.Memory name ns ms more h = tt

-- a reading that gave nothing but that it may go on
pub passes : {X E : Type 0} (r : Result ⊤ E) (s t : Result X E) → r ≡ Ok tt → (r >>= λ u. s) ≡ t → s ≡ t
passes r s t e h = sym (ap (λ q. q >>= λ u. s) e) ∙ h

-- what is told is told of what goes on too
pub stays_told : (cause : LoadCause) (out rest : Result ⊤ Cause) → IsTold cause out → IsTold cause (out >>= λ u. rest)
stays_told (v.UnknownName kind name) out rest h = rw h refl
stays_told v.Memory out rest h = tt
stays_told v.Absent out rest h = absurd h
stays_told (v.TooLong taken) out rest h = absurd h
stays_told v.BadJson out rest h = absurd h
stays_told (v.BadShape pointer) out rest h = absurd h
stays_told (v.BadExpression pointer) out rest h = absurd h
stays_told (v.NotInGrammar offset) out rest h = absurd h
stays_told (v.GetterCycle class getter) out rest h = absurd h
stays_told (v.UnknownField index field) out rest h = absurd h
stays_told v.ReadFault out rest h = absurd h

pub stays_told_in : (cause : LoadCause) (file : Text) (out rest : Result ⊤ Refusal) → IsToldIn cause file out → IsToldIn cause file (out >>= λ u. rest)
stays_told_in (v.UnknownName kind name) file out rest h = rw h refl
stays_told_in v.Memory file out rest h = tt
stays_told_in v.Absent file out rest h = absurd h
stays_told_in (v.TooLong taken) file out rest h = absurd h
stays_told_in v.BadJson file out rest h = absurd h
stays_told_in (v.BadShape pointer) file out rest h = absurd h
stays_told_in (v.BadExpression pointer) file out rest h = absurd h
stays_told_in (v.NotInGrammar offset) file out rest h = absurd h
stays_told_in (v.GetterCycle class getter) file out rest h = absurd h
stays_told_in (v.UnknownField index field) file out rest h = absurd h
stays_told_in v.ReadFault file out rest h = absurd h

-- among the files that are fetched
pub in_front : (n : Text) (ns ms : List Text) → IsAmong n ns → IsAmong n (ns ++ ms)
in_front n [] ms h = absurd h
in_front n (x ∷ ns) ms (inl e) = inl e
in_front n (x ∷ ns) ms (inr h) = inr (in_front n ns ms h)

pub behind : (n : Text) (ns ms : List Text) → IsAmong n ms → IsAmong n (ns ++ ms)
behind n [] ms h = h
behind n (x ∷ ns) ms h = inr (behind n ns ms h)
