-- What a played session, and what the words, put out.
use Rattle.std.proofs.Common.{◌≡◌, ◌<◌, inl, inr, ℕ, List, [], ◌∷◌, Some, None, Ok, Err, Result, Option, refl, sym, subst, append-nil}
use Rattle.std.specs.Prelude.{OnOk, OnErr, IsErrOf}
use Rattle.gl_base.specs.Texts.{Text, bytes_of}
use Rattle.gl_base.specs.Taking.{Takes, TakesFront, TakesSome}
use Rattle.gl_base.proofs.Taken.{some_nothing}
use Rattle.gl_outside.specs.Shelf.{Entry}
use Rattle.gl_load.specs.Loads.{Loads, FailsAmong}
use Rattle.gl_load.specs.Refusal.{Refusal, ◌>>=◌}
use Rattle.gl_load.specs.declared.fault.LoadFault.{LoadFault}
use Rattle.gl_load.proofs.Faults.{stops_then}
use Rattle.gl_commands.specs.Command.{Command, command_of}
use Rattle.gl_commands.specs.Plays.{Puts, Plays, PlayFails}
use Rattle.gl_commands.specs.Output.{Output, message_line, stopped_at, written, outcome_of, output_or, command_output, output_of, Writes, Answers}
use Rattle.gl_commands.specs.Run.{Ending, status_of, fetched_by, play_ending, Completes, Tells, HasCause, Untouched}
use Rattle.gl_commands.specs.declared.ending.RunFault.TheVariants as run
use Rattle.gl_commands.specs.declared.fault.PlayFault.{PlayFault}
use Rattle.gl_commands.specs.declared.fault.PlayFault.TheVariants as play
use Rattle.gl_commands.specs.declared.status.Status.{Status}
use Rattle.gl_commands.specs.declared.status.Status.TheVariants as status
use Rattle.gl_commands.proofs.Files.{stopped, stop_tells, file_is_not_done}

-- a session that is played writes, stopped or not
pub played_writes : (limit : ℕ) (o : Option ℕ) (texts : List Text) → Writes (stopped_at limit o texts).status
played_writes limit None texts = tt
played_writes limit (Some turn) texts = tt

-- one that goes to its end says nothing on `err`
pub done_silent : (limit : ℕ) (o : Option ℕ) (texts : List Text) → (stopped_at limit o texts).status ≡ status.Done → [] ≡ message_line (stopped_at limit o texts).message
done_silent limit None texts is = refl
done_silent limit (Some turn) texts is = absurd cc

-- what is left of an output whose play ended early
pub part_written : (e : PlayFault) (old new : Option (List ℕ)) (o : Output) → Writes o.status → PlayFails e old new o → Answers (status_of (Err (play_ending e))) old new o
part_written (play.NestingLimit turn limit) old new o w p = (p.0, p.2)
part_written play.WriteFault old new o w p = (w, p)
part_written play.Memory old new o w p = p

-- and its line
pub part_tells : (e : PlayFault) (old new : Option (List ℕ)) (o : Output) (names : List Text) → PlayFails e old new o → Tells (Err (play_ending e)) o names
part_tells (play.NestingLimit turn limit) old new o names p = rw p.1 refl
part_tells play.WriteFault old new o names p = tt
part_tells play.Memory old new o names p = tt

-- and its cause
pub part_causes : (e : PlayFault) (misses faults writes writes_now : ℕ) → (e ≡ play.WriteFault → writes < writes_now) → HasCause (Err (play_ending e)) misses misses faults faults writes writes_now
part_causes (play.NestingLimit turn limit) misses faults writes writes_now h = tt
part_causes play.WriteFault misses faults writes writes_now h = h refl
part_causes play.Memory misses faults writes writes_now h = tt

pub part_untouched : (e : PlayFault) (old new : Option (List ℕ)) → Untouched (Err (play_ending e)) old new
part_untouched (play.NestingLimit turn limit) old new = tt
part_untouched play.WriteFault old new = tt
part_untouched play.Memory old new = tt

pub part_of_command : (e : PlayFault) → IsErrOf {T = Unit {0}} (Err (play_ending e)) run.Usage → ⊥
part_of_command (play.NestingLimit turn limit) is = cc
part_of_command play.WriteFault is = cc
part_of_command play.Memory is = cc

-- a text that is written is no session
pub never_deep : (e : PlayFault) (old new : Option (List ℕ)) (texts : List Text) → PlayFails e old new (written texts) → status_of (Err (play_ending e)) ≡ status.NestingLimit → ⊥
never_deep (play.NestingLimit turn limit) old new texts p is = let differs = p.0 in cc
never_deep play.WriteFault old new texts p is = cc
never_deep play.Memory old new texts p is = cc

-- one text, in one put
pub puts_one : {X : Type 0} (r : Result X PlayFault) (old new : Option (List ℕ)) (t : Text) → Puts r old new t → Plays r old new (written (t ∷ []))
puts_one (Ok x) old new t p = (refl, subst (λ z. Takes old new (bytes_of z)) (sym (append-nil t)) p)
puts_one (Err (play.NestingLimit turn limit)) old new t p = absurd p
puts_one (Err play.WriteFault) old new t p = subst (λ z. TakesFront old new (bytes_of z)) (sym (append-nil t)) p
puts_one (Err play.Memory) old new t p = subst (λ z. TakesSome old z (t ∷ [])) (sym p) (some_nothing old (t ∷ []))

-- what is done with what is loaded
pub loaded_then : {A : Type 0} (f : A → Output) (x : A) (loaded : Result A Refusal) → loaded ≡ Ok x → output_or (loaded >>= λ y. Ok (f y)) ≡ f x
loaded_then f x loaded is = rw is refl

-- the words are a command, or none
pub command_says : (words : List Text) (files : List Entry) (c : Command) → command_of words ≡ Some c → output_of words files ≡ output_or (outcome_of c files)
unfolding output_of
command_says words files c e = rw e refl

pub usage_output : (words : List Text) (files : List Entry) → command_of words ≡ None → output_of words files ≡ command_output None files
unfolding output_of
usage_output words files e = rw e refl

pub command_fetches : (words : List Text) (files : List Entry) (c : Command) → command_of words ≡ Some c → fetched_by (command_of words) files ≡ fetched_by (Some c) files
command_fetches words files c e = rw e refl

-- where no device failed, the output is complete
pub completes : (s : Status) (old new : Option (List ℕ)) (o : Output) → Answers s old new o → (s ≡ status.ReadFault → ⊥) → (s ≡ status.WriteFault → ⊥) → Completes s old new o
completes status.Done old new o p read write = inr p
completes status.NestingLimit old new o p read write = inr p
completes status.Usage old new o p read write = inr p
completes status.Refused old new o p read write = inr p
completes status.ReadFault old new o p read write = absurd (read refl)
completes status.WriteFault old new o p read write = absurd (write refl)
completes status.NoMemory old new o p read write = inl refl

-- a load that fails is told by its line
pub load_tells : {X Y : Type 0} (view : X → Y) (f : LoadFault) (loaded : Result Y Refusal) (g : Y → Output) (names : List Text) → Loads view (Err f) loaded → FailsAmong f.cause f.file names → Tells (Err (run.Load f)) (output_or (loaded >>= λ y. Ok (g y))) names
load_tells view f loaded g names is among = stop_tells f.file f.cause _ names (stops_then f.file f.cause loaded (λ y. Ok (g y)) is) among

-- and nothing is written
pub load_stops : {X Y : Type 0} (view : X → Y) (f : LoadFault) (loaded : Result Y Refusal) (g : Y → Output) (took : Option (List ℕ)) → Loads view (Err f) loaded → Answers (status_of (Err (run.Load f))) took took (output_or (loaded >>= λ y. Ok (g y)))
load_stops view f loaded g took is = stopped f.file f.cause _ took (stops_then f.file f.cause loaded (λ y. Ok (g y)) is)

-- only a whole run is done
pub done_is_whole : (e : Ending) → status_of e ≡ status.Done → e ≡ Ok tt
done_is_whole (Ok x) is = refl
done_is_whole (Err run.Usage) is = absurd cc
done_is_whole (Err (run.Load fault)) is = absurd (file_is_not_done fault.cause is)
done_is_whole (Err (run.BadWire file)) is = absurd cc
done_is_whole (Err (run.NestingLimit turn limit)) is = absurd cc
done_is_whole (Err run.WriteFault) is = absurd cc
done_is_whole (Err run.Memory) is = absurd cc

pub unless_done : {A : Type 0} (e : Ending) → OnErr e A → (status_of e ≡ status.Done → ⊥) → A
unless_done (Ok x) h never = absurd (never refl)
unless_done (Err f) h never = h

pub where_done : {A : Type 0} (e : Ending) → OnOk e A → status_of e ≡ status.Done → A
where_done e h is = rw (done_is_whole e is) at h

pub nothing_held : (e : Ending) → OnOk e (Unit {0})
nothing_held (Ok x) = tt
nothing_held (Err f) = tt

pub left_alone : {A : Type 0} (e : Ending) → A → OnErr e A
left_alone (Ok x) h = tt
left_alone (Err f) h = h
