-- Where `...attributes` ends.
use Rattle.std.proofs.Common.{◌≡◌, List, [], ◌∷◌, ◌++◌, Some, true, refl, sym, ◌∙◌, ap}
use Rattle.gl_plain.specs.State.{State}
use Rattle.gl_machine.specs.Mach.{Frame as PlainFrame, Here as PlainHere, Mach, Run, going}
use Rattle.gl_machine.specs.Step as s
use Rattle.gl_vm.specs.View.{Tables}
use Rattle.gl_append.specs.MachineView.{seen_frame, seen_frames, seen_here, seen_kind, mach_by}
use Rattle.gl_append.specs.Steps.{GoesBack, PopsCall, EndsParts}
use Rattle.gl_append.specs.declared.machine.Back.{Back}
use Rattle.gl_append.specs.declared.machine.Kind.{Kind}
use Rattle.gl_append.specs.declared.machine.Iteration.{Iteration}
use Rattle.gl_append.proofs.CallEnds.{popped_call}
use Rattle.gl_append.proofs.Frames.{no_calls}
use Rattle.gl_append.specs.declared.machine.Call.{Call}
use Rattle.gl_append.specs.declared.machine.Call.TheVariants as l
use Rattle.gl_append.specs.declared.machine.Kind.TheVariants as k
use Rattle.gl_append.specs.declared.machine.Frame.{Frame}
use Rattle.gl_append.specs.declared.machine.Machine.{Machine}

-- no body is that of parts
kept_kind : (n : Tables) (m : Mach) (fs : List PlainFrame) (h : PlainHere) (x : Kind) (r : Run) → s.kind_parts m fs h (seen_kind n x) r ≡ r
kept_kind n m fs h (k.Element a b c d) r = refl
kept_kind n m fs h (k.Branch a b c) r = refl
kept_kind n m fs h (k.Let a b c) r = refl
kept_kind n m fs h (k.Item a b) r = refl
kept_kind n m fs h (k.Other a b) r = refl
kept_kind n m fs h (k.Component a b c d e) r = refl
kept_kind n m fs h (k.Block a b c d) r = refl

kept_last : (n : Tables) (m : Mach) (fs : List PlainFrame) (x : Frame) (xs : List Frame) (r : Run)
    → let y = s.popped_after (seen_frame n x) (seen_frames n xs) in s.kind_parts m fs y.1.here y.1.kind r ≡ r
kept_last n m fs x [] r = kept_kind n m fs (seen_here n x.here) x.kind r
kept_last n m fs x (y ∷ ys) r = kept_last n m fs y ys r

kept_frames : (n : Tables) (m : Mach) (xs : List Frame) (r : Run) → s.unless_parts m (s.popped (seen_frames n xs)) r ≡ r
kept_frames n m [] r = refl
kept_frames n m (x ∷ xs) r = kept_last n m (s.popped_after (seen_frame n x) (seen_frames n xs)).0 x xs r

-- no call is under way
pub without_calls : (a : Machine) → a.calls.items ≡ [] → (n : Tables) (st : State) (r : Run) → s.unless_parts (mach_by n st a) (s.popped (mach_by n st a).rest.frames) r ≡ r
without_calls a e n st r = ap (λ xs. s.unless_parts (mach_by n st a) (s.popped xs) r) (no_calls n a.here a.calls.items a.frames.items e) ∙ kept_frames n (mach_by n st a) a.frames.items r

-- a getter is under way
pub in_getter_call : (a : Machine) (cs : List Call) (b : Back) → a.calls.items ≡ cs ++ l.Getter b ∷ [] → (n : Tables) (st : State) (r : Run) → s.unless_parts (mach_by n st a) (s.popped (mach_by n st a).rest.frames) r ≡ r
in_getter_call a cs b e n st r = ap (λ o. s.unless_parts (mach_by n st a) o r) (popped_call n (seen_here n a.here) a.frames.items a.calls.items cs (l.Getter b) e)

-- a list is between two of its items
pub in_list_call : (a : Machine) (cs : List Call) (i : Iteration) → a.calls.items ≡ cs ++ l.Each i ∷ [] → (n : Tables) (st : State) (r : Run) → s.unless_parts (mach_by n st a) (s.popped (mach_by n st a).rest.frames) r ≡ r
in_list_call a cs i e n st r = ap (λ o. s.unless_parts (mach_by n st a) o r) (popped_call n (seen_here n a.here) a.frames.items a.calls.items cs (l.Each i) e)

-- parts are under way
pub parts_left : (old mid new : Machine) (b : Back) → PopsCall old mid (Some (l.Parts b)) → GoesBack mid new b → EndsParts old new true
parts_left old mid new b p g n st r =
    ap (λ o. s.unless_parts (mach_by n st old) o r) (popped_call n (seen_here n old.here) old.frames.items old.calls.items mid.calls.items (l.Parts b) p.1)
    ∙ ap (λ (x : Machine). going (mach_by n st x)) (sym (g.is ∙ ap (λ (x : Machine). record x { getter = b.getter; pc = b.pc; sight = b.sight; pending = b.pending }) p.0))
