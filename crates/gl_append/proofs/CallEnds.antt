-- The last call that is taken.
use Rattle.std.proofs.Common.{◌≡◌, List, [], ◌∷◌, ◌++◌, Option, Some, refl, sym, ◌∙◌, ap, append_assoc}
use Rattle.std.proofs.lemmas.List.{map-append}
use Rattle.gl_plain.specs.State.{State}
use Rattle.gl_machine.specs.Mach.{Frame as PlainFrame, Here as PlainHere, Kind as PlainKind, Mach, Run}
use Rattle.gl_machine.specs.Step as s
use Rattle.gl_machine.proofs.Stacks.{popped-last}
use Rattle.gl_vm.specs.View.{Tables, state_of}
use Rattle.gl_vm.specs.declared.vm.Vm.{Vm}
use Rattle.gl_append.specs.MachineView.{seen_here, seen_frames, seen_call, seen_calls, call_kind, mach_by}
use Rattle.gl_append.specs.Steps.{Moves, Takes, EndsCall, PopsCall}
use Rattle.gl_append.specs.declared.machine.Call.{Call}
use Rattle.gl_append.specs.declared.machine.Frame.{Frame}
use Rattle.gl_append.specs.declared.machine.Machine.{Machine}
use Rattle.gl_append.proofs.LetEnds.{with_frames}

-- the last call is the last of all frames
pub popped_call : (n : Tables) (h : PlainHere) (fs : List Frame) (cs ds : List Call) (c : Call) → cs ≡ ds ++ c ∷ []
    → s.popped (seen_frames n fs ++ seen_calls n h cs) ≡ Some (seen_frames n fs ++ seen_calls n h ds, seen_call n h c)
popped_call n h fs cs ds c e =
    ap (λ xs. s.popped (seen_frames n fs ++ seen_calls n h xs)) e
    ∙ (ap (λ xs. s.popped (seen_frames n fs ++ xs)) (map-append (seen_call n h) ds (c ∷ []))
    ∙ (ap s.popped (sym (append_assoc (seen_frames n fs) (seen_calls n h ds) (seen_call n h c ∷ []))) ∙ popped-last (seen_frames n fs ++ seen_calls n h ds) (seen_call n h c)))

-- What goes on with a call that was taken doesn't look at the frames.
abbrev pub Free : (Mach → List PlainFrame → PlainHere → PlainKind → Run) → Type 0
Free f = (n : Tables) (m : Mach) (xs fs : List PlainFrame) (h : PlainHere) (c : Call) → f (with_frames xs m) fs h (call_kind n c) ≡ f m fs h (call_kind n c)

-- what is gone on with, where there is a last call
called : (g : Mach → Option (List PlainFrame × PlainFrame) → (Mach → List PlainFrame → PlainHere → PlainKind → Run) → Run)
    → ((m : Mach) (x : List PlainFrame × PlainFrame) (f : Mach → List PlainFrame → PlainHere → PlainKind → Run) → g m (Some x) f ≡ f m x.0 x.1.here x.1.kind)
    → (f : Mach → List PlainFrame → PlainHere → PlainKind → Run) (n : Tables) (st : State) (old mid : Machine) (c : Call) → Free f → PopsCall old mid (Some c)
    → g (mach_by n st old) (s.popped (mach_by n st old).rest.frames) f ≡ f (mach_by n st mid) (mach_by n st mid).rest.frames (seen_here n mid.here) (call_kind n c)
called g is f n st old mid c free p =
    let m = mach_by n st old in
    let h = seen_here n old.here in
    let fs = seen_frames n old.frames.items ++ seen_calls n h mid.calls.items in
    ap (λ o. g m o f) (popped_call n h old.frames.items old.calls.items mid.calls.items c p.1)
    ∙ (is m (fs, seen_call n h c) f
    ∙ (sym (free n m fs fs h c) ∙ ap (λ (x : Machine). f (mach_by n st x) (mach_by n st x).rest.frames (seen_here n x.here) (call_kind n c)) (sym p.0)))

pub called_top : (f : Tables → Mach → List PlainFrame → PlainHere → PlainKind → Run) (vm vm' : Vm) (old mid new : Machine) (c : Call) → ((n : Tables) → Free (f n)) → PopsCall old mid (Some c)
    → EndsCall f vm mid c vm' new → Takes (λ n m. s.with_top m (f n)) vm old vm' new
called_top f vm vm' old mid new c free p e n t a =
    let w = e n t a in
    record {
      state = w.state;
      follows = w.follows;
      goes = called (λ m o k. s.given o (λ x. k m x.0 x.1.here x.1.kind)) (λ m x k. refl) (f n) n (state_of n vm t) old mid c (free n) p ∙ w.goes;
    }

pub called_end : (f : Mach → List PlainFrame → PlainHere → PlainKind → Run) (old mid new : Machine) (c : Call) → Free f → PopsCall old mid (Some c) → Moves (λ n k. f k k.rest.frames k.rest.here (call_kind n c)) mid new
    → Moves (λ n k. s.with_end k f) old new
called_end f old mid new c free p e n st = called s.ended_by (λ m x k. refl) f n st old mid c free p ∙ e n st
