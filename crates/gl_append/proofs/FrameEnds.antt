-- A frame that was popped is closed, or the run is over.
use Rattle.std.proofs.Common.{◌≡◌, List, Option, Some, None, refl, sym, ◌∙◌, ap}
use Rattle.gl_plain.specs.State.{State}
use Rattle.gl_machine.specs.Mach.{Frame as PlainFrame, Here as PlainHere, Kind as PlainKind, Mach, Run, going, finished}
use Rattle.gl_machine.specs.Step as s
use Rattle.gl_vm.specs.View.{Tables, state_of}
use Rattle.gl_vm.specs.declared.vm.Vm.{Vm}
use Rattle.gl_append.specs.MachineView.{seen_here, seen_kind, mach_by}
use Rattle.gl_append.specs.Steps.{Moves, Takes, PopsFrame, EndsFrame, MovesFrame, PopsCall, GoesBack}
use Rattle.gl_append.specs.Stepping.{Stepped}
use Rattle.gl_append.specs.declared.machine.Back.{Back}
use Rattle.gl_append.specs.declared.machine.Call.TheVariants as l
use Rattle.gl_append.specs.declared.step.Next.TheVariants as next
use Rattle.gl_append.specs.declared.machine.Frame.{Frame}
use Rattle.gl_append.specs.declared.machine.Machine.{Machine}
use Rattle.gl_append.proofs.FramesFree.{Free}
use Rattle.gl_append.proofs.CallEnds.{popped_call}

-- `end` says what is done where there is no frame
closed_by : (end : Mach → Option (List PlainFrame × PlainFrame) → (Mach → List PlainFrame → PlainHere → PlainKind → Run) → Run) (f : Mach → List PlainFrame → PlainHere → PlainKind → Run) (old mid : Machine) (x : Frame)
    → ((m : Mach) (y : List PlainFrame × PlainFrame) → end m (Some y) f ≡ f m y.0 y.1.here y.1.kind) → Free f → PopsFrame old mid (Some x)
    → (n : Tables) (st : State) → end (mach_by n st old) (s.popped (mach_by n st old).rest.frames) f ≡ f (mach_by n st mid) (mach_by n st mid).rest.frames (seen_here n x.here) (seen_kind n x.kind)
closed_by end f old mid x is free p n st =
    ap (λ o. end (mach_by n st old) o f) (p.2 n st)
    ∙ (is (mach_by n st old) ((mach_by n st mid).rest.frames, record { here = seen_here n x.here; kind = seen_kind n x.kind })
    ∙ (sym (free (mach_by n st old) (mach_by n st mid).rest.frames (mach_by n st mid).rest.frames (seen_here n x.here) (seen_kind n x.kind))
    ∙ ap (λ m. f m (mach_by n st mid).rest.frames (seen_here n x.here) (seen_kind n x.kind)) (sym (p.3 n st))))

pub moves_ended : (f : Mach → List PlainFrame → PlainHere → PlainKind → Run) (old mid new : Machine) (x : Frame) → Free f → PopsFrame old mid (Some x) → MovesFrame (λ n. f) mid x new → Moves (λ n m. s.with_end m f) old new
moves_ended f old mid new x free p e n st = closed_by s.ended_by f old mid x (λ m y. refl) free p n st ∙ e n st

pub takes_ended : (f : Tables → Mach → List PlainFrame → PlainHere → PlainKind → Run) (vm vm' : Vm) (old mid new : Machine) (x : Frame) → ((n : Tables) → Free (f n)) → PopsFrame old mid (Some x) → EndsFrame f vm mid x vm' new
    → Takes (λ n m. s.with_end m (f n)) vm old vm' new
takes_ended f vm vm' old mid new x free p e n u a =
    let y = e n u a in record { state = y.state; follows = y.follows; goes = closed_by s.ended_by (f n) old mid x (λ m y. refl) (free n) p n (state_of n vm u) ∙ y.goes }

pub over_ended : (f : Mach → List PlainFrame → PlainHere → PlainKind → Run) (old new : Machine) → PopsFrame old new None → (n : Tables) (st : State) → s.with_end (mach_by n st old) f ≡ finished (mach_by n st new)
over_ended f old new p n st = ap (λ o. s.ended_by (mach_by n st old) o f) (p.1 n st) ∙ ap finished (sym (p.2 n st))

-- a getter is left
pub getter_left : (old mid new : Machine) (b : Back) → PopsCall old mid (Some (l.Getter b)) → GoesBack mid new b → Moves (λ n m. s.with_end m s.do_done) old new
getter_left old mid new b p g n st =
    ap (λ o. s.ended_by (mach_by n st old) o s.do_done) (popped_call n (seen_here n old.here) old.frames.items old.calls.items mid.calls.items (l.Getter b) p.1)
    ∙ ap (λ (x : Machine). going (mach_by n st x)) (sym (g.is ∙ ap (λ (x : Machine). record x { getter = b.getter; pc = b.pc; sight = b.sight; pending = b.pending }) p.0))

pub moved_in : (n : Tables) (f : Mach → Run) (vm : Vm) (old new : Machine) → Moves (λ n. f) old new → Stepped n f vm old vm new next.Going
moved_in n f vm old new m = λ u a. record { state = state_of n vm u; follows = record { state = refl; agrees = a }; goes = m n (state_of n vm u) }
