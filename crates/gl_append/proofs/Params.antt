-- Parameters that take a reference that is there, or a new one.
use Rattle.std.proofs.Common.{◌≡◌, ℕ, suc, List, [], ◌∷◌, ◌++◌, Some, sym, ◌∙◌, ap, ap₂}
use Rattle.std.proofs.lemmas.List.{map-append}
use Rattle.std.specs.declared.vec.Vec.{Vec}
use Rattle.std.specs.declared.alloc.Global.{Global}
use Rattle.gl_arena.specs.Id.{Id}
use Rattle.gl_value.specs.Value.{undefined}
use Rattle.gl_plain.specs.Ids.{a_ref, ref}
use Rattle.gl_plain.specs.State.{constant_form, State}
use Rattle.gl_plain.specs.Binding.{made_row}
use Rattle.gl_machine.specs.Sight.{with_locals}
use Rattle.gl_machine.specs.Mach.{Frame as PlainFrame, Mach, Run, going, go}
use Rattle.gl_machine.specs.Step as s
use Rattle.gl_vm.specs.View.{Tables, stamps, state_of}
use Rattle.gl_vm.specs.Steps.{Does, Numbers}
use Rattle.gl_vm.specs.declared.vm.Vm.{Vm}
use Rattle.gl_append.specs.MachineView.{seen_here, seen_kind, seen_frame, seen_frames, seen_calls, mach_by, mach_of}
use Rattle.gl_append.specs.Steps.{Changes, Takes, PopsFrame, KeepsMade}
use Rattle.gl_append.specs.declared.machine.Frame.{Frame}
use Rattle.gl_append.specs.declared.machine.Machine.{Machine}
use Rattle.gl_append.proofs.Frames.{no_calls}

pub kept_made : (old mid : Machine) (f g : Frame) (id : Id) (frames : Vec Frame Global) → PopsFrame old mid (Some f) → frames.items ≡ mid.frames.items ++ g ∷ [] → g.here ≡ f.here
    → ((n : Tables) → seen_kind n g.kind ≡ s.with_made (ref id.1) (seen_kind n f.kind)) → KeepsMade old (record mid { frames = frames }) id
kept_made old mid f g id frames p e h k n st =
    let none : mid.calls.items ≡ [] = ap (λ c. c.items) p.1 ∙ p.0 in
    let front : (mach_by n st mid).rest.frames ≡ seen_frames n mid.frames.items = no_calls n mid.here mid.calls.items mid.frames.items none in
    let last : seen_frame n g ≡ record { here = seen_here n f.here; kind = s.with_made (ref id.1) (seen_kind n f.kind) }
    = ap₂ (λ y z. record { here = seen_here n y; kind = z }) h (k n) in
    let whole : seen_frames n frames.items ++ seen_calls n (seen_here n mid.here) mid.calls.items ≡ (mach_by n st mid).rest.frames ++ record { here = seen_here n f.here; kind = s.with_made (ref id.1) (seen_kind n f.kind) } ∷ []
    = no_calls n mid.here mid.calls.items frames.items none
    ∙ (ap (λ xs. seen_frames n xs) e ∙ (map-append (seen_frame n) mid.frames.items (g ∷ []) ∙ ap₂ (λ xs x. xs ++ x ∷ []) (sym front) last)) in (
      ((mach_by n st mid).rest.frames, seen_frame n f),
      p.2 n st,
      ap (λ fs. record (mach_by n st mid) { rest = record (mach_by n st mid).rest { frames = fs } }) whole
          ∙ ap (λ (m : Mach). record m { rest = record m.rest { frames = (mach_by n st mid).rest.frames ++ record { here = seen_here n f.here; kind = s.with_made (ref id.1) (seen_kind n f.kind) } ∷ [] } }) (p.3 n st),
    )

-- a parameter beyond the values that were given
pub param_made : (symbol : ℕ) (vm vm' : Vm) (old mid new : Machine) (id : Id) → stamps old.pending ≡ [] → Does (λ n. made_row (constant_form undefined)) vm vm' → Numbers vm.refs.rows vm'.refs.rows id → KeepsMade old mid id
    → Changes (λ n m. record m { pc = suc m.pc; rest = record m.rest { sight = with_locals ((symbol, id.1) ∷ []) m.rest.sight } }) mid new
    → Takes (λ n m. s.do_bind symbol m m.rest.pending) vm old vm' new
param_made symbol vm vm' old mid new id e d i k l n t a =
    let st : State = made_row (constant_form undefined) (state_of n vm t) in
    let m = mach_by n st old in
    let g : List PlainFrame × PlainFrame → ℕ → Run
    = λ f r. go st m.stack m.made (suc m.pc) (record m.rest { sight = with_locals ((symbol, r) ∷ []) m.rest.sight; frames = f.0 ++ record { here = f.1.here; kind = s.with_made (ref r) f.1.kind } ∷ [] }) in
    let x = k n st in
    record {
      state = st;
      follows = d n t a;
      goes = ap (λ rs. s.do_bind symbol (mach_of n t vm old) rs) e
          ∙ (ap (λ o. s.given o (λ f. g f ((state_of n vm t).next a_ref))) x.1
          ∙ (ap (λ r. g x.0 r) (sym i.stamp)
          ∙ ap going (ap (λ (y : Mach). record y { pc = suc y.pc; rest = record y.rest { sight = with_locals ((symbol, id.1) ∷ []) y.rest.sight } }) (sym x.2) ∙ l n st)));
    }
