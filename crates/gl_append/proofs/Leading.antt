-- What is kept, step by step.
use Rattle.std.proofs.Common.{◌≡◌, ◌∙◌, subst}
use Rattle.gl_plain.specs.State.{State}
use Rattle.gl_machine.specs.Mach.{Mach, Run}
use Rattle.gl_vm.specs.View.{Tables, state_of}
use Rattle.gl_vm.specs.declared.vm.Vm.{Vm}
use Rattle.gl_append.specs.MachineView.{mach_by}
use Rattle.gl_append.specs.Steps.{GoesOn, Takes}
use Rattle.gl_parts.specs.Parts.{Leads}
use Rattle.gl_append.specs.declared.machine.Machine.{Machine}

-- and then the machine goes on
pub leads_takes : (P : Tables → State → State → Type 0) (f g : Tables → Mach → Run) (a b c : Vm) (old new : Machine) → Leads P a b
    → ((n : Tables) (x y : State) → P n x y → f n (mach_by n x old) ≡ g n (mach_by n y old)) → Takes g b old c new → Takes f a old c new
leads_takes P f g a b c old new p e q n t ag =
    let x = p n t ag in
    let y : GoesOn n (g n (mach_by n x.state old)) c new = subst (λ st. GoesOn n (g n (mach_by n st old)) c new) x.follows.state (q n x.state.touched x.follows.agrees) in
    record { state = y.state; follows = y.follows; goes = e n (state_of n a t) x.state x.is ∙ y.goes }
