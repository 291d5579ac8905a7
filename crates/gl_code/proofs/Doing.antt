-- Steps on what is kept, one after another.
use Rattle.std.proofs.Common.{subst}
use Rattle.gl_plain.specs.State.{State}
use Rattle.gl_vm.specs.View.{Tables, state_of}
use Rattle.gl_vm.specs.Steps.{Follows, Does}
use Rattle.gl_vm.specs.declared.vm.Vm.{Vm}

-- one step of what is kept after another
pub does_then : (f g : Tables → State → State) (vm vm1 vm2 : Vm) → Does f vm vm1 → Does g vm1 vm2 → Does (λ n st. g n (f n st)) vm vm2
does_then f g vm vm1 vm2 d e n t a =
    let x = d n t a in
    subst (λ st. Follows n (g n st) vm2) x.state (e n (f n (state_of n vm t)).touched x.agrees)
