-- The names of a manifest, by the numbers that programs have in place of them.
use Rattle.std.specs.Prelude.{Bool}
use Rattle.gl_meaning.specs.Scope.{Source}
use Rattle.gl_machine.specs.Mach.{Mach, Run}
use Rattle.gl_vm.specs.View.{Tables, Agrees}
use Rattle.gl_vm.specs.declared.vm.Vm.{Vm}
use Rattle.gl_append.specs.MachineView.{mach_of}
use Rattle.gl_append.specs.Steps.{GoesOn}
use Rattle.gl_append.specs.declared.machine.Machine.{Machine}

-- The code does this step of the machine, whichever sources were touched, where the manifest's names are these.
abbrev pub TakesIn : Tables → (Mach → Run) → Vm → Machine → Vm → Machine → Type 0
TakesIn n f vm old vm' new = (touched : Source → Bool) → Agrees touched vm → GoesOn n (f (mach_of n touched vm old)) vm' new
