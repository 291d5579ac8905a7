use Rattle.std.proofs.Common.{◌≡◌, ◌++◌, drop}
use Rattle.gl_machine.specs.Step as s
use Rattle.gl_vm.specs.View.{stamps}
use Rattle.gl_append.specs.MachineView.{seen_stack}
use Rattle.gl_append.proofs.stack.positional.Given as goal

abbrev pub invariant-loop-pushed : goal.invariant-loop-pushed
invariant-loop-pushed l = stamps l.ids ++ s.positional (seen_stack (drop l.pushed-index l.taken)) ≡ s.positional (seen_stack l.taken)
