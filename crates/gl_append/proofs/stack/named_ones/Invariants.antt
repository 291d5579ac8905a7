use Rattle.std.proofs.Common.{◌≡◌, ◌++◌, drop}
use Rattle.gl_machine.specs.Step as s
use Rattle.gl_vm.specs.View.{name_stamps}
use Rattle.gl_append.specs.MachineView.{seen_stack}
use Rattle.gl_append.proofs.stack.named_ones.Given as goal

abbrev pub invariant-loop-pushed : goal.invariant-loop-pushed
invariant-loop-pushed l = name_stamps l.ids ++ s.named_ones (seen_stack (drop l.pushed-index l.taken)) ≡ s.named_ones (seen_stack l.taken)
