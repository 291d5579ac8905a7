use Rattle.std.proofs.Common.{◌≡◌, ◌++◌, drop}
use Rattle.gl_machine.specs.RenewCode.{refs_in}
use Rattle.gl_vm.specs.View.{stamps}
use Rattle.gl_code.specs.View.{seen_locals}
use Rattle.gl_code.proofs.items.ids_in.Given as goal

abbrev pub invariant-loop-local : goal.invariant-loop-local
invariant-loop-local l = stamps l.ids ++ refs_in (seen_locals (drop l.local-index l.locals)) ≡ refs_in (seen_locals l.locals)
