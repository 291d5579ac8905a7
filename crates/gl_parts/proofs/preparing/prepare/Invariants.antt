use Rattle.std.proofs.Common.{◌≡◌}
use Rattle.gl_vm.specs.View.{Calm}
use Rattle.gl_vm.specs.Steps.{Prepares}
use Rattle.gl_parts.proofs.preparing.prepare.Given as goal

abbrev pub invariant-loop-id : goal.invariant-loop-id
invariant-loop-id l = record {
  step : Prepares l.fn.vm l.vm;
  calm : Calm l.vm;
  tree : l.vm.tree ≡ l.fn.vm.tree;
}
