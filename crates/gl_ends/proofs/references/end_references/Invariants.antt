use Rattle.std.proofs.Common.{◌≡◌, length}
use Rattle.gl_vm.specs.Led.{Led}
use Rattle.gl_vm.specs.View.{Calm}
use Rattle.gl_ends.proofs.Loops.{LeftBefore}
use Rattle.gl_ends.proofs.references.end_references.Given as goal

abbrev pub invariant-loop-parts : goal.invariant-loop-parts
invariant-loop-parts l = record {
  left : LeftBefore l.ids l.left l.fn.vm l.vm;
  calm : Calm l.fn.vm → Calm l.vm;
  led : Led l.fn.vm.refs → Led l.vm.refs;
  tree : l.vm.tree ≡ l.fn.vm.tree;
}

abbrev pub decreases-loop-parts : goal.decreases-loop-parts
decreases-loop-parts l = length l.left
