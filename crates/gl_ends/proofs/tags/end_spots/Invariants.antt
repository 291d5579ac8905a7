use Rattle.std.proofs.Common.{◌≡◌}
use Rattle.gl_vm.specs.Led.{Led}
use Rattle.gl_vm.specs.View.{Calm}
use Rattle.gl_ends.proofs.Loops.{Left}
use Rattle.gl_ends.proofs.CodeCounts.{count_mod}
use Rattle.gl_ends.proofs.tags.end_spots.Given as goal

abbrev pub invariant-loop-one : goal.invariant-loop-one
invariant-loop-one l = record {
  left : Left count_mod l.mods l.one-index l.fn.vm l.vm;
  calm : Calm l.fn.vm → Calm l.vm;
  led : Led l.fn.vm.refs → Led l.vm.refs;
  tree : l.vm.tree ≡ l.fn.vm.tree;
}
