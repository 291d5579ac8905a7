use Rattle.std.proofs.Common.{◌≡◌}
use Rattle.gl_vm.specs.Led.{Led}
use Rattle.gl_vm.specs.View.{Calm}
use Rattle.gl_ends.proofs.Loops.{Left}
use Rattle.gl_ends.proofs.CodeCounts.{count_attr}
use Rattle.gl_ends.proofs.tags.end_attrs.Given as goal

abbrev pub invariant-loop-attr : goal.invariant-loop-attr
invariant-loop-attr l = record {
  left : Left count_attr l.attrs l.attr-index l.fn.vm l.vm;
  calm : Calm l.fn.vm → Calm l.vm;
  led : Led l.fn.vm.refs → Led l.vm.refs;
  tree : l.vm.tree ≡ l.fn.vm.tree;
}
