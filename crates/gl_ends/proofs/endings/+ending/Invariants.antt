use Rattle.std.proofs.Common.{◌≡◌}
use Rattle.gl_vm.specs.Led.{Led}
use Rattle.gl_vm.specs.View.{Calm}
use Rattle.gl_ends.proofs.Loops.{Left}
use Rattle.gl_ends.proofs.CodeCounts.{count_code, count_item}
use Rattle.gl_ends.proofs.Gone.{CodesGone, ItemsGone}
use Rattle.gl_ends.proofs.endings.+ending.Given as goal

abbrev pub invariant-drop_codes-loop-code : goal.invariant-drop_codes-loop-code
invariant-drop_codes-loop-code l = record {
  left : Left count_code l.code-items l.code-index l.fn.vm l.vm;
  calm : Calm l.fn.vm → Calm l.vm;
  led : Led l.fn.vm.refs → Led l.vm.refs;
  gone : CodesGone l.code-items l.code-index l.fn.vm.tree.forest l.vm.tree.forest;
  moves : l.vm.tree.moves ≡ l.fn.vm.tree.moves;
}

abbrev pub invariant-drop_items-loop-item : goal.invariant-drop_items-loop-item
invariant-drop_items-loop-item l = record {
  left : Left count_item l.items l.item-index l.fn.vm l.vm;
  calm : Calm l.fn.vm → Calm l.vm;
  led : Led l.fn.vm.refs → Led l.vm.refs;
  gone : ItemsGone l.items l.item-index l.fn.vm.tree.forest l.vm.tree.forest;
  moves : l.vm.tree.moves ≡ l.fn.vm.tree.moves;
}
