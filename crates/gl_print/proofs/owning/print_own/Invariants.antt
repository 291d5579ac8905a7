use Rattle.std.specs.Prelude.{length}
use Rattle.gl_nodes.specs.Tree.{node_at, IsSound}
use Rattle.gl_print.specs.Walk.{left, AllIn, IsIn}
use Rattle.gl_print.proofs.OwnLines.{PrintsOwn}
use Rattle.gl_print.proofs.owning.print_own.Given as goal

abbrev pub invariant-loop-walk : goal.invariant-loop-walk
invariant-loop-walk l = record {
  sound : IsSound l.tree;
  here : IsIn l.tree.forest l.walk.at;
  above : AllIn l.tree.forest l.walk.above.items;
  prints : PrintsOwn (node_at l.tree) l.tree.forest l.out (left l.tree.forest l.walk.at l.walk.above.items);
}

abbrev pub decreases-loop-walk : goal.decreases-loop-walk
decreases-loop-walk l = length (left l.tree.forest l.walk.at l.walk.above.items)
