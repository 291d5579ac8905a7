use Rattle.gl_destroy.specs.Forest.{children_first}
use Rattle.gl_destroy.specs.Links.{IsLeft, read, size, tree_in}
use Rattle.gl_destroy.specs.View.{look_in, seen_pairs}
use Rattle.gl_destroy.proofs.walk.parents_first.Given as goal

abbrev pub invariant-loop-at : goal.invariant-loop-at
invariant-loop-at l = IsLeft (look_in l.entries) l.entries.made l.stack.items (seen_pairs l.order.items) (children_first (tree_in (look_in l.entries) l.entries.made l.fn.id))

abbrev pub decreases-loop-at : goal.decreases-loop-at
decreases-loop-at l = size (read (look_in l.entries) l.entries.made l.stack.items)
