use Rattle.std.proofs.Common.{ap}
use Rattle.gl_nodes.proofs.tree.NodeTree.shift.Goals as goal

pub returns-clause-ok : goal.returns-clause-ok
returns-clause-ok c =
    let m = c.can_shift.ensures c.if-not-can_shift.false in
    let rest = c.move_range.ensures.rest in record {
      parent = m.0;
      kids = m.1;
      is_below = m.2;
      is_run = m.3;
      among = m.4;
      moves_flat = c.move_range.ensures.flat m.0 m.1 m.2 m.3 m.4;
      moves = ap (λ t. t.moves) rest;
      nodes = ap (λ t. t.nodes) rest;
      made = ap (λ t. t.made) rest;
      inserts = ap (λ t. t.inserts) rest;
    }
