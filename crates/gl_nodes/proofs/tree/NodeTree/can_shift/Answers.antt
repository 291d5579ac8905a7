use Rattle.std.proofs.Common.{Some, subst}
use Rattle.gl_nodes.specs.Tree.{CanMove}
use Rattle.gl_nodes.proofs.NextTo.{can_move}
use Rattle.gl_nodes.proofs.tree.NodeTree.can_shift.Goals as goal

pub returns : goal.returns
returns c = λ h.
    let s = c.self.inside in
    subst (λ t. CanMove t.forest (Some (c.args.first, c.args.last)) c.args.next.now) c.self.view_is
    (can_move s.entries s.root s.inserts _ c.args.first c.args.last c.args.next.now c.self.invariant (c.are_beside.ensures c.if-not-are_beside.false) (c.leads.ensures h))
