use Rattle.std.proofs.Common.{is_some, not, sym, ap, subst, ◌∙◌}
use Rattle.gl_nodes.specs.Flat.{IsLeaf}
use Rattle.gl_nodes.proofs.Childless.{stands_leaf}
use Rattle.gl_nodes.proofs.tree.NodeTree.is_leaf.Goals as goal

pub returns : goal.returns
returns c = λ h.
    let s = c.self.inside in
    subst (λ t. IsLeaf t c.args.node) c.self.view_is
    (stands_leaf s.entries s.root s.inserts _ c.args.node c.self.invariant (sym (ap is_some c.parent_at.ensures) ∙ (c.is_none.ensures ∙ ap not c.if-is_none.false)) (sym (ap is_some c.first_at.ensures) ∙ (c.is_none-2.ensures ∙ ap not h)))
