use Rattle.std.proofs.Common.{is_some, ◌<◌, sym, ap, subst, ◌∙◌}
use Rattle.gl_nodes.specs.Forest.{times}
use Rattle.gl_nodes.proofs.Asked.{takes_there}
use Rattle.gl_nodes.proofs.tree.NodeTree.takes_below.Goals as goal

pub returns : goal.returns
returns c = λ h.
    takes_there c.args.self.now c.args.id (c.is_element.ensures c.if-not-is_element.false)
    (subst (λ t. 0 < times c.args.id t.forest) c.self.view_is (c.self.invariant.placed c.args.id (sym (ap is_some c.parent_at.ensures) ∙ (sym c.is_some.ensures ∙ h))))
