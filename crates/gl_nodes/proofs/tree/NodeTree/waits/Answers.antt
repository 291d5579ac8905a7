use Rattle.std.proofs.Common.{is_some, not, IsSome, sym, ap, subst, ◌∙◌}
use Rattle.gl_nodes.specs.Forest.{times}
use Rattle.gl_nodes.proofs.Asked.{out_of}
use Rattle.gl_nodes.proofs.Views.{some_map}
use Rattle.gl_nodes.proofs.tree.NodeTree.waits.Goals as goal

pub returns : goal.returns
returns c = λ h.
    let s = c.self.inside in record {
      live = subst IsSome c.find.ensures.id (some_map _ c.find.result (c.is_none.ensures ∙ ap not c.if-is_none.false));
      out = sym (ap (λ t. times c.args.node t.forest) c.self.view_is)
          ∙ out_of s.entries s.root s.inserts _ c.args.node c.self.invariant (sym (ap is_some c.parent_at.ensures) ∙ (c.is_none-2.ensures ∙ ap not h));
    }
