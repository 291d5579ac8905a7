use Rattle.std.proofs.Common.{◌≡◌, Some, sym, ap, subst, ◌∙◌}
use Rattle.std.specs.Prelude.{unwrap_or}
use Rattle.gl_nodes.specs.View.{IsTree}
use Rattle.gl_nodes.proofs.NextTo.{place_there}
use Rattle.gl_nodes.proofs.tree.NodeTree.is_child.Goals as goal
use Rattle.gl_nodes.proofs.tree.NodeTree.is_child.Goals.{in-Some, in-None}

pub returns : goal.returns
returns c = λ h takes.
    let s = c.self.inside in
    let above : c.match-parent.above ≡ unwrap_or c.args.parent.now s.root = elim c.match-parent.branch [
      | in-Some w ↦ w.above-is ∙ sym (ap (λ o. unwrap_or o s.root) w.in-Some.is)
      | in-None w ↦ w.above-is ∙ sym (ap (λ o. unwrap_or o s.root) w.in-None.is)
    ] in
    place_there s.entries s.root s.inserts c.args.self.now c.args.parent.now c.args.id (subst (λ t. IsTree s.entries s.root s.inserts t.forest) c.self.view_is c.self.invariant) takes (c.hangs_below.ensures h ∙ ap Some above)
