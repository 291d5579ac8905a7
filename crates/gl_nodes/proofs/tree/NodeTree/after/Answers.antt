use Rattle.std.proofs.Common.{◌≡◌, true, false, None, is_some, refl, sym, ap, ◌∙◌}
use Rattle.std.specs.Prelude.{if◌then◌else◌}
use Rattle.gl_nodes.specs.Forest.{after_node}
use Rattle.gl_nodes.specs.Links.{forest_in, parent_of, next_of}
use Rattle.gl_nodes.specs.Tree.{first_in}
use Rattle.gl_nodes.specs.View.{links_of}
use Rattle.gl_nodes.proofs.Asked.{out_of}
use Rattle.gl_nodes.proofs.Removing.{after_node-none, next_in_tree}
use Rattle.gl_nodes.proofs.tree.NodeTree.after.Goals as goal

pub returns : goal.returns
returns c =
    let s = c.self.inside in
    let f = forest_in (links_of s.entries) s.root s.inserts in
    let o = links_of s.entries c.args.node in
    let found = elim (is_some (parent_of o)) as (λ b. is_some (parent_of o) ≡ b → (if b then next_of o else None) ≡ first_in (after_node c.args.node f)) [
      | true ↦ λ there. next_in_tree s.entries s.root s.inserts f c.args.node c.self.invariant (c.self.invariant.placed c.args.node there)
      | false ↦ λ out. sym (ap first_in (after_node-none c.args.node f (out_of s.entries s.root s.inserts f c.args.node c.self.invariant out)))
    ] refl in
    c.next_below.ensures ∙ (found ∙ ap (λ t. first_in (after_node c.args.node t.forest)) c.self.view_is)
