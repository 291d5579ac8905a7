use Rattle.std.proofs.Common.{refl, ap}
use Rattle.gl_destroy.proofs.Thinning.{thin_put}
use Rattle.gl_destroy.proofs.siblings.thin_children.Goals as goal

pub returns-in_ok-children-clause-lists : goal.returns-in_ok-children-clause-lists
returns-in_ok-children-clause-lists c =
    let e = c.get.result.now in
    thin_put c.args.entries.now c.put_children.new.entries c.args.parent e (record e { children = c.in_ok-children.children }) c.get.ensures (c.put_children.ensures e c.get.ensures) refl c.in_ok-children.ensures

pub returns-in_ok-children-clause-made : goal.returns-in_ok-children-clause-made
returns-in_ok-children-clause-made c = ap (λ a. a.made) (c.put_children.ensures c.get.result.now c.get.ensures)
