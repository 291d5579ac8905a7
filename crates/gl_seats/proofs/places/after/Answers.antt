use Rattle.std.proofs.Common.{is_some, ap, sym, subst}
use Rattle.gl_nodes.specs.Flat.{stamp_of}
use Rattle.gl_seats.specs.Seats.{IsBehind}
use Rattle.gl_seats.proofs.Steps.{node_behind}
use Rattle.gl_seats.proofs.places.after.Goals as goal

pub returns-in-Some-clause-behind : goal.returns-in-Some-clause-behind
returns-in-Some-clause-behind c = λ x e.
    subst (λ o. IsBehind c.args.tree.now.forest (stamp_of c.args.parent.now) x (stamp_of o)) (sym c.after.ensures)
    (node_behind c.args.tree.now (stamp_of c.args.parent.now) x c.args.node c.flat.ensures (ap is_some (sym c.in-Some.ensures.id)) e)
