use Rattle.gl_nodes.specs.Flat.{stamp_of}
use Rattle.gl_seats.proofs.CodeRows.{if_ok_weaker, items_behind}
use Rattle.gl_seats.proofs.places.behind_items.Goals as goal

pub returns-in-Some-clause-behind : goal.returns-in-Some-clause-behind
returns-in-Some-clause-behind c = if_ok_weaker c.behind.result _ _
    (λ s h n. items_behind n c.args.tree.now.forest (stamp_of c.args.parent.now) (stamp_of s.next) c.args.items.now c.in-Some.item.now c.in-Some.ensures.value (h n)) c.behind.ensures.behind
