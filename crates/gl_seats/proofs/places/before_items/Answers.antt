use Rattle.gl_nodes.specs.Flat.{stamp_of}
use Rattle.gl_seats.proofs.CodeRows.{if_ok_weaker, items_before}
use Rattle.gl_seats.proofs.places.before_items.Goals as goal

pub returns-in-Some-clause-before : goal.returns-in-Some-clause-before
returns-in-Some-clause-before c = if_ok_weaker c.before-in-Some.result _ _ (λ s h n. items_before n c.args.items.now c.in-Some.item.now (stamp_of s.next) c.in-Some.ensures.value (h n)) c.before-in-Some.ensures.before
