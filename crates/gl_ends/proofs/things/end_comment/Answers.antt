use Rattle.std.proofs.Common.{sym, ap, subst, OnOk}
use Rattle.gl_nodes.specs.Flat.{stamp_of}
use Rattle.gl_plain.specs.Live.{times_comment}
use Rattle.gl_ends.proofs.Joins.{ends_as, ends_nothing, on_ok_as}
use Rattle.gl_machine.specs.Shape.{nest_comment}
use Rattle.gl_seats.specs.Seats.{Unseats}
use Rattle.gl_ends.proofs.things.end_comment.Goals as goal

pub returns-in-Some-clause-ends : goal.returns-in-Some-clause-ends
returns-in-Some-clause-ends c n = on_ok_as c.end_node.result n c.args.vm.now c.end_node.new.vm _ (λ q. times_comment q (stamp_of c.args.comment.now)) (λ q. ap (λ o. times_comment q (stamp_of o)) (sym c.in-Some.is)) (c.end_node.ensures.ends n)

pub returns-in-None-clause-ends : goal.returns-in-None-clause-ends
returns-in-None-clause-ends c n = ends_as n c.args.vm.now c.args.vm.now _ (λ q. times_comment q (stamp_of c.args.comment.now)) (λ q. ap (λ o. times_comment q (stamp_of o)) (sym c.in-None.is)) (ends_nothing n c.args.vm.now)

pub returns-in-Some-clause-unseats : goal.returns-in-Some-clause-unseats
returns-in-Some-clause-unseats c = subst (λ o. OnOk c.end_node.result (Unseats c.args.vm.now.tree.forest c.end_node.new.vm.tree.forest (nest_comment (stamp_of o)))) (sym c.in-Some.is) c.end_node.ensures.unseats
