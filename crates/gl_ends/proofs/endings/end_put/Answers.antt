use Rattle.std.proofs.Common.{◌+◌, refl}
use Rattle.std.proofs.lemmas.Result.{on_ok_weaker}
use Rattle.gl_plain.specs.Ids.{node, hit, occurs}
use Rattle.gl_code.specs.CodeView.{seen_spot}
use Rattle.gl_ends.proofs.Joins.{ends_then}
use Rattle.gl_machine.specs.Shape.{leaf}
use Rattle.gl_ends.proofs.Gone.{gone_before}
use Rattle.gl_ends.proofs.endings.end_put.Goals as goal

pub returns-clause-ends : goal.returns-clause-ends
returns-clause-ends c n = on_ok_weaker c.end_node.result
    (ends_then n c.args.vm.now c.end_spot.new.vm c.end_node.new.vm (λ q. occurs q (seen_spot c.args.spot.now).made) (λ q. hit q (node c.args.node.1)) (λ q. hit q (node c.args.node.1) + occurs q (seen_spot c.args.spot.now).made) (λ q. refl)
    c.end_spot.ensures.led (c.in_ok-end_spot.ensures.ends n))
    (c.end_node.ensures.ends n)

pub returns-clause-led : goal.returns-clause-led
returns-clause-led c = λ h. c.end_node.ensures.led (c.end_spot.ensures.led h)

pub returns-clause-unseats : goal.returns-clause-unseats
returns-clause-unseats c = on_ok_weaker c.end_node.result (gone_before c.args.vm.now.tree c.end_spot.new.vm.tree c.end_node.new.vm.tree.forest (leaf c.args.node.1) c.in_ok-end_spot.ensures.tree) c.end_node.ensures.unseats
