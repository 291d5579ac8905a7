use Rattle.std.proofs.Common.{◌+◌, refl}
use Rattle.std.proofs.lemmas.Result.{on_ok_weaker}
use Rattle.gl_plain.specs.Ids.{instance_id, hit, occurs}
use Rattle.gl_code.specs.View.{refs_made}
use Rattle.gl_ends.proofs.Joins.{ends_then}
use Rattle.gl_ends.proofs.things.end_owner.Goals as goal

pub returns-clause-ends : goal.returns-clause-ends
returns-clause-ends c n =
    let x = c.args.owner.now in
    on_ok_weaker c.end_instance.result
    (ends_then n c.args.vm.now c.end_references.new.vm c.end_instance.new.vm (λ q. occurs q (refs_made x.cells)) (λ q. hit q (instance_id x.id.1)) (λ q. hit q (instance_id x.id.1) + occurs q (refs_made x.cells)) (λ q. refl)
    c.end_references.ensures.led (c.in_ok-end_references.ensures.ends n))
    (c.end_instance.ensures.ends n)

pub returns-clause-led : goal.returns-clause-led
returns-clause-led c = λ h. c.end_instance.ensures.led (c.end_references.ensures.led h)
