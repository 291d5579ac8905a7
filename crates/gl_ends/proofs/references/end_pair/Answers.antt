use Rattle.std.proofs.Common.{[], ◌∷◌, arith}
use Rattle.std.proofs.lemmas.Result.{on_ok_weaker}
use Rattle.gl_plain.specs.Ids.{ref, hit, occurs}
use Rattle.gl_ends.proofs.Joins.{ends_then}
use Rattle.gl_ends.proofs.references.end_pair.Goals as goal

pub returns-clause-ends : goal.returns-clause-ends
returns-clause-ends c n = on_ok_weaker c.end_reference-2.result
    (ends_then n c.args.vm.now c.end_reference.new.vm c.end_reference-2.new.vm (λ q. hit q (ref c.args.index.1)) (λ q. hit q (ref c.args.value.1)) (λ q. occurs q (ref c.args.value.1 ∷ ref c.args.index.1 ∷ [])) (λ q. omega arith)
    c.end_reference.ensures.led (c.in_ok-end_reference.ensures.ends n))
    (c.end_reference-2.ensures.ends n)

pub returns-clause-led : goal.returns-clause-led
returns-clause-led c = λ h. c.end_reference-2.ensures.led (c.end_reference.ensures.led h)
