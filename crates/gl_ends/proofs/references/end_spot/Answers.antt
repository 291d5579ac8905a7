use Rattle.std.proofs.Common.{[], ◌∷◌, arith}
use Rattle.std.proofs.lemmas.Result.{on_ok_weaker}
use Rattle.gl_plain.specs.Ids.{ref, hit, occurs}
use Rattle.gl_plain.proofs.Moves.{occurs_append}
use Rattle.gl_code.specs.View.{refs_made}
use Rattle.gl_code.specs.CodeView.{seen_spot}
use Rattle.gl_ends.proofs.Joins.{ends_then}
use Rattle.gl_ends.proofs.references.end_spot.Goals as goal

pub returns-clause-ends : goal.returns-clause-ends
returns-clause-ends c n =
    let x = c.args.spot.now in
    on_ok_weaker c.end_references.result
    (ends_then n c.args.vm.now c.end_reference.new.vm c.end_references.new.vm (λ q. hit q (ref x.id.1)) (λ q. occurs q (refs_made x.made)) (λ q. occurs q (seen_spot x).made)
    (λ q. let w = occurs_append q (refs_made x.made) (ref x.id.1 ∷ []) in omega (arith, w)) c.end_reference.ensures.led (c.in_ok-end_reference.ensures.ends n))
    (c.end_references.ensures.ends n)

pub returns-clause-led : goal.returns-clause-led
returns-clause-led c = λ h. c.end_references.ensures.led (c.end_reference.ensures.led h)
