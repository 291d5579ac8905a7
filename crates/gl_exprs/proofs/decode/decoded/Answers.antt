use Rattle.gl_exprs.proofs.References.{decoded_sign}
use Rattle.gl_exprs.proofs.decode.decoded.Goals as goal

pub loop-c-preserved-in-Continue-1 : goal.loop-c-preserved-in-Continue-1
loop-c-preserved-in-Continue-1 c =
    let l = c.loop-c in
    rw c.in_ok-push_char.ensures.ok (decoded_sign c.in-Some.c c.reference.result c.next.new.self c.reference.new.scan l.scan l.out _ c.in-Some.ensures c.if-c-eq38.true c.reference.ensures.value c.reference.ensures.rest l.invariant)
