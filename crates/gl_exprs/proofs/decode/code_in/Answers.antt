use Rattle.std.proofs.Common.{sym, arith}
use Rattle.gl_exprs.proofs.References.{value_too_large}
use Rattle.gl_exprs.proofs.decode.code_in.Goals as goal

pub returns-then-n-gt-GREATEST : goal.returns-then-n-gt-GREATEST
returns-then-n-gt-GREATEST c =
    let l = c.loop-c in
    sym (value_too_large c.args.hexadecimal c.if-hexadecimal.base l.n c.in-Some.c c.in-Some-digit_in.digit c.next.new.self l.scan _ l.invariant.2 c.in-Some.ensures (sym c.in-Some-digit_in.ensures.value) (omega arith) l.invariant.0)
