use Rattle.std.proofs.Common.{arith}
use Rattle.std.proofs.lemmas.Grind.{common_steps}
use Rattle.gl_wirec.proofs.Listed.{exprs_made, named_made}
use Rattle.gl_wirec.proofs.expr_wire.+expression.Goals as goal

pub exprs_wire-returns : goal.exprs_wire-returns
exprs_wire-returns t c = exprs_made c.loop-item.list _ (grind (arith, common_steps))

pub named_wire-returns : goal.named_wire-returns
named_wire-returns t c = named_made c.loop-pair.list _ (grind (arith, common_steps))
