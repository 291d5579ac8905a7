use Rattle.std.proofs.Common.{arith}
use Rattle.std.proofs.lemmas.Grind.{common_steps}
use Rattle.gl_wirec.proofs.Listed.{body_made, slots_made}
use Rattle.gl_wirec.proofs.stmt_wire.+statement.Goals as goal

pub body_wire-returns-clause-made : goal.body_wire-returns-clause-made
body_wire-returns-clause-made t c = body_made c.loop-stmt.list _ (grind (arith, common_steps))

pub slots_wire-returns-clause-made : goal.slots_wire-returns-clause-made
slots_wire-returns-clause-made t c = slots_made c.loop-slot.list _ (grind (arith, common_steps))
