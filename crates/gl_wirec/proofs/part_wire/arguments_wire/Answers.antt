use Rattle.std.proofs.Common.{arith}
use Rattle.std.proofs.lemmas.Grind.{common_steps}
use Rattle.gl_wirec.proofs.Listed.{named_made}
use Rattle.gl_wirec.proofs.part_wire.arguments_wire.Goals as goal

pub returns : goal.returns
returns c = named_made c.loop-arg.list _ (grind (arith, common_steps))
