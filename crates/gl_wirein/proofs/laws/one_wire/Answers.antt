use Rattle.gl_wirein.proofs.Wires.{one_wire}
use Rattle.gl_wirein.proofs.laws.one_wire.Goals as goal

pub returns : goal.returns
returns c = one_wire
