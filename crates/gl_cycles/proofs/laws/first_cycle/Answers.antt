use Rattle.gl_cycles.proofs.Throughs.{is_cycle}
use Rattle.gl_cycles.proofs.laws.first_cycle.Goals as goal

pub returns : goal.returns
returns c = is_cycle
