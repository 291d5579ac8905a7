use Rattle.gl_each.proofs.Moving.{moves_are_moved}
use Rattle.gl_each.proofs.laws.moved.Goals as goal

pub returns : goal.returns
returns c = moves_are_moved
