use Rattle.gl_naming.proofs.laws.moves.Goals as goal
use Rattle.gl_naming.proofs.Moved.{stands_moved}

pub returns : goal.returns
returns c = stands_moved
