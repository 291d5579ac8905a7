use Rattle.gl_turns.proofs.laws.moved.Goals as goal
use Rattle.gl_turns.proofs.Moved.{moved_by_list}

pub returns : goal.returns
returns c = moved_by_list
