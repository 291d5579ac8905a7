use Rattle.gl_turns.proofs.laws.sets.Goals as goal
use Rattle.gl_turns.proofs.Setting.{sets_are_laid}

pub returns : goal.returns
returns c = sets_are_laid
