use Rattle.gl_meaning.proofs.laws.sources_above.Goals as goal
use Rattle.gl_meaning.proofs.Sessions.{sources_stand_above}

pub returns : goal.returns
returns c = sources_stand_above
