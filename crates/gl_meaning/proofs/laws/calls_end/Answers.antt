use Rattle.gl_meaning.proofs.laws.calls_end.Goals as goal
use Rattle.gl_meaning.proofs.Sessions.{calls_end}

pub returns : goal.returns
returns c = calls_end
