use Rattle.gl_naming.proofs.laws.grows.Goals as goal
use Rattle.gl_naming.proofs.Grown.{grown_renamed}

pub returns : goal.returns
returns c = grown_renamed
