use Rattle.gl_naming.proofs.laws.reads.Goals as goal
use Rattle.gl_naming.proofs.Pairs.{means_renamed}

pub returns : goal.returns
returns c = means_renamed
