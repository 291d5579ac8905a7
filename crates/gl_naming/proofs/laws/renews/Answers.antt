use Rattle.gl_naming.proofs.laws.renews.Goals as goal
use Rattle.gl_naming.proofs.Renewed.{updated_renamed}

pub returns : goal.returns
returns c = updated_renamed
