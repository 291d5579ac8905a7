use Rattle.gl_labels.proofs.laws.helpers_keep_owners.Goals as goal
use Rattle.gl_labels.proofs.Owners.{helpers_keep_owners}

pub returns : goal.returns
returns c = helpers_keep_owners
