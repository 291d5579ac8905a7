use Rattle.gl_each.proofs.Keyings.{keys_apart}
use Rattle.gl_each.proofs.laws.distinct.Goals as goal

pub returns : goal.returns
returns c = keys_apart
