use Rattle.gl_each.proofs.Carrying.{carried_is_wanted, wanted_is_new}
use Rattle.gl_each.proofs.laws.carried_out.Goals as goal

pub returns-clause-items : goal.returns-clause-items
returns-clause-items g c = carried_is_wanted

pub returns-clause-keys : goal.returns-clause-keys
returns-clause-keys g c = wanted_is_new
