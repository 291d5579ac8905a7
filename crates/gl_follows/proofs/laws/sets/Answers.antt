use Rattle.gl_follows.proofs.Owners.{owner_by, number_by, puts_by}
use Rattle.gl_follows.proofs.Setting.{sets_by}
use Rattle.gl_follows.proofs.laws.sets.Goals as goal

pub returns-clause-laid : goal.returns-clause-laid
returns-clause-laid c = sets_by

pub returns-clause-owner : goal.returns-clause-owner
returns-clause-owner c = owner_by

pub returns-clause-number : goal.returns-clause-number
returns-clause-number c = number_by

pub returns-clause-puts : goal.returns-clause-puts
returns-clause-puts c = puts_by
