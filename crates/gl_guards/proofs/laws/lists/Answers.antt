use Rattle.gl_guards.proofs.laws.lists.Goals as goal
use Rattle.gl_guards.proofs.Joined.{list_goes_along}

pub returns : goal.returns
returns c = record { along = list_goes_along }
