use Rattle.gl_plain.proofs.laws.updated_work.Goals as goal
use Rattle.gl_plain.proofs.CountStands.{updated_makes, updated_evaluates, updated_evaluates_due}

pub returns-clause-makes : goal.returns-clause-makes
returns-clause-makes c = updated_makes

pub returns-clause-evaluates : goal.returns-clause-evaluates
returns-clause-evaluates c = updated_evaluates

pub returns-clause-due : goal.returns-clause-due
returns-clause-due c = updated_evaluates_due
