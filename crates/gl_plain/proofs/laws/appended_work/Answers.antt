use Rattle.gl_plain.proofs.laws.appended_work.Goals as goal
use Rattle.gl_plain.proofs.CountGrows.{appended_makes, appended_evaluates}

pub returns-clause-makes : goal.returns-clause-makes
returns-clause-makes c = appended_makes

pub returns-clause-evaluates : goal.returns-clause-evaluates
returns-clause-evaluates c = appended_evaluates
