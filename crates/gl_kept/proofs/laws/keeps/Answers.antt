use Rattle.gl_kept.proofs.laws.keeps.Goals as goal
use Rattle.gl_kept.proofs.Roots.{appended_keeps, sets_keep, updated_keeps}

pub returns-clause-appended : goal.returns-clause-appended
returns-clause-appended c = appended_keeps

pub returns-clause-sets : goal.returns-clause-sets
returns-clause-sets c = sets_keep

pub returns-clause-updated : goal.returns-clause-updated
returns-clause-updated c = updated_keeps
