use Rattle.gl_kept.proofs.laws.between.Goals as goal
use Rattle.gl_kept.proofs.Sessions.{next_moves_between}
use Rattle.gl_kept.proofs.Trees.{updated_moves_between}
use Rattle.gl_kept.proofs.Between.{plans_move_between}

pub returns-clause-updated : goal.returns-clause-updated
returns-clause-updated c = updated_moves_between

pub returns-clause-next : goal.returns-clause-next
returns-clause-next c = next_moves_between

pub returns-clause-plans : goal.returns-clause-plans
returns-clause-plans c = plans_move_between
