use Rattle.gl_kept.proofs.laws.turns.Goals as goal
use Rattle.gl_kept.proofs.Sessions.{first_keeps, next_keeps}

pub returns-clause-first : goal.returns-clause-first
returns-clause-first c = first_keeps

pub returns-clause-next : goal.returns-clause-next
returns-clause-next c = next_keeps
