use Rattle.gl_works.proofs.laws.moves.Goals as goal
use Rattle.gl_works.proofs.Moves.{first_moves_none, next_moves_by}

pub returns-clause-first : goal.returns-clause-first
returns-clause-first c = first_moves_none

pub returns-clause-next : goal.returns-clause-next
returns-clause-next c = next_moves_by
