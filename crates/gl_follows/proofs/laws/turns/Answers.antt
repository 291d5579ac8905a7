use Rattle.gl_follows.proofs.Turning.{first_by, next_by, next_paths}
use Rattle.gl_follows.proofs.laws.turns.Goals as goal

pub returns-clause-first : goal.returns-clause-first
returns-clause-first c = first_by

pub returns-clause-next : goal.returns-clause-next
returns-clause-next c = next_by

pub returns-clause-paths : goal.returns-clause-paths
returns-clause-paths c = next_paths
