use Rattle.gl_turns.proofs.laws.evaluated.Goals as goal
use Rattle.gl_turns.proofs.Sources.{touched_is_touched}
use Rattle.gl_turns.proofs.Evaluated.{evaluates_new_or_stale, evaluated_count}

pub returns-clause-touched : goal.returns-clause-touched
returns-clause-touched c = touched_is_touched

pub returns-clause-evaluates : goal.returns-clause-evaluates
returns-clause-evaluates c = evaluates_new_or_stale

pub returns-clause-count : goal.returns-clause-count
returns-clause-count c = evaluated_count
