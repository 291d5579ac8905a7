use Rattle.gl_meaning.proofs.laws.frame.Goals as goal
use Rattle.gl_meaning.proofs.Touched.{untouched_is_kept, only_stale_changes}

pub returns-clause-untouched : goal.returns-clause-untouched
returns-clause-untouched c = untouched_is_kept

pub returns-clause-stale : goal.returns-clause-stale
returns-clause-stale c = only_stale_changes
