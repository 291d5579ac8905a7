use Rattle.gl_meaning.proofs.laws.session_frame.Goals as goal
use Rattle.gl_meaning.proofs.Sessions.{turn_changes_only_stale}

pub returns : goal.returns
returns c = turn_changes_only_stale
