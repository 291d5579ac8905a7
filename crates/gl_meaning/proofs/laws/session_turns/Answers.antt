use Rattle.gl_meaning.proofs.laws.session_turns.Goals as goal
use Rattle.gl_meaning.proofs.Sessions.{turns_are_reached}

pub returns : goal.returns
returns c = turns_are_reached
