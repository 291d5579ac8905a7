use Rattle.gl_guards.proofs.laws.notes.Goals as goal
use Rattle.gl_guards.proofs.Joined.{namings_apart}

pub returns : goal.returns
returns c = record { both = namings_apart }
