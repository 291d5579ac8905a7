use Rattle.gl_meaning.proofs.laws.session_numbers.Goals as goal
use Rattle.gl_meaning.proofs.Sessions.{numbers_never_come_again}

pub returns : goal.returns
returns c = numbers_never_come_again
