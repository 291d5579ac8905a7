use Rattle.gl_kept.proofs.Names.{names_are_there}
use Rattle.gl_standing.proofs.laws.standing.Goals as goal

pub returns-clause-keeps : goal.returns-clause-keeps
returns-clause-keeps c a templates page s x q = names_are_there _ _ _ x.follows.kept q
