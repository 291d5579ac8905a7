use Rattle.gl_show.proofs.CanStmts.{canonical_spells}
use Rattle.gl_show.proofs.laws.spelled_again.Goals as goal

pub returns : goal.returns
returns c = canonical_spells
