use Rattle.gl_follows.proofs.Keeping.{keeps_by}
use Rattle.gl_follows.proofs.laws.keeps.Goals as goal

pub returns : goal.returns
returns c = record { names = keeps_by }
