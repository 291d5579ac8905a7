use Rattle.gl_manifest.proofs.Holding.{holds_said}
use Rattle.gl_manifest.proofs.laws.says_what_it_holds.Goals as goal

pub returns-clause-said : goal.returns-clause-said
returns-clause-said c = holds_said
