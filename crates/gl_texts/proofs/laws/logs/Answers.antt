use Rattle.gl_texts.proofs.Destroyed.{destroyed_is}
use Rattle.gl_texts.proofs.Texts.{installed_is, updated_is}
use Rattle.gl_texts.proofs.laws.logs.Goals as goal

pub returns-clause-installed : goal.returns-clause-installed
returns-clause-installed c = installed_is

pub returns-clause-updated : goal.returns-clause-updated
returns-clause-updated c = updated_is

pub returns-clause-destroyed : goal.returns-clause-destroyed
returns-clause-destroyed c = destroyed_is
