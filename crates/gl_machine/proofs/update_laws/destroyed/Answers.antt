use Rattle.gl_machine.proofs.update_laws.destroyed.Goals as goal
use Rattle.gl_machine.proofs.PageGone.{freed_is_gone, freed_is_logged}

pub returns-clause-gone : goal.returns-clause-gone
returns-clause-gone c = freed_is_gone

pub returns-clause-logged : goal.returns-clause-logged
returns-clause-logged c = freed_is_logged
