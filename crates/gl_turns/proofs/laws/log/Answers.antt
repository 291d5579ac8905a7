use Rattle.gl_turns.proofs.laws.log.Goals as goal
use Rattle.gl_turns.proofs.Destroyed.{counted_is_there, destroys_gone}
use Rattle.gl_turns.proofs.Ordered.{destroys_in_order, modifiers_in_order}
use Rattle.gl_turns.proofs.Logged.{installs_new, updates_stale}

pub returns-clause-installs : goal.returns-clause-installs
returns-clause-installs c = installs_new

pub returns-clause-updates : goal.returns-clause-updates
returns-clause-updates c = updates_stale

pub returns-clause-there : goal.returns-clause-there
returns-clause-there c = counted_is_there

pub returns-clause-destroys : goal.returns-clause-destroys
returns-clause-destroys c = destroys_gone

pub returns-clause-ordered : goal.returns-clause-ordered
returns-clause-ordered c = destroys_in_order

pub returns-clause-modifiers : goal.returns-clause-modifiers
returns-clause-modifiers c = modifiers_in_order
