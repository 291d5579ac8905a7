use Rattle.gl_wirein.proofs.Again.{shown_read, shown_only, shown_wire}
use Rattle.gl_wirein.proofs.laws.shown_is_read.Goals as goal

pub returns-clause-read : goal.returns-clause-read
returns-clause-read c = shown_read

pub returns-clause-only : goal.returns-clause-only
returns-clause-only c = shown_only

pub returns-clause-wire : goal.returns-clause-wire
returns-clause-wire c = shown_wire
