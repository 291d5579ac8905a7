use Rattle.gl_wirein.proofs.Again.{written_wire, written_fault}
use Rattle.gl_wirein.proofs.laws.written_is_read.Goals as goal

pub returns-clause-wire : goal.returns-clause-wire
returns-clause-wire c = written_wire

pub returns-clause-fault : goal.returns-clause-fault
returns-clause-fault c = written_fault
