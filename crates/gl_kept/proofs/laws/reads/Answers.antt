use Rattle.gl_kept.proofs.laws.reads.Goals as goal
use Rattle.gl_kept.proofs.Names.{names_are_there, reads_are_live}
use Rattle.gl_kept.proofs.Closed.{nobody_reads_into}
use Rattle.gl_kept.proofs.Roots.{freed_is_unread}

pub returns-clause-names : goal.returns-clause-names
returns-clause-names c = names_are_there

pub returns-clause-live : goal.returns-clause-live
returns-clause-live c = reads_are_live

pub returns-clause-freed : goal.returns-clause-freed
returns-clause-freed c = freed_is_unread

pub returns-clause-into : goal.returns-clause-into
returns-clause-into c = nobody_reads_into
