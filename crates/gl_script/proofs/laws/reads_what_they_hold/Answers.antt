use Rattle.gl_script.proofs.Scripts.{reads_held, held_reads}
use Rattle.gl_script.proofs.laws.reads_what_they_hold.Goals as goal

pub returns-clause-held : goal.returns-clause-held
returns-clause-held c = reads_held

pub returns-clause-read : goal.returns-clause-read
returns-clause-read c = held_reads
