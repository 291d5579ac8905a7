use Rattle.gl_machine.proofs.update_laws.handed_out.Goals as goal
use Rattle.gl_machine.proofs.MarkGrows.{appended_installs}
use Rattle.gl_machine.proofs.MarkRoots.{updated_installs, updated_updates}

pub returns-clause-appended : goal.returns-clause-appended
returns-clause-appended c = appended_installs

pub returns-clause-installed : goal.returns-clause-installed
returns-clause-installed c = updated_installs

pub returns-clause-updated : goal.returns-clause-updated
returns-clause-updated c = updated_updates
