use Rattle.gl_machine.proofs.update_laws.scopes.Goals as goal
use Rattle.gl_machine.proofs.MarkRoots.{blocks_rise}
use Rattle.gl_machine.proofs.Named.{sights_name_own, page_names_own}

pub returns-clause-parts : goal.returns-clause-parts
returns-clause-parts c = sights_name_own

pub returns-clause-page : goal.returns-clause-page
returns-clause-page c = page_names_own

pub returns-clause-rise : goal.returns-clause-rise
returns-clause-rise c = blocks_rise
