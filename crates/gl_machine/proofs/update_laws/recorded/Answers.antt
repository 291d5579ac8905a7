use Rattle.gl_machine.proofs.update_laws.recorded.Goals as goal
use Rattle.gl_machine.proofs.PageRenews.{renews_right, page_follows}

pub returns-clause-statements : goal.returns-clause-statements
returns-clause-statements c = renews_right

pub returns-clause-page : goal.returns-clause-page
returns-clause-page c = page_follows
