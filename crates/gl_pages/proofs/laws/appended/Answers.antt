use Rattle.gl_pages.proofs.Pages.{page_is_drawn, page_is_too_deep}
use Rattle.gl_pages.proofs.laws.appended.Goals as goal

pub returns-clause-drawn : goal.returns-clause-drawn
returns-clause-drawn c = page_is_drawn

pub returns-clause-deep : goal.returns-clause-deep
returns-clause-deep c = page_is_too_deep
