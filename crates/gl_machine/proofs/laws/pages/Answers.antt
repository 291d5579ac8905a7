use Rattle.gl_machine.proofs.laws.pages.Goals as goal
use Rattle.gl_machine.proofs.Nesting.{standing_nests}
use Rattle.gl_machine.proofs.Pages.{page_appends, page_is_ended, page_is_renewed, page_renewal_ends}
use Rattle.gl_machine.proofs.Standing.{page_stands, page_updates}

pub returns : goal.returns
returns c = record {
  appends = page_appends;
  stands = page_stands;
  ends = page_is_ended;
  renews = page_is_renewed;
  updates = page_updates;
  renew_ends = page_renewal_ends;
  nests = standing_nests;
}
