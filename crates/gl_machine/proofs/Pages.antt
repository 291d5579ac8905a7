-- The laws of the machine over words.
use Rattle.gl_machine.specs.Laws.{WordsAppend, WordsEnd, PageAppends, PageEnds, PageRenews, PageRenewEnds}
use Rattle.gl_machine.specs.Step.{run_for_as}
use Rattle.gl_machine.proofs.Lowered.{sound}
use Rattle.gl_machine.proofs.Right.{runs_right, runs_end}
use Rattle.gl_machine.proofs.Root.{page_grows, page_ends}
use Rattle.gl_machine.proofs.PageRenews.{page_renews}
use Rattle.gl_machine.proofs.RenewEnds.{page_renew_ends}

pub words_append : WordsAppend
words_append naming env store lowered n = runs_right naming env store (sound env lowered) n

pub words_end : WordsEnd
words_end naming env store lowered = runs_end naming env store (sound env lowered)

pub page_appends : PageAppends
page_appends naming env store lowered n q number st =
    page_grows naming env store (sound env lowered) q number st (run_for_as naming env store n) (words_append naming env store lowered n) env.app.limit

pub page_is_ended : PageEnds
page_is_ended naming env store lowered q number st =
    page_ends naming env store (sound env lowered) q number st (run_for_as naming env store) (words_end naming env store lowered) env.app.limit

pub page_is_renewed : PageRenews
page_is_renewed naming env store lowered n k st h = page_renews naming env store (run_for_as naming env store n) (words_append naming env store lowered n) env.app.limit k st h

pub page_renewal_ends : PageRenewEnds
page_renewal_ends naming env store lowered k h d st = page_renew_ends naming env store (run_for_as naming env store) (words_end naming env store lowered) env.app.limit k h d st
