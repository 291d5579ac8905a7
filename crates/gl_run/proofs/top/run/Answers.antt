use Rattle.std.proofs.Common.{◌∙◌, sym}
use Rattle.gl_commands.proofs.Outputs.{where_done, unless_done}
use Rattle.gl_run.proofs.top.run.Goals as goal

pub returns-clause-holds : goal.returns-clause-holds
returns-clause-holds g c = λ files e done. where_done c.attempt-ending.result (c.attempt-ending.ensures.holds files e) (sym c.status_of.ensures ∙ done)

pub returns-clause-kept : goal.returns-clause-kept
returns-clause-kept g c = λ never. unless_done c.attempt-ending.result c.attempt-ending.ensures.kept (λ done. never (c.status_of.ensures ∙ done))

pub returns-clause-limit : goal.returns-clause-limit
returns-clause-limit g c = λ deep. c.attempt-ending.ensures.limit (sym c.status_of.ensures ∙ deep)
