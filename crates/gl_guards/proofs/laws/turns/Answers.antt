use Rattle.gl_guards.proofs.laws.turns.Goals as goal
use Rattle.gl_guards.proofs.Pages.{turn_may_pass, turn_is_renew, puts_are_renew, puts_are_entered, puts_go_along}

pub returns-clause-may : goal.returns-clause-may
returns-clause-may c = turn_may_pass

pub returns-clause-same : goal.returns-clause-same
returns-clause-same c = turn_is_renew

pub returns-clause-puts : goal.returns-clause-puts
returns-clause-puts c = puts_are_renew

pub returns-clause-entered : goal.returns-clause-entered
returns-clause-entered c = puts_are_entered

pub returns-clause-along : goal.returns-clause-along
returns-clause-along c = puts_go_along
