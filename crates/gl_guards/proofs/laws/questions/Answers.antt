use Rattle.gl_guards.proofs.laws.questions.Goals as goal
use Rattle.gl_guards.proofs.Joined.{fresh_asks_one}
use Rattle.gl_guards.proofs.TurnAsks.{turn_asks, puts_ask}

pub returns-clause-one : goal.returns-clause-one
returns-clause-one c = fresh_asks_one

pub returns-clause-most : goal.returns-clause-most
returns-clause-most c = turn_asks

pub returns-clause-puts : goal.returns-clause-puts
returns-clause-puts c = puts_ask
