use Rattle.gl_guards.proofs.laws.along_questions.Goals as goal
use Rattle.gl_guards.proofs.AlongLess.{along_asks_less, puts_ask_along}

pub returns-clause-less : goal.returns-clause-less
returns-clause-less c = along_asks_less

pub returns-clause-puts : goal.returns-clause-puts
returns-clause-puts c = puts_ask_along
