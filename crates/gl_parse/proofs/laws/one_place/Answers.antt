use Rattle.gl_parse.proofs.Places.{one_template_place, one_expression_place}
use Rattle.gl_parse.proofs.laws.one_place.Goals as goal

pub returns-clause-template : goal.returns-clause-template
returns-clause-template c = λ bytes place other p q. one_template_place bytes place other p q

pub returns-clause-expression : goal.returns-clause-expression
returns-clause-expression c = λ text place other p q. one_expression_place text place other p q
