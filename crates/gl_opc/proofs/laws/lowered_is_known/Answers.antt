use Rattle.gl_opc.proofs.Known.{template_known, expression_known}
use Rattle.gl_opc.proofs.laws.lowered_is_known.Goals as goal

pub returns-clause-template : goal.returns-clause-template
returns-clause-template c = λ p b m k lowers. template_known p b m k lowers

pub returns-clause-expression : goal.returns-clause-expression
returns-clause-expression c = λ p e params m k lowers. expression_known p e params m k lowers
