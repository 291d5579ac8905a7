use Rattle.gl_parse.proofs.SpellsRead.{spells_one_expr}
use Rattle.gl_parse.proofs.laws.one_expression.Goals as goal

pub returns : goal.returns
returns c = λ text expr other. spells_one_expr text expr other
