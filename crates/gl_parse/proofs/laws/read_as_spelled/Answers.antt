use Rattle.gl_parse.proofs.SpellsRead.{read_spells, spells_read, read_spells_expr, spells_read_expr}
use Rattle.gl_parse.proofs.laws.read_as_spelled.Goals as goal

pub returns-clause-read : goal.returns-clause-read
returns-clause-read c = λ bytes tree e. read_spells bytes tree e

pub returns-clause-spelled : goal.returns-clause-spelled
returns-clause-spelled c = λ bytes tree e. spells_read bytes tree e

pub returns-clause-read_expression : goal.returns-clause-read_expression
returns-clause-read_expression c = λ text expr u e. read_spells_expr text expr u e

pub returns-clause-spelled_expression : goal.returns-clause-spelled_expression
returns-clause-spelled_expression c = λ text expr e. spells_read_expr text expr e
