use Rattle.gl_wirec.proofs.PaysStmts.{expr_size_within, expr_names_within}
use Rattle.gl_wirec.proofs.laws.within_expression.Goals as goal

pub returns : goal.returns
returns c = record { size = expr_size_within; names = expr_names_within }
