use Rattle.gl_show.proofs.CanStmts.{canonical_expression}
use Rattle.gl_show.proofs.laws.expression_spelled_again.Goals as goal

pub returns : goal.returns
returns c = canonical_expression
