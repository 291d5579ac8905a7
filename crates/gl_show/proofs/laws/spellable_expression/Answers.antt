use Rattle.gl_show.proofs.CanStmts.{spelled_expr_can}
use Rattle.gl_show.proofs.SpelledCanon.{spelled_expression}
use Rattle.gl_show.proofs.laws.spellable_expression.Goals as goal

pub returns : goal.returns
returns c = record { spelled = spelled_expr_can; spells = spelled_expression }
