use Rattle.gl_wirec.proofs.PaysStmts.{size_within, names_within}
use Rattle.gl_wirec.proofs.laws.within_template.Goals as goal

pub returns : goal.returns
returns c = record { size = size_within; names = names_within }
