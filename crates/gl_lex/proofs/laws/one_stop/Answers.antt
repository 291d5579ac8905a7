use Rattle.gl_lex.proofs.Stopping.{one_stop}
use Rattle.gl_lex.proofs.laws.one_stop.Goals as goal

pub returns : goal.returns
returns c = λ mode text list other place there. one_stop mode 0 text list other place there
