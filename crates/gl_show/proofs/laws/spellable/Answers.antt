use Rattle.gl_show.proofs.CanStmts.{spelled_can}
use Rattle.gl_show.proofs.SpelledCanon.{spelled_canonical}
use Rattle.gl_show.proofs.laws.spellable.Goals as goal

pub returns : goal.returns
returns c = record { spelled = spelled_can; spells = spelled_canonical }
