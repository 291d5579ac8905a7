use Rattle.gl_parse.proofs.SpellsRead.{spells_one}
use Rattle.gl_parse.proofs.laws.one_template.Goals as goal

pub returns : goal.returns
returns c = λ bytes tree other. spells_one bytes tree other
