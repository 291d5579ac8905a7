use Rattle.gl_refs.proofs.Meanings as meanings
use Rattle.gl_refs.proofs.laws.meaning_is.Goals as goal

pub returns : goal.returns
returns c l i = meanings.meaning_is l i
