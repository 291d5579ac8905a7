use Rattle.gl_refs.proofs.Propers.{meaning_proper}
use Rattle.gl_refs.proofs.laws.meaning_is_proper.Goals as goal

pub returns : goal.returns
returns c l a i = meaning_proper l a i
