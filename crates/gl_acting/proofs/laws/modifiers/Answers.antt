use Rattle.gl_acting.proofs.Mods.{mods_are}
use Rattle.gl_acting.proofs.laws.modifiers.Goals as goal

pub returns : goal.returns
returns c = mods_are
