use Rattle.gl_meaning.proofs.PlaceLaws.{step_renders}
use Rattle.gl_meaning.proofs.laws.step_renders.Goals as goal

pub returns : goal.returns
returns c = step_renders
