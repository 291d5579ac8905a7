use Rattle.gl_value.proofs.Sameness.{same-Decides}
use Rattle.gl_value.proofs.laws.same_decides.Goals as goal

pub returns : goal.returns
returns g c = same-Decides
