use Rattle.gl_acting.proofs.Has.{instance_has}
use Rattle.gl_acting.proofs.laws.instances.Goals as goal

pub returns : goal.returns
returns c = instance_has
