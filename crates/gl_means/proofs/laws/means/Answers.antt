use Rattle.gl_means.proofs.laws.means.Goals as goal
use Rattle.gl_means.proofs.Coded.{means_expression}

pub returns : goal.returns
returns c = means_expression c.args.vm.now c.sound.ensures.stamped c.sound.ensures.sound c.args.id c.requires
