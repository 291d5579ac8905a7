use Rattle.gl_vm.proofs.Stale.{quiet_fresh}
use Rattle.gl_vm.proofs.vm.Vm.quiet.Goals as goal

pub returns : goal.returns
returns c quiet n touched a = quiet_fresh c.args.self.now c.args.id.1 c.sound.ensures.stamped c.sound.ensures.sound (c.quiet.ensures quiet) n touched a
