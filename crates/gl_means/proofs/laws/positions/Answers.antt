use Rattle.gl_means.proofs.laws.positions.Goals as goal
use Rattle.gl_means.proofs.Coded.{evaluates_positions, fresh_positions}

pub returns-clause-follows : goal.returns-clause-follows
returns-clause-follows c = evaluates_positions c.args.vm.now c.sound.ensures.stamped c.sound.ensures.sound c.requires

pub returns-clause-fresh : goal.returns-clause-fresh
returns-clause-fresh c = fresh_positions c.args.vm.now c.sound.ensures.stamped c.sound.ensures.sound c.requires
