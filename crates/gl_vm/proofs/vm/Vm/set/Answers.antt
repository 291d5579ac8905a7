use Rattle.std.proofs.Common.{false}
use Rattle.gl_value.specs.View.{view}
use Rattle.gl_vm.proofs.Sets.{set_step}
use Rattle.gl_vm.proofs.Calms.{calm_sets}
use Rattle.gl_vm.proofs.Leading.{led_sets}
use Rattle.gl_vm.proofs.vm.Vm.set.Goals as goal

pub returns-clause-step : goal.returns-clause-step
returns-clause-step c = set_step c.args.self.now c.set.new.self c.args.cell false (view c.args.value) c.sound.ensures.stamped c.sound.ensures.sound c.set.ensures

pub returns-clause-calm : goal.returns-clause-calm
returns-clause-calm c calm = record { unread = calm_sets c.args.self.now.refs c.set.new.self c.args.cell false (view c.args.value) c.set.ensures calm.unread; led = led_sets c.args.self.now.refs c.set.new.self c.args.cell false (view c.args.value) c.sound.ensures.sound c.set.ensures calm.led }

pub returns-clause-led : goal.returns-clause-led
returns-clause-led c led = led_sets c.args.self.now.refs c.set.new.self c.args.cell false (view c.args.value) c.sound.ensures.sound c.set.ensures led
