use Rattle.gl_vm.proofs.States.{on_ok}
use Rattle.gl_vm.proofs.Settled.{position_ids, evaluate_step, is_live}
use Rattle.gl_vm.proofs.Calms.{calm_same}
use Rattle.gl_vm.proofs.Placed.{owns_same}
use Rattle.gl_vm.proofs.Leading.{led_evaluated}
use Rattle.gl_vm.proofs.vm.Vm.evaluate.Goals as goal

pub renew-done-requires : goal.renew-done-requires
renew-done-requires c = is_live _ c.requires.position

pub returns-clause-step : goal.returns-clause-step
returns-clause-step c =
    let p = position_ids _ c.requires.position in
    on_ok c.renew-done.result
    (λ kept listed. evaluate_step c.args.self.now c.renew-done.new.self c.args.id c.renew-done.ensures.reads c.sound.ensures.stamped c.sound-2.ensures.stamped c.requires.calm.unread c.sound.ensures.sound c.sound-2.ensures.sound kept listed p.0 p.1)
    c.renew-done.ensures.kept c.renew-done.ensures.evaluated

pub returns-clause-owns : goal.returns-clause-owns
returns-clause-owns c i own =
    let r = c.renew-done.ensures.reads in owns_same c.args.self.now.refs c.renew-done.new.self c.sound.ensures.stamped c.sound-2.ensures.stamped r.made r.settles.forms i own

pub returns-clause-calm : goal.returns-clause-calm
returns-clause-calm c = record { unread = calm_same c.args.self.now.refs c.renew-done.new.self c.renew-done.ensures.reads.settles.forms c.requires.calm.unread; led = led_evaluated c.args.self.now.refs c.renew-done.new.self c.args.id c.renew-done.ensures.reads c.sound-2.ensures.sound c.requires.calm.led }

pub returns-clause-led : goal.returns-clause-led
returns-clause-led c =
    on_ok c.renew-done.result (λ kept k led. led_evaluated c.args.self.now.refs c.renew-done.new.self c.args.id c.renew-done.ensures.reads c.sound-2.ensures.sound led) c.renew-done.ensures.kept
    c.renew-done.ensures.kept
