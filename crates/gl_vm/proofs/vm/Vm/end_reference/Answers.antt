use Rattle.std.proofs.Common.{option_map, ap}
use Rattle.gl_refs.specs.State as s
use Rattle.gl_vm.proofs.Calms.{calm_ended}
use Rattle.gl_vm.proofs.Ended.{forgotten, reference_gone}
use Rattle.gl_vm.proofs.Reached.{led_forgotten}
use Rattle.gl_vm.proofs.Leading.{led_ended}
use Rattle.gl_vm.proofs.vm.Vm.end_reference.Goals as goal

pub returns-clause-step : goal.returns-clause-step
returns-clause-step c h =
    let e = c.free.ensures in
    reference_gone c.args.self.now c.free.new.self c.args.id c.sound.ensures.stamped c.sound.ensures.sound c.requires.live e.ends e.tags e.counts (forgotten c.args.self.now.refs c.args.id (λ e. led_forgotten c.args.self.now.refs c.args.id c.sound.ensures.sound c.requires.unread (h e)))

pub returns-clause-ended : goal.returns-clause-ended
returns-clause-ended c = ap (option_map (λ (x : s.Row). x.form)) c.free.ensures.ends.ended

pub returns-clause-others : goal.returns-clause-others
returns-clause-others c i ne = ap (option_map (λ (x : s.Row). x.form)) (c.free.ensures.ends.others i ne)

pub returns-clause-calm : goal.returns-clause-calm
returns-clause-calm c calm = record {
  unread = calm_ended c.args.self.now.refs c.free.new.self c.args.id (λ q ne. ap (option_map (λ (x : s.Row). x.form)) (c.free.ensures.ends.others q ne)) calm.unread
      (ap (option_map (λ (x : s.Row). x.form)) c.free.ensures.ends.ended);
  led = let e = c.free.ensures in led_ended c.args.self.now.refs c.free.new.self c.args.id c.sound.ensures.sound c.requires.unread e.ends e.tags calm.led;
}

pub returns-clause-led : goal.returns-clause-led
returns-clause-led c led = let e = c.free.ensures in led_ended c.args.self.now.refs c.free.new.self c.args.id c.sound.ensures.sound c.requires.unread e.ends e.tags led
