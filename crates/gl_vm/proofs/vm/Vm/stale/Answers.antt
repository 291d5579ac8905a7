use Rattle.std.proofs.Common.{ap}
use Rattle.gl_refs.specs.Refs.{Refs, forms_of}
use Rattle.gl_vm.proofs.Calms.{calm_same}
use Rattle.gl_vm.proofs.Leading.{led_same}
use Rattle.gl_vm.proofs.Stale.{told_stale}
use Rattle.gl_vm.proofs.vm.Vm.stale.Goals as goal

pub returns-clause-exact : goal.returns-clause-exact
returns-clause-exact c calm = told_stale c.args.self.now c.args.id c.stale.result c.sound.ensures.stamped c.sound.ensures.sound c.stale.ensures.answers.0 c.stale.ensures.value calm.led

pub returns-clause-calm : goal.returns-clause-calm
returns-clause-calm c calm =
    let a = c.args.self.now.refs in
    let b = c.stale.new.self in
    record {
      unread = calm_same a b (ap (λ (r : Refs). forms_of r) c.stale.ensures.asks) calm.unread;
      led = led_same a b (ap (λ (r : Refs). r.rows) c.stale.ensures.asks) (ap (λ (r : Refs). r.tags.tags) c.stale.ensures.asks) calm.led;
    }
