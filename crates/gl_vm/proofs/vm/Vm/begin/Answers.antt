use Rattle.std.proofs.Common.{sym, ap, subst, false}
use Rattle.gl_mods.specs.Mods.{Mods}
use Rattle.gl_refs.specs.Refs.{Refs, forms_of}
use Rattle.gl_plain.specs.Turns.{begin}
use Rattle.gl_vm.specs.View.{Agrees}
use Rattle.gl_vm.specs.Steps.{Does}
use Rattle.gl_vm.proofs.Begins.{begun, begin_step, untouched}
use Rattle.gl_vm.proofs.Calms.{calm_same}
use Rattle.gl_vm.proofs.Leading.{led_same}
use Rattle.gl_vm.proofs.vm.Vm.begin.Goals as goal

pub returns-clause-step : goal.returns-clause-step
returns-clause-step c =
    let vm = c.args.self.now in
    subst (λ (r : Refs). Does (λ n. begin) vm (record vm { refs = r; mods = c.commit.new.self })) (sym c.begin.ensures)
    (subst (λ (m : Mods). Does (λ n. begin) vm (record vm { refs = begun vm c.sound.ensures.stamped c.sound.ensures.sound; mods = m })) (sym c.commit.ensures.left) (begin_step vm c.sound.ensures.stamped c.sound.ensures.sound))

pub returns-clause-untouched : goal.returns-clause-untouched
returns-clause-untouched c =
    let vm = c.args.self.now in
    subst (λ (r : Refs). Agrees (λ x. false) (record vm { refs = r })) (sym c.begin.ensures) (untouched vm c.sound.ensures.stamped c.sound.ensures.sound)

pub returns-clause-calm : goal.returns-clause-calm
returns-clause-calm c calm = record {
  unread = calm_same c.args.self.now.refs c.begin.new.self (ap (λ (r : Refs). forms_of r) c.begin.ensures) calm.unread;
  led = led_same c.args.self.now.refs c.begin.new.self (ap (λ (r : Refs). r.rows) c.begin.ensures) (ap (λ (r : Refs). r.tags.tags) c.begin.ensures) calm.led;
}

pub returns-clause-led : goal.returns-clause-led
returns-clause-led c led = led_same c.args.self.now.refs c.begin.new.self (ap (λ (r : Refs). r.rows) c.begin.ensures) (ap (λ (r : Refs). r.tags.tags) c.begin.ensures) led
