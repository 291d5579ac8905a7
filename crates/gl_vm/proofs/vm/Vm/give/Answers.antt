use Rattle.std.proofs.Common.{◌⊎◌, inl, inr}
use Rattle.gl_value.specs.View.{view}
use Rattle.gl_vm.proofs.Sets.{give_step}
use Rattle.gl_vm.proofs.Calms.{calm_given}
use Rattle.gl_vm.proofs.Leading.{led_given}
use Rattle.gl_vm.proofs.vm.Vm.give.Goals as goal

-- what is said by cases, as two implications
where_it_holds : {H N S : Type 0} → (H × N) ⊎ ((H → ⊥) × S) → H → N
where_it_holds (inl x) h = x.1
where_it_holds (inr x) h = absurd (x.0 h)

where_it_fails : {H N S : Type 0} → (H × N) ⊎ ((H → ⊥) × S) → (H → ⊥) → S
where_it_fails (inl x) n = absurd (n x.0)
where_it_fails (inr x) n = x.1

pub returns-clause-step : goal.returns-clause-step
returns-clause-step c =
    give_step c.args.self.now c.give.new.self c.args.item (view c.args.value) c.sound.ensures.stamped c.sound.ensures.sound c.requires.item (where_it_holds c.give.ensures)
    (where_it_fails c.give.ensures)

pub returns-clause-calm : goal.returns-clause-calm
returns-clause-calm c calm = record { unread = calm_given c.args.self.now.refs c.give.new.self c.args.item (view c.args.value) c.give.ensures calm.unread; led = led_given c.args.self.now.refs c.give.new.self c.args.item (view c.args.value) c.sound.ensures.sound c.give.ensures calm.led }

pub returns-clause-led : goal.returns-clause-led
returns-clause-led c led = led_given c.args.self.now.refs c.give.new.self c.args.item (view c.args.value) c.sound.ensures.sound c.give.ensures led
