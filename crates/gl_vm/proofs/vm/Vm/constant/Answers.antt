use Rattle.std.proofs.Common.{refl, sym, subst}
use Rattle.gl_value.specs.View.{view}
use Rattle.gl_arena.proofs.Stamps.{on_if}
use Rattle.gl_refs.specs.Forms as f
use Rattle.gl_vm.proofs.Rows.{plain_step, plain_numbers}
use Rattle.gl_vm.specs.View.{PositionsUnread}
use Rattle.gl_vm.specs.Led.{Led}
use Rattle.gl_vm.proofs.Calms.{either_way, calm_makes, olds_makes, olds_err, form_makes}
use Rattle.gl_vm.proofs.Leading.{led_makes}
use Rattle.gl_vm.proofs.vm.Vm.constant.Goals as goal

pub returns-clause-step : goal.returns-clause-step
returns-clause-step c = on_if c.constant.result (λ id m. plain_step c.args.self.now c.constant.new.self id (f.constant_form (view c.args.value)) refl c.sound.ensures.stamped m) c.constant.ensures.ok

pub returns-clause-id : goal.returns-clause-id
returns-clause-id c = on_if c.constant.result (λ id m. plain_numbers c.args.self.now c.constant.new.self id (f.constant_form (view c.args.value)) refl c.sound.ensures.stamped m) c.constant.ensures.ok

pub returns-clause-form : goal.returns-clause-form
returns-clause-form c = on_if c.constant.result (λ id m. form_makes c.args.self.now.refs c.constant.new.self id (f.constant_form (view c.args.value)) m) c.constant.ensures.ok

pub returns-clause-olds : goal.returns-clause-olds
returns-clause-olds c =
    either_way c.constant.result (λ id m. olds_makes c.args.self.now.refs c.constant.new.self id (f.constant_form (view c.args.value)) m) (λ e. olds_err c.args.self.now.refs c.constant.new.self e) c.constant.ensures.ok c.constant.ensures.err

pub returns-clause-calm : goal.returns-clause-calm
returns-clause-calm c calm = record {
  unread = either_way c.constant.result (λ id m. calm_makes c.args.self.now.refs c.constant.new.self id (f.constant_form (view c.args.value)) m c.sound.ensures.sound.lower tt calm.unread)
      (λ e. subst PositionsUnread (sym e) calm.unread) c.constant.ensures.ok c.constant.ensures.err;
  led = either_way c.constant.result (λ id m. led_makes c.args.self.now.refs c.constant.new.self id (f.constant_form (view c.args.value)) c.sound.ensures.sound m calm.led) (λ e. subst Led (sym e) calm.led) c.constant.ensures.ok c.constant.ensures.err;
}

pub returns-clause-led : goal.returns-clause-led
returns-clause-led c = on_if c.constant.result (λ id m led. led_makes c.args.self.now.refs c.constant.new.self id (f.constant_form (view c.args.value)) c.sound.ensures.sound m led) c.constant.ensures.ok
