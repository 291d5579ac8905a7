use Rattle.std.proofs.Common.{◌≡◌, true, IsSome, sym, subst}
use Rattle.gl_arena.proofs.Stamps.{on_if}
use Rattle.gl_refs.specs.Forms.{parts}
use Rattle.gl_refs.specs.State.{is_readable}
use Rattle.gl_refs.specs.Refs.{forms_of}
use Rattle.gl_refs.specs.View as code
use Rattle.gl_refs.proofs.Meanings.{each_map}
use Rattle.gl_refs.proofs.Rows.{bound_form}
use Rattle.gl_vm.proofs.Rows.{plain_step, plain_numbers, bound_plain}
use Rattle.gl_vm.specs.View.{PositionsUnread}
use Rattle.gl_vm.specs.Led.{Led}
use Rattle.gl_vm.proofs.Calms.{live_of, either_way, calm_makes, olds_makes, olds_err, form_makes}
use Rattle.gl_vm.proofs.Leading.{led_makes}
use Rattle.gl_vm.proofs.vm.Vm.bind.Goals as goal

pub returns-clause-step : goal.returns-clause-step
returns-clause-step c =
    on_if c.bind.result
    (λ id m. plain_step c.args.self.now c.bind.new.self id (code.seen_form c.args.form) (bound_plain (code.seen_form c.args.form) (bound_form c.args.form)) c.sound.ensures.stamped m)
    c.bind.ensures.ok

pub returns-clause-id : goal.returns-clause-id
returns-clause-id c =
    on_if c.bind.result
    (λ id m. plain_numbers c.args.self.now c.bind.new.self id (code.seen_form c.args.form) (bound_plain (code.seen_form c.args.form) (bound_form c.args.form)) c.sound.ensures.stamped m)
    c.bind.ensures.ok

pub bind-requires-clause-parts : goal.bind-requires-clause-parts
bind-requires-clause-parts c =
    each_map (λ q. is_readable (forms_of c.args.self.now.refs q) ≡ true) (λ q. IsSome (forms_of c.args.self.now.refs q)) (parts (code.seen_form c.args.form)) (λ q h. live_of (forms_of c.args.self.now.refs q) h) c.requires.parts

pub returns-clause-form : goal.returns-clause-form
returns-clause-form c = on_if c.bind.result (λ id m. form_makes c.args.self.now.refs c.bind.new.self id (code.seen_form c.args.form) m) c.bind.ensures.ok

pub returns-clause-olds : goal.returns-clause-olds
returns-clause-olds c =
    either_way c.bind.result (λ id m. olds_makes c.args.self.now.refs c.bind.new.self id (code.seen_form c.args.form) m) (λ e. olds_err c.args.self.now.refs c.bind.new.self e) c.bind.ensures.ok c.bind.ensures.err

pub returns-clause-calm : goal.returns-clause-calm
returns-clause-calm c calm = record {
  unread = either_way c.bind.result (λ id m. calm_makes c.args.self.now.refs c.bind.new.self id (code.seen_form c.args.form) m c.sound.ensures.sound.lower c.requires.parts calm.unread)
      (λ e. subst PositionsUnread (sym e) calm.unread) c.bind.ensures.ok c.bind.ensures.err;
  led = either_way c.bind.result (λ id m. led_makes c.args.self.now.refs c.bind.new.self id (code.seen_form c.args.form) c.sound.ensures.sound m calm.led) (λ e. subst Led (sym e) calm.led) c.bind.ensures.ok c.bind.ensures.err;
}

pub returns-clause-led : goal.returns-clause-led
returns-clause-led c = on_if c.bind.result (λ id m led. led_makes c.args.self.now.refs c.bind.new.self id (code.seen_form c.args.form) c.sound.ensures.sound m led) c.bind.ensures.ok
