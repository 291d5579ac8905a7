use Rattle.std.proofs.Common.{false}
use Rattle.gl_value.specs.View.{view}
use Rattle.gl_arena.proofs.Stamps.{on_if}
use Rattle.gl_vm.proofs.Sources.{source_step, source_numbers}
use Rattle.gl_vm.proofs.Calms.{on_err, either_way, calm_same, calm_source, olds_source, olds_kept, cell_source, live_source}
use Rattle.gl_vm.proofs.Wants.{keeps_step, keeps_forms}
use Rattle.gl_vm.proofs.Leading.{led_source, led_kept}
use Rattle.gl_vm.proofs.vm.Vm.cell.Goals as goal

pub returns-clause-step : goal.returns-clause-step
returns-clause-step c =
    on_if c.cell.result (λ id m. source_step c.args.self.now c.cell.new.self id false (view c.args.value) c.sound.ensures.stamped c.sound.ensures.sound m) c.cell.ensures.ok

pub returns-clause-id : goal.returns-clause-id
returns-clause-id c =
    on_if c.cell.result (λ id m. source_numbers c.args.self.now c.cell.new.self id false (view c.args.value) c.sound.ensures.stamped c.sound.ensures.sound m) c.cell.ensures.ok

pub returns-clause-cell : goal.returns-clause-cell
returns-clause-cell c = on_if c.cell.result (λ id m. cell_source c.args.self.now.refs c.cell.new.self id (view c.args.value) m) c.cell.ensures.ok

pub returns-clause-olds : goal.returns-clause-olds
returns-clause-olds c =
    either_way c.cell.result (λ id m. olds_source c.args.self.now.refs c.cell.new.self id false (view c.args.value) m) (λ e. olds_kept c.args.self.now.refs c.cell.new.self (keeps_forms c.args.self.now.refs c.cell.new.self e)) c.cell.ensures.ok
    c.cell.ensures.err

pub returns-clause-calm : goal.returns-clause-calm
returns-clause-calm c calm = record {
  unread = either_way c.cell.result (λ id m. calm_source c.args.self.now.refs c.cell.new.self id false (view c.args.value) m c.sound.ensures.sound.lower calm.unread)
      (λ e. calm_same c.args.self.now.refs c.cell.new.self (keeps_forms c.args.self.now.refs c.cell.new.self e) calm.unread) c.cell.ensures.ok c.cell.ensures.err;
  led = either_way c.cell.result (λ id m. led_source c.args.self.now.refs c.cell.new.self id false (view c.args.value) c.sound.ensures.sound m calm.led) (λ e. led_kept c.args.self.now.refs c.cell.new.self e calm.led) c.cell.ensures.ok c.cell.ensures.err;
}

pub returns-clause-err : goal.returns-clause-err
returns-clause-err c = on_err c.cell.result (λ k. keeps_step c.args.self.now c.cell.new.self c.sound.ensures.stamped c.sound.ensures.sound k) c.cell.ensures.err

pub returns-clause-live : goal.returns-clause-live
returns-clause-live c = on_if c.cell.result (λ id m. live_source c.args.self.now.refs c.cell.new.self id false (view c.args.value) m) c.cell.ensures.ok

pub returns-clause-led : goal.returns-clause-led
returns-clause-led c = on_if c.cell.result (λ id m led. led_source c.args.self.now.refs c.cell.new.self id false (view c.args.value) c.sound.ensures.sound m led) c.cell.ensures.ok
