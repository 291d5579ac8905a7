use Rattle.std.proofs.Common.{◌∙◌, Some, true, false, refl, ap, sym}
use Rattle.gl_value.specs.Value as v
use Rattle.gl_value.specs.View.{view}
use Rattle.gl_plain.specs.State.{constant_form}
use Rattle.gl_program.specs.View.{program_view}
use Rattle.gl_machine.specs.Step as s
use Rattle.gl_vm.specs.Labels.{labelled}
use Rattle.gl_ops.specs.declared.op.Op.TheVariants as op
use Rattle.gl_append.proofs.OpSteps.{does, text_does, integer_does}
use Rattle.gl_append.proofs.machine.Machine.do_value_op.Goals as goal

pub returns-in_ok-push_constant-in-Undef-clause-step : goal.returns-in_ok-push_constant-in-Undef-clause-step
returns-in_ok-push_constant-in-Undef-clause-step c =
    does c.args.app.now c.args.cells.now (program_view c.args.program.now) c.args.op op.Undef (λ n. s.push_new (constant_form v.undefined)) c.args.vm.now c.push_constant.new.vm c.args.self.now c.push_constant.new.self c.in-Undef.is
    (λ at ts store st. refl)
    c.in_ok-push_constant-in-Undef.ensures.step

pub returns-in_ok-push_constant-in-Null-clause-step : goal.returns-in_ok-push_constant-in-Null-clause-step
returns-in_ok-push_constant-in-Null-clause-step c =
    does c.args.app.now c.args.cells.now (program_view c.args.program.now) c.args.op op.Null (λ n. s.push_new (constant_form v.null)) c.args.vm.now c.push_constant-in-Null.new.vm c.args.self.now c.push_constant-in-Null.new.self c.in-Null.is
    (λ at ts store st. refl)
    c.in_ok-push_constant-in-Null.ensures.step

pub returns-in_ok-push_constant-in-True-clause-step : goal.returns-in_ok-push_constant-in-True-clause-step
returns-in_ok-push_constant-in-True-clause-step c =
    does c.args.app.now c.args.cells.now (program_view c.args.program.now) c.args.op op.True (λ n. s.push_new (constant_form (v.boolean true))) c.args.vm.now c.push_constant-in-True.new.vm c.args.self.now c.push_constant-in-True.new.self c.in-True.is
    (λ at ts store st. refl)
    c.in_ok-push_constant-in-True.ensures.step

pub returns-in_ok-push_constant-in-False-clause-step : goal.returns-in_ok-push_constant-in-False-clause-step
returns-in_ok-push_constant-in-False-clause-step c =
    does c.args.app.now c.args.cells.now (program_view c.args.program.now) c.args.op op.False (λ n. s.push_new (constant_form (v.boolean false))) c.args.vm.now c.push_constant-in-False.new.vm c.args.self.now c.push_constant-in-False.new.self c.in-False.is
    (λ at ts store st. refl)
    c.in_ok-push_constant-in-False.ensures.step

pub returns-in_ok-push_constant-in-Int-clause-step : goal.returns-in_ok-push_constant-in-Int-clause-step
returns-in_ok-push_constant-in-Int-clause-step c =
    does c.args.app.now c.args.cells.now (program_view c.args.program.now) c.args.op (op.Int c.in-Int.b) (λ n. s.push_new (constant_form (labelled (view c.in_ok-value-in-Int.value)))) c.args.vm.now c.push_constant-in-Int.new.vm c.args.self.now c.push_constant-in-Int.new.self c.in-Int.is
    (integer_does c.args.app.now (program_view c.args.program.now) c.in-Int.b (view c.in_ok-value-in-Int.value) c.args.self.now c.in_ok-value-in-Int.ensures)
    c.in_ok-push_constant-in-Int.ensures.step

pub returns-in_ok-push_constant-in-Str-clause-step : goal.returns-in_ok-push_constant-in-Str-clause-step
returns-in_ok-push_constant-in-Str-clause-step c =
    does c.args.app.now c.args.cells.now (program_view c.args.program.now) c.args.op (op.Str c.in-Str.b) (λ n. s.push_new (constant_form (v.text c.in_ok-text-in-Str.text))) c.args.vm.now c.push_constant-in-Str.new.vm c.args.self.now c.push_constant-in-Str.new.self c.in-Str.is
    (text_does c.args.app.now (program_view c.args.program.now) c.in-Str.b c.in_ok-text-in-Str.text (λ t. s.push_new (constant_form (v.text t))) c.args.self.now (c.in_ok-text_at-in-Str.ensures ∙ ap Some (sym c.in_ok-text-in-Str.ensures)))
    c.in_ok-push_constant-in-Str.ensures.step
