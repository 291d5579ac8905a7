use Rattle.std.proofs.lemmas.Result.{IfOk-weaker}
use Rattle.gl_plain.specs.Naming.{by_number}
use Rattle.gl_program.specs.View.{program_view}
use Rattle.gl_machine.specs.Step.{step_as}
use Rattle.gl_append.specs.Stepping.{StepsIn, DoesOp}
use Rattle.gl_append.proofs.OpSteps.{word_does}
use Rattle.gl_append.proofs.machine.Machine.step.Goals as goal

pub returns-clause-step : goal.returns-clause-step
returns-clause-step c =
    IfOk-weaker c.do_op.result (λ r. DoesOp c.args.app.now c.args.cells.now (program_view c.in_ok-program.program.now) c.in_ok-op.op c.args.vm.now c.args.self.now c.do_op.new.vm c.do_op.new.self r)
    (λ r. StepsIn c.args.app.now c.args.cells.now (λ env store. step_as by_number env store) c.args.vm.now c.args.self.now c.do_op.new.vm c.do_op.new.self r)
    (λ r h. word_does c.args.app.now c.args.cells.now (program_view c.in_ok-program.program.now) c.in_ok-op.op c.args.vm.now c.do_op.new.vm c.args.self.now c.do_op.new.self r c.in_ok-program.ensures c.in_ok-op.ensures h) c.do_op.ensures.step
