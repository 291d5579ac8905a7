use Rattle.std.proofs.Common.{true, false, refl, sym, subst}
use Rattle.std.proofs.lemmas.Result.{IfOk-weaker}
use Rattle.gl_vm.specs.declared.vm.Vm.{Vm}
use Rattle.gl_append.specs.Stepping.{Stepped, DoesOp}
use Rattle.gl_program.specs.View.{program_view}
use Rattle.gl_machine.specs.Step as s
use Rattle.gl_vm.specs.View.{Tables}
use Rattle.gl_ops.specs.declared.op.Op.TheVariants as op
use Rattle.gl_meaning.specs.View.{manifest_view}
use Rattle.gl_code.specs.Tables.{tables_of}
use Rattle.gl_append.proofs.OpSteps.{does, text_does, after_top}
use Rattle.gl_append.proofs.Taking.{moved}
use Rattle.gl_append.proofs.machine.Machine.do_op.Goals as goal

pub returns-in_ok-do_text-in-Text-clause-step : goal.returns-in_ok-do_text-in-Text-clause-step
returns-in_ok-do_text-in-Text-clause-step c =
    does c.args.app.now c.args.cells.now (program_view c.args.program.now) c.args.op (op.Text c.in-Text.b) (λ n. s.do_text c.in_ok-text-in-Text.text.now) c.args.vm.now c.do_text.new.vm c.args.self.now c.do_text.new.self c.in-Text.is
    (text_does c.args.app.now (program_view c.args.program.now) c.in-Text.b c.in_ok-text-in-Text.text.now s.do_text c.args.self.now c.in_ok-text-in-Text.ensures)
    c.in_ok-do_text-in-Text.ensures.step

pub returns-in_ok-do_comment-in-Comment-clause-step : goal.returns-in_ok-do_comment-in-Comment-clause-step
returns-in_ok-do_comment-in-Comment-clause-step c =
    does c.args.app.now c.args.cells.now (program_view c.args.program.now) c.args.op (op.Comment c.in-Comment.b) (λ n. s.do_comment c.in_ok-text-in-Comment.text.now) c.args.vm.now c.do_comment.new.vm c.args.self.now c.do_comment.new.self c.in-Comment.is
    (text_does c.args.app.now (program_view c.args.program.now) c.in-Comment.b c.in_ok-text-in-Comment.text.now s.do_comment c.args.self.now c.in_ok-text-in-Comment.ensures)
    c.in_ok-do_comment-in-Comment.ensures.step

pub returns-in_ok-do_put-in-Put-clause-step : goal.returns-in_ok-do_put-in-Put-clause-step
returns-in_ok-do_put-in-Put-clause-step c =
    does c.args.app.now c.args.cells.now (program_view c.args.program.now) c.args.op op.Put (λ n. (λ m. s.given (s.popped m.stack) (s.do_put m))) c.args.vm.now c.do_put.new.vm c.args.self.now c.do_put.new.self c.in-Put.is
    (λ at ts store st. refl)
    (after_top s.do_put c.args.vm.now c.do_put.new.vm c.args.self.now c.do_put.new.self c.pop_pushed.new.stack c.in_ok-top-in-Put.top (λ m p. refl) c.in_ok-top-in-Put.ensures c.in_ok-do_put-in-Put.ensures.step)

pub returns-in_ok-do_if-in-If-clause-step : goal.returns-in_ok-do_if-in-If-clause-step
returns-in_ok-do_if-in-If-clause-step c =
    does c.args.app.now c.args.cells.now (program_view c.args.program.now) c.args.op (op.If c.in-If.b) (λ n. (λ m. s.given (s.popped m.stack) (s.do_if false c.in-If.b m))) c.args.vm.now c.do_if.new.vm c.args.self.now c.do_if.new.self c.in-If.is
    (λ at ts store st. refl)
    (after_top (s.do_if false c.in-If.b) c.args.vm.now c.do_if.new.vm c.args.self.now c.do_if.new.self c.pop_pushed-in-If.new.stack c.in_ok-top-in-If.top (λ m p. refl) c.in_ok-top-in-If.ensures c.in_ok-do_if-in-If.ensures.step)

pub returns-in_ok-do_if-in-Unless-clause-step : goal.returns-in_ok-do_if-in-Unless-clause-step
returns-in_ok-do_if-in-Unless-clause-step c =
    does c.args.app.now c.args.cells.now (program_view c.args.program.now) c.args.op (op.Unless c.in-Unless.b) (λ n. (λ m. s.given (s.popped m.stack) (s.do_if true c.in-Unless.b m))) c.args.vm.now c.do_if-in-Unless.new.vm c.args.self.now c.do_if-in-Unless.new.self c.in-Unless.is
    (λ at ts store st. refl)
    (after_top (s.do_if true c.in-Unless.b) c.args.vm.now c.do_if-in-Unless.new.vm c.args.self.now c.do_if-in-Unless.new.self c.pop_pushed-in-Unless.new.stack c.in_ok-top-in-Unless.top (λ m p. refl) c.in_ok-top-in-Unless.ensures c.in_ok-do_if-in-Unless.ensures.step)

pub returns-in_ok-do_let-in-Let-clause-step : goal.returns-in_ok-do_let-in-Let-clause-step
returns-in_ok-do_let-in-Let-clause-step c =
    does c.args.app.now c.args.cells.now (program_view c.args.program.now) c.args.op (op.Let c.in-Let.a) (λ n. s.do_let c.in-Let.a) c.args.vm.now c.args.vm.now c.args.self.now c.do_let.new.self c.in-Let.is
    (λ at ts store st. refl)
    (moved (λ n. s.do_let c.in-Let.a) c.args.vm.now c.args.self.now c.do_let.new.self c.in_ok-do_let-in-Let.ensures)

pub returns-in_ok-do_bind-in-Bind-clause-step : goal.returns-in_ok-do_bind-in-Bind-clause-step
returns-in_ok-do_bind-in-Bind-clause-step c =
    does c.args.app.now c.args.cells.now (program_view c.args.program.now) c.args.op (op.Bind c.in-Bind.a) (λ n. (λ m. s.do_bind c.in-Bind.a m m.rest.pending)) c.args.vm.now c.do_bind.new.vm c.args.self.now c.do_bind.new.self c.in-Bind.is
    (λ at ts store st. refl)
    c.in_ok-do_bind-in-Bind.ensures.step

pub returns-in_ok-do_bind-in-Param-clause-step : goal.returns-in_ok-do_bind-in-Param-clause-step
returns-in_ok-do_bind-in-Param-clause-step c =
    does c.args.app.now c.args.cells.now (program_view c.args.program.now) c.args.op (op.Param c.in-Param.a) (λ n. (λ m. s.do_bind c.in-Param.a m m.rest.pending)) c.args.vm.now c.do_bind-in-Param.new.vm c.args.self.now c.do_bind-in-Param.new.self c.in-Param.is
    (λ at ts store st. refl)
    c.in_ok-do_bind-in-Param.ensures.step

pub returns-in_ok-do_end_let-in-EndLet-clause-step : goal.returns-in_ok-do_end_let-in-EndLet-clause-step
returns-in_ok-do_end_let-in-EndLet-clause-step c =
    does c.args.app.now c.args.cells.now (program_view c.args.program.now) c.args.op op.EndLet (λ n. (λ m. s.with_top m s.do_end_let)) c.args.vm.now c.args.vm.now c.args.self.now c.do_end_let.new.self c.in-EndLet.is
    (λ at ts store st. refl)
    (moved (λ n. (λ m. s.with_top m s.do_end_let)) c.args.vm.now c.args.self.now c.do_end_let.new.self c.in_ok-do_end_let-in-EndLet.ensures)

pub returns-in-Else-clause-step : goal.returns-in-Else-clause-step
returns-in-Else-clause-step c =
    IfOk-weaker c.do_else.result (λ r. (n : Tables) (vm : Vm) → Stepped n (λ m. s.else_at m c.in-Else.b (s.popped m.rest.frames)) vm c.args.self.now vm c.do_else.new.self r)
    (λ r. DoesOp c.args.app.now c.args.cells.now (program_view c.args.program.now) c.args.op c.args.vm.now c.args.self.now c.args.vm.now c.do_else.new.self r)
    (λ r h. subst (λ z. DoesOp c.args.app.now c.args.cells.now (program_view c.args.program.now) z c.args.vm.now c.args.self.now c.args.vm.now c.do_else.new.self r) (sym c.in-Else.is)
    (λ at ts rise. h (tables_of (manifest_view c.args.app.now.manifest)) c.args.vm.now)) c.do_else.ensures
