use Rattle.std.proofs.Common.{ℕ, Some, None, refl, sym, subst}
use Rattle.std.proofs.lemmas.Result.{IfOk-weaker}
use Rattle.gl_meaning.specs.View.{manifest_view}
use Rattle.gl_ops.specs.declared.op.Op.TheVariants as op
use Rattle.gl_plain.specs.Naming.{by_number}
use Rattle.gl_program.specs.View.{program_view}
use Rattle.gl_machine.specs.Step as s
use Rattle.gl_vm.specs.View.{Tables}
use Rattle.gl_append.specs.ListSteps.{each_at}
use Rattle.gl_append.specs.Steps.{PopsFrame}
use Rattle.gl_code.specs.Tables.{tables_of}
use Rattle.gl_append.specs.declared.step.Next.TheVariants as next
use Rattle.gl_append.specs.Stepping.{Stepped, DoesOp}
use Rattle.gl_append.proofs.FrameEnds.{takes_ended, over_ended}
use Rattle.gl_append.proofs.FramesFree.{end_if_free, end_item_free}
use Rattle.gl_append.proofs.OpSteps.{does, each_does, after_top}
use Rattle.gl_append.proofs.machine.Machine.do_list_op.Goals as goal

pub returns-in-None-clause-step : goal.returns-in-None-clause-step
returns-in-None-clause-step c =
    let p : PopsFrame c.args.self.now c.pop_frame.new.self None = subst (λ o. PopsFrame c.args.self.now c.pop_frame.new.self o) c.in-None.is c.in_ok-pop_frame-in-EndIf.ensures in
    subst (λ z. DoesOp c.args.app.now c.args.cells.now (program_view c.args.program.now) z c.args.vm.now c.args.self.now c.args.vm.now c.pop_frame.new.self next.Finished) (sym c.in-EndIf.is)
    (λ at ts rise. (refl, over_ended s.do_end_if c.args.self.now c.pop_frame.new.self p (tables_of (manifest_view c.args.app.now.manifest))))

pub returns-in_ok-do_end_if-in-Some-clause-step : goal.returns-in_ok-do_end_if-in-Some-clause-step
returns-in_ok-do_end_if-in-Some-clause-step c =
    let p : PopsFrame c.args.self.now c.pop_frame.new.self (Some c.in-Some.frame) = subst (λ o. PopsFrame c.args.self.now c.pop_frame.new.self o) c.in-Some.is c.in_ok-pop_frame-in-EndIf.ensures in
    does c.args.app.now c.args.cells.now (program_view c.args.program.now) c.args.op op.EndIf (λ n m. s.with_end m s.do_end_if) c.args.vm.now c.do_end_if.new.vm c.args.self.now c.do_end_if.new.self c.in-EndIf.is (λ at ts store st. refl)
    (takes_ended (λ n. s.do_end_if) c.args.vm.now c.do_end_if.new.vm c.args.self.now c.pop_frame.new.self c.do_end_if.new.self c.in-Some.frame (λ n. end_if_free) p c.in_ok-do_end_if-in-Some.ensures.step)

pub returns-in_ok-do_each-in-Each-clause-step : goal.returns-in_ok-do_each-in-Each-clause-step
returns-in_ok-do_each-in-Each-clause-step c =
    let o : ℕ × ℕ = c.in_ok-operands-in-Each.operands in
    does c.args.app.now c.args.cells.now (program_view c.args.program.now) c.args.op (op.Each c.in-Each.a c.in-Each.b) (λ n m. s.given (s.popped m.stack) (each_at c.in_ok-key-in-Each.key.now c.in-Each.b o m)) c.args.vm.now c.do_each.new.vm c.args.self.now c.do_each.new.self c.in-Each.is
    (each_does c.args.app.now (program_view c.args.program.now) c.in-Each.a c.in-Each.b c.in_ok-key-in-Each.key.now o c.args.self.now c.in_ok-key-in-Each.ensures c.in_ok-operands-in-Each.ensures)
    (after_top (each_at c.in_ok-key-in-Each.key.now c.in-Each.b o) c.args.vm.now c.do_each.new.vm c.args.self.now c.do_each.new.self c.pop_pushed.new.stack c.in_ok-top-in-Each.top (λ m p. refl) c.in_ok-top-in-Each.ensures c.in_ok-do_each-in-Each.ensures.step)

pub returns-in_ok-do_item-in-Item-clause-step : goal.returns-in_ok-do_item-in-Item-clause-step
returns-in_ok-do_item-in-Item-clause-step c =
    does c.args.app.now c.args.cells.now (program_view c.args.program.now) c.args.op (op.Item c.in-Item.a c.in-Item.b) (λ n m. s.with_top m (s.do_item_as by_number)) c.args.vm.now c.do_item.new.vm c.args.self.now c.do_item.new.self c.in-Item.is (λ at ts store st. refl) c.in_ok-do_item-in-Item.ensures.step

pub returns-in-None-2-clause-step : goal.returns-in-None-2-clause-step
returns-in-None-2-clause-step c =
    let p : PopsFrame c.args.self.now c.pop_frame-in-EndItem.new.self None = subst (λ o. PopsFrame c.args.self.now c.pop_frame-in-EndItem.new.self o) c.in-None-2.is c.in_ok-pop_frame-in-EndItem.ensures in
    subst (λ z. DoesOp c.args.app.now c.args.cells.now (program_view c.args.program.now) z c.args.vm.now c.args.self.now c.args.vm.now c.pop_frame-in-EndItem.new.self next.Finished) (sym c.in-EndItem.is)
    (λ at ts rise. (refl, over_ended s.do_end_item c.args.self.now c.pop_frame-in-EndItem.new.self p (tables_of (manifest_view c.args.app.now.manifest))))

pub returns-in_ok-do_end_item-in-Some-2-clause-step : goal.returns-in_ok-do_end_item-in-Some-2-clause-step
returns-in_ok-do_end_item-in-Some-2-clause-step c =
    let p : PopsFrame c.args.self.now c.pop_frame-in-EndItem.new.self (Some c.in-Some-2.frame) = subst (λ o. PopsFrame c.args.self.now c.pop_frame-in-EndItem.new.self o) c.in-Some-2.is c.in_ok-pop_frame-in-EndItem.ensures in
    does c.args.app.now c.args.cells.now (program_view c.args.program.now) c.args.op op.EndItem (λ n m. s.with_end m s.do_end_item) c.args.vm.now c.do_end_item.new.vm c.args.self.now c.do_end_item.new.self c.in-EndItem.is (λ at ts store st. refl)
    (takes_ended (λ n. s.do_end_item) c.args.vm.now c.do_end_item.new.vm c.args.self.now c.pop_frame-in-EndItem.new.self c.do_end_item.new.self c.in-Some-2.frame (λ n. end_item_free) p c.in_ok-do_end_item-in-Some-2.ensures.step)

pub returns-in-EndEach-clause-step : goal.returns-in-EndEach-clause-step
returns-in-EndEach-clause-step c =
    IfOk-weaker c.leave_each.result (λ r. (n : Tables) → Stepped n (λ m. s.with_end m s.do_end_each) c.args.vm.now c.args.self.now c.leave_each.new.vm c.leave_each.new.self r)
    (λ r. DoesOp c.args.app.now c.args.cells.now (program_view c.args.program.now) c.args.op c.args.vm.now c.args.self.now c.leave_each.new.vm c.leave_each.new.self r)
    (λ r h. subst (λ z. DoesOp c.args.app.now c.args.cells.now (program_view c.args.program.now) z c.args.vm.now c.args.self.now c.leave_each.new.vm c.leave_each.new.self r) (sym c.in-EndEach.is)
    (λ at ts rise. h (tables_of (manifest_view c.args.app.now.manifest)))) c.leave_each.ensures.step
