use Rattle.std.proofs.Common.{Some, None, refl, ap, sym, subst}
use Rattle.std.proofs.lemmas.Result.{IfOk-weaker}
use Rattle.gl_meaning.specs.View.{manifest_view}
use Rattle.gl_ops.specs.declared.op.Op.TheVariants as op
use Rattle.gl_plain.specs.Naming.{by_number}
use Rattle.gl_program.specs.View.{program_view}
use Rattle.gl_machine.specs.Mach.{Mach, Run}
use Rattle.gl_machine.specs.Step as s
use Rattle.gl_vm.specs.View.{Tables}
use Rattle.gl_vm.specs.declared.vm.Vm.{Vm}
use Rattle.gl_append.specs.Steps.{PopsFrame}
use Rattle.gl_code.specs.Tables.{tables_of, env_of}
use Rattle.gl_append.specs.declared.step.Next.TheVariants as next
use Rattle.gl_append.specs.MachineView.{mach_by}
use Rattle.gl_code.specs.Cells.{store_of}
use Rattle.gl_append.specs.Stepping.{Stepped, StepsIn, DoesOp}
use Rattle.gl_append.proofs.FrameEnds.{moves_ended, over_ended}
use Rattle.gl_append.proofs.FramesFree.{end_block_free}
use Rattle.gl_append.proofs.OpSteps.{does, name_does, parts_passed, parts_done}
use Rattle.gl_append.proofs.Taking.{moved}
use Rattle.gl_append.proofs.machine.Machine.do_block_op.Goals as goal

pub returns-in-Invoke-clause-step : goal.returns-in-Invoke-clause-step
returns-in-Invoke-clause-step c =
    IfOk-weaker c.do_nest.result (λ r. StepsIn c.args.app.now c.args.cells.now (λ env store m. s.do_invoke_as by_number env store m m.rest.left) c.args.vm.now c.args.self.now c.do_nest.new.vm c.do_nest.new.self r)
    (λ r. DoesOp c.args.app.now c.args.cells.now (program_view c.args.program.now) c.args.op c.args.vm.now c.args.self.now c.do_nest.new.vm c.do_nest.new.self r)
    (λ r h. subst (λ z. DoesOp c.args.app.now c.args.cells.now (program_view c.args.program.now) z c.args.vm.now c.args.self.now c.do_nest.new.vm c.do_nest.new.self r) (sym c.in-Invoke.is) (λ at ts rise. h ts rise)) c.do_nest.ensures.step

pub returns-in_ok-do_yield-in-Yield-clause-step : goal.returns-in_ok-do_yield-in-Yield-clause-step
returns-in_ok-do_yield-in-Yield-clause-step c =
    does c.args.app.now c.args.cells.now (program_view c.args.program.now) c.args.op (op.Yield c.in-Yield.a c.in-Yield.b) (λ n. s.do_yield c.in-Yield.a c.in_ok-name-in-Yield.name.now) c.args.vm.now c.args.vm.now c.args.self.now c.do_yield.new.self c.in-Yield.is
    (name_does c.args.app.now (program_view c.args.program.now) c.in-Yield.b c.in_ok-name-in-Yield.name.now (s.do_yield c.in-Yield.a) c.args.self.now c.in_ok-name-in-Yield.ensures)
    (moved (λ n. s.do_yield c.in-Yield.a c.in_ok-name-in-Yield.name.now) c.args.vm.now c.args.self.now c.do_yield.new.self c.in_ok-do_yield-in-Yield.ensures)

pub returns-in-None-clause-step : goal.returns-in-None-clause-step
returns-in-None-clause-step c =
    let p : PopsFrame c.args.self.now c.pop_frame.new.self None = subst (λ o. PopsFrame c.args.self.now c.pop_frame.new.self o) c.in-None.is c.in_ok-pop_frame-in-EndBlock.ensures in
    subst (λ z. DoesOp c.args.app.now c.args.cells.now (program_view c.args.program.now) z c.args.vm.now c.args.self.now c.args.vm.now c.pop_frame.new.self next.Finished) (sym c.in-EndBlock.is)
    (λ at ts rise. (refl, over_ended s.do_end_block c.args.self.now c.pop_frame.new.self p (tables_of (manifest_view c.args.app.now.manifest))))

pub returns-in-Done-clause-step : goal.returns-in-Done-clause-step
returns-in-Done-clause-step c =
    IfOk-weaker c.do_done.result (λ r. (n : Tables) (vm : Vm) → Stepped n (λ m. s.with_end m s.do_done) vm c.args.self.now vm c.do_done.new.self r)
    (λ r. DoesOp c.args.app.now c.args.cells.now (program_view c.args.program.now) c.args.op c.args.vm.now c.args.self.now c.args.vm.now c.do_done.new.self r)
    (λ r h. subst (λ z. DoesOp c.args.app.now c.args.cells.now (program_view c.args.program.now) z c.args.vm.now c.args.self.now c.args.vm.now c.do_done.new.self r) (sym c.in-Done.is)
    (λ at ts rise. h (tables_of (manifest_view c.args.app.now.manifest)) c.args.vm.now)) c.do_done.ensures

pub returns-in_ok-do_end_block-in-Some-clause-step : goal.returns-in_ok-do_end_block-in-Some-clause-step
returns-in_ok-do_end_block-in-Some-clause-step c =
    let p : PopsFrame c.args.self.now c.pop_frame.new.self (Some c.in-Some.frame) = subst (λ o. PopsFrame c.args.self.now c.pop_frame.new.self o) c.in-Some.is c.in_ok-pop_frame-in-EndBlock.ensures in
    let g : Tables → Mach → Run = λ n m. s.with_end m s.do_end_block in
    does c.args.app.now c.args.cells.now (program_view c.args.program.now) c.args.op op.EndBlock g c.args.vm.now c.args.vm.now c.args.self.now c.do_end_block.new.self c.in-EndBlock.is (λ at ts store st. refl)
    (moved g c.args.vm.now c.args.self.now c.do_end_block.new.self (moves_ended s.do_end_block c.args.self.now c.pop_frame.new.self c.do_end_block.new.self c.in-Some.frame end_block_free p c.in_ok-do_end_block-in-Some.ensures))

pub returns-in_ok-do_flush-in-Flush-clause-step : goal.returns-in_ok-do_flush-in-Flush-clause-step
returns-in_ok-do_flush-in-Flush-clause-step c =
    does c.args.app.now c.args.cells.now (program_view c.args.program.now) c.args.op op.Flush (λ n. s.do_flush) c.args.vm.now c.do_flush.new.vm c.args.self.now c.do_flush.new.self c.in-Flush.is (λ at ts store st. refl) c.in_ok-do_flush-in-Flush.ensures.step

pub returns-in_ok-do_close-in-Close-clause-step : goal.returns-in_ok-do_close-in-Close-clause-step
returns-in_ok-do_close-in-Close-clause-step c =
    does c.args.app.now c.args.cells.now (program_view c.args.program.now) c.args.op op.Close (λ n m. s.with_top m s.do_close) c.args.vm.now c.do_close.new.vm c.args.self.now c.do_close.new.self c.in-Close.is (λ at ts store st. refl) c.in_ok-do_close-in-Close.ensures.step

pub returns-in_ok-do_block-in-Block-clause-step : goal.returns-in_ok-do_block-in-Block-clause-step
returns-in_ok-do_block-in-Block-clause-step c =
    let f : Tables → Mach → Run = λ n. s.do_block c.in_ok-name-in-Block.name.now c.in-Block.b in
    let g : Tables → Mach → Run = λ n m. s.unless_parts m (s.popped m.rest.frames) (f n m) in
    does c.args.app.now c.args.cells.now (program_view c.args.program.now) c.args.op (op.Block c.in-Block.a c.in-Block.b) g c.args.vm.now c.args.vm.now c.args.self.now c.do_block.new.self c.in-Block.is
    (λ at ts store st. let m = mach_by (tables_of (manifest_view c.args.app.now.manifest)) st c.args.self.now in ap (λ r. s.unless_parts m (s.popped m.rest.frames) r)
    (name_does c.args.app.now (program_view c.args.program.now) c.in-Block.a c.in_ok-name-in-Block.name.now (λ x. s.do_block x c.in-Block.b) c.args.self.now c.in_ok-name-in-Block.ensures at ts store st))
    (moved g c.args.vm.now c.args.self.now c.do_block.new.self (parts_passed f c.args.self.now c.end_parts.new.self c.do_block.new.self c.in_ok-end_parts-in-Block.field-0 c.in_ok-end_parts-in-Block.ensures c.if-not-branch.true c.in_ok-do_block-in-Block.ensures))

pub returns-else-not-branch-clause-step : goal.returns-else-not-branch-clause-step
returns-else-not-branch-clause-step c = λ at ts rise.
    let store = store_of (env_of c.args.app.now ts).app c.args.cells.now in let f : Tables → Mach → Run = λ n m. s.name_at (env_of c.args.app.now ts) store m c.in-Block.a (λ x. s.do_block x c.in-Block.b m) in
    let g : Tables → Mach → Run = λ n m. s.unless_parts m (s.popped m.rest.frames) (f n m) in
    does c.args.app.now c.args.cells.now (program_view c.args.program.now) c.args.op (op.Block c.in-Block.a c.in-Block.b) g c.args.vm.now c.args.vm.now c.args.self.now c.end_parts.new.self c.in-Block.is (λ at2 ts2 store2 st. refl)
    (moved g c.args.vm.now c.args.self.now c.end_parts.new.self (parts_done f c.args.self.now c.end_parts.new.self c.in_ok-end_parts-in-Block.field-0 c.in_ok-end_parts-in-Block.ensures c.if-not-branch.false)) at ts rise

pub returns-in_ok-do_bare-in-Bare-clause-step : goal.returns-in_ok-do_bare-in-Bare-clause-step
returns-in_ok-do_bare-in-Bare-clause-step c =
    let f : Tables → Mach → Run = λ n. s.do_bare in
    let g : Tables → Mach → Run = λ n m. s.unless_parts m (s.popped m.rest.frames) (f n m) in
    does c.args.app.now c.args.cells.now (program_view c.args.program.now) c.args.op op.Bare g c.args.vm.now c.args.vm.now c.args.self.now c.do_bare.new.self c.in-Bare.is (λ at ts store st. refl)
    (moved g c.args.vm.now c.args.self.now c.do_bare.new.self (parts_passed f c.args.self.now c.end_parts-in-Bare.new.self c.do_bare.new.self c.in_ok-end_parts-in-Bare.field-0 c.in_ok-end_parts-in-Bare.ensures c.if-not-branch-2.true c.in_ok-do_bare-in-Bare.ensures))

pub returns-else-not-branch-2-clause-step : goal.returns-else-not-branch-2-clause-step
returns-else-not-branch-2-clause-step c =
    let f : Tables → Mach → Run = λ n. s.do_bare in
    let g : Tables → Mach → Run = λ n m. s.unless_parts m (s.popped m.rest.frames) (f n m) in
    does c.args.app.now c.args.cells.now (program_view c.args.program.now) c.args.op op.Bare g c.args.vm.now c.args.vm.now c.args.self.now c.end_parts-in-Bare.new.self c.in-Bare.is (λ at ts store st. refl)
    (moved g c.args.vm.now c.args.self.now c.end_parts-in-Bare.new.self (parts_done f c.args.self.now c.end_parts-in-Bare.new.self c.in_ok-end_parts-in-Bare.field-0 c.in_ok-end_parts-in-Bare.ensures c.if-not-branch-2.false))
