use Rattle.std.proofs.Common.{◌∷◌, slice_get, refl, ap, sym}
use Rattle.std.specs.Prelude.{codes}
use Rattle.gl_program.specs.View.{program_view}
use Rattle.gl_machine.specs.Step as s
use Rattle.gl_machine.specs.Sight.{passing_in}
use Rattle.gl_vm.specs.View.{Tables}
use Rattle.gl_ops.specs.declared.op.Op.TheVariants as op
use Rattle.gl_append.specs.MachineView.{mach_by}
use Rattle.gl_machine.specs.Mach.{Mach, Run}
use Rattle.gl_meaning.specs.View.{manifest_view}
use Rattle.gl_code.specs.Tables.{tables_of}
use Rattle.gl_append.proofs.OpSteps.{does, text_does, name_does, both_do, given_by, top_moves}
use Rattle.gl_append.proofs.Taking.{moved}
use Rattle.gl_append.proofs.machine.Machine.do_tag_op.Goals as goal

pub returns-in_ok-do_open-in-Open-clause-step : goal.returns-in_ok-do_open-in-Open-clause-step
returns-in_ok-do_open-in-Open-clause-step c =
    does c.args.app.now c.args.cells.now (program_view c.args.program.now) c.args.op (op.Open c.in-Open.b) (λ n. s.do_open c.in_ok-tag-in-Open.tag.now) c.args.vm.now c.args.vm.now c.args.self.now c.do_open.new.self c.in-Open.is
    (text_does c.args.app.now (program_view c.args.program.now) c.in-Open.b c.in_ok-tag-in-Open.tag.now s.do_open c.args.self.now c.in_ok-tag-in-Open.ensures)
    (moved (λ n. s.do_open c.in_ok-tag-in-Open.tag.now) c.args.vm.now c.args.self.now c.do_open.new.self c.in_ok-do_open-in-Open.ensures)

pub returns-in_ok-do_attr-in-Attr-clause-step : goal.returns-in_ok-do_attr-in-Attr-clause-step
returns-in_ok-do_attr-in-Attr-clause-step c =
    does c.args.app.now c.args.cells.now (program_view c.args.program.now) c.args.op (op.Attr c.in-Attr.a c.in-Attr.b) (λ n. s.do_attr c.in_ok-name-in-Attr.name.now c.in_ok-text-in-Attr.text.now) c.args.vm.now c.args.vm.now c.args.self.now c.do_attr.new.self c.in-Attr.is
    (both_do c.args.app.now (program_view c.args.program.now) c.in-Attr.a c.in-Attr.b c.in_ok-name-in-Attr.name.now c.in_ok-text-in-Attr.text.now s.do_attr c.args.self.now c.in_ok-name-in-Attr.ensures c.in_ok-text-in-Attr.ensures)
    (moved (λ n. s.do_attr c.in_ok-name-in-Attr.name.now c.in_ok-text-in-Attr.text.now) c.args.vm.now c.args.self.now c.do_attr.new.self c.in_ok-do_attr-in-Attr.ensures)

pub returns-in_ok-do_attr_ref-in-AttrRef-clause-step : goal.returns-in_ok-do_attr_ref-in-AttrRef-clause-step
returns-in_ok-do_attr_ref-in-AttrRef-clause-step c =
    does c.args.app.now c.args.cells.now (program_view c.args.program.now) c.args.op (op.AttrRef c.in-AttrRef.a) (λ n. (λ m. s.given (s.popped m.stack) (s.do_attr_ref c.in_ok-name-in-AttrRef.name.now m))) c.args.vm.now c.args.vm.now c.args.self.now c.do_attr_ref.new.self c.in-AttrRef.is
    (name_does c.args.app.now (program_view c.args.program.now) c.in-AttrRef.a c.in_ok-name-in-AttrRef.name.now (λ x m. s.given (s.popped m.stack) (s.do_attr_ref x m)) c.args.self.now c.in_ok-name-in-AttrRef.ensures)
    (moved (λ n. (λ m. s.given (s.popped m.stack) (s.do_attr_ref c.in_ok-name-in-AttrRef.name.now m))) c.args.vm.now c.args.self.now c.do_attr_ref.new.self (top_moves (s.do_attr_ref c.in_ok-name-in-AttrRef.name.now) c.args.self.now c.do_attr_ref.new.self c.pop_pushed.new.stack c.in_ok-top-in-AttrRef.top (λ m p. refl) c.in_ok-top-in-AttrRef.ensures c.in_ok-do_attr_ref-in-AttrRef.ensures))

pub returns-in_ok-do_spread-in-Spread-clause-step : goal.returns-in_ok-do_spread-in-Spread-clause-step
returns-in_ok-do_spread-in-Spread-clause-step c =
    does c.args.app.now c.args.cells.now (program_view c.args.program.now) c.args.op op.Spread (λ n. (λ m. s.spread_to m (passing_in m.rest.sight))) c.args.vm.now c.args.vm.now c.args.self.now c.do_spread.new.self c.in-Spread.is
    (λ at ts store st. refl)
    (moved (λ n. (λ m. s.spread_to m (passing_in m.rest.sight))) c.args.vm.now c.args.self.now c.do_spread.new.self c.in_ok-do_spread-in-Spread.ensures)

pub returns-in_ok-do_mod-in-Mod-clause-step : goal.returns-in_ok-do_mod-in-Mod-clause-step
returns-in_ok-do_mod-in-Mod-clause-step c =
    let f : Tables → Mach → Run = λ n. s.do_mod c.in-Mod.b (n.modifier c.in_ok-modifier-in-Mod.modifier) in
    does c.args.app.now c.args.cells.now (program_view c.args.program.now) c.args.op (op.Mod c.in-Mod.a c.in-Mod.b) f c.args.vm.now c.args.vm.now c.args.self.now c.do_mod.new.self c.in-Mod.is
    (λ at ts store st. let n = tables_of (manifest_view c.args.app.now.manifest) in given_by (slice_get (codes "on" ∷ (manifest_view c.args.app.now.manifest).modifiers) c.in-Mod.a) (n.modifier c.in_ok-modifier-in-Mod.modifier) (λ x. s.do_mod c.in-Mod.b x (mach_by n st c.args.self.now)) c.in_ok-modifier-in-Mod.ensures)
    (moved f c.args.vm.now c.args.self.now c.do_mod.new.self c.in_ok-do_mod-in-Mod.ensures)

pub returns-in_ok-do_comp-in-Comp-clause-step : goal.returns-in_ok-do_comp-in-Comp-clause-step
returns-in_ok-do_comp-in-Comp-clause-step c =
    does c.args.app.now c.args.cells.now (program_view c.args.program.now) c.args.op (op.Comp c.in-Comp.a) (λ n. s.do_comp c.in_ok-class-in-Comp.class) c.args.vm.now c.args.vm.now c.args.self.now c.do_comp.new.self c.in-Comp.is
    (λ at ts store st. ap (λ k. s.do_comp k (mach_by (tables_of (manifest_view c.args.app.now.manifest)) st c.args.self.now)) (sym c.in_ok-class-in-Comp.ensures))
    (moved (λ n. s.do_comp c.in_ok-class-in-Comp.class) c.args.vm.now c.args.self.now c.do_comp.new.self c.in_ok-do_comp-in-Comp.ensures)

pub returns-in_ok-do_arg-in-Arg-clause-step : goal.returns-in_ok-do_arg-in-Arg-clause-step
returns-in_ok-do_arg-in-Arg-clause-step c =
    does c.args.app.now c.args.cells.now (program_view c.args.program.now) c.args.op (op.Arg c.in-Arg.a) (λ n. (λ m. s.given (s.popped m.stack) (s.do_arg c.in_ok-name-in-Arg.name.now m))) c.args.vm.now c.args.vm.now c.args.self.now c.do_arg.new.self c.in-Arg.is
    (name_does c.args.app.now (program_view c.args.program.now) c.in-Arg.a c.in_ok-name-in-Arg.name.now (λ x m. s.given (s.popped m.stack) (s.do_arg x m)) c.args.self.now c.in_ok-name-in-Arg.ensures)
    (moved (λ n. (λ m. s.given (s.popped m.stack) (s.do_arg c.in_ok-name-in-Arg.name.now m))) c.args.vm.now c.args.self.now c.do_arg.new.self (top_moves (s.do_arg c.in_ok-name-in-Arg.name.now) c.args.self.now c.do_arg.new.self c.pop_pushed-in-Arg.new.stack c.in_ok-top-in-Arg.top (λ m p. refl) c.in_ok-top-in-Arg.ensures c.in_ok-do_arg-in-Arg.ensures))
