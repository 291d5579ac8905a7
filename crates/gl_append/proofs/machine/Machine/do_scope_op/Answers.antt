use Rattle.std.proofs.Common.{◌∙◌, refl, sym, ℕ}
use Rattle.std.proofs.lemmas.List.{length-map}
use Rattle.gl_value.specs.Value as v
use Rattle.gl_plain.specs.State.{constant_form}
use Rattle.gl_program.specs.View.{program_view}
use Rattle.gl_machine.specs.Step as s
use Rattle.gl_machine.specs.Sight.{args_in, inst_in, locals_in}
use Rattle.gl_ops.specs.declared.op.Op.TheVariants as op
use Rattle.gl_append.specs.MachineView.{mach_by}
use Rattle.gl_base.specs.Texts.{Text}
use Rattle.gl_plain.specs.Naming.{by_number}
use Rattle.gl_machine.specs.Mach.{Mach, Run}
use Rattle.gl_meaning.specs.View.{manifest_view, class_view, action_view}
use Rattle.gl_value.specs.Plain.{plain_pair}
use Rattle.gl_base.specs.Names.{last_named}
use Rattle.gl_names.specs.Helpers.{helper_rows}
use Rattle.gl_names.specs.Table.{name_of}
use Rattle.gl_vm.specs.View.{helper_name}
use Rattle.gl_code.specs.Tables.{env_of, tables_of}
use Rattle.gl_code.specs.Cells.{store_of}
use Rattle.gl_append.proofs.OpSteps.{does, does_moving, text_does, name_does, field_count, action_does, given_by, after_top, top_moves}
use Rattle.gl_append.proofs.Taking.{moved}
use Rattle.gl_append.proofs.machine.Machine.do_scope_op.Goals as goal

pub returns-in_ok-do_local-in-Local-clause-step : goal.returns-in_ok-do_local-in-Local-clause-step
returns-in_ok-do_local-in-Local-clause-step c =
    does c.args.app.now c.args.cells.now (program_view c.args.program.now) c.args.op (op.Local c.in-Local.a) (λ n. (λ m. s.given (s.last_symbol c.in-Local.a (locals_in m.rest.sight)) (λ r. s.push_old r m))) c.args.vm.now c.args.vm.now c.args.self.now c.do_local.new.self c.in-Local.is
    (λ at ts store st. refl)
    (moved (λ n. (λ m. s.given (s.last_symbol c.in-Local.a (locals_in m.rest.sight)) (λ r. s.push_old r m))) c.args.vm.now c.args.self.now c.do_local.new.self c.in_ok-do_local-in-Local.ensures)

pub returns-in_ok-do_arg_ref-in-ArgRef-clause-step : goal.returns-in_ok-do_arg_ref-in-ArgRef-clause-step
returns-in_ok-do_arg_ref-in-ArgRef-clause-step c =
    does c.args.app.now c.args.cells.now (program_view c.args.program.now) c.args.op (op.ArgRef c.in-ArgRef.a) (λ n. (λ m. s.push_found (last_named c.in_ok-name-in-ArgRef.name.now (args_in m.rest.sight)) m)) c.args.vm.now c.do_arg_ref.new.vm c.args.self.now c.do_arg_ref.new.self c.in-ArgRef.is
    (name_does c.args.app.now (program_view c.args.program.now) c.in-ArgRef.a c.in_ok-name-in-ArgRef.name.now (λ x m. s.push_found (last_named x (args_in m.rest.sight)) m) c.args.self.now c.in_ok-name-in-ArgRef.ensures)
    c.in_ok-do_arg_ref-in-ArgRef.ensures.step

pub returns-in_ok-do_field-in-Field-clause-step : goal.returns-in_ok-do_field-in-Field-clause-step
returns-in_ok-do_field-in-Field-clause-step c = λ at ts rise.
    let store = store_of (env_of c.args.app.now ts).app c.args.cells.now in does_moving c.args.app.now c.args.cells.now (program_view c.args.program.now) c.args.op (op.Field c.in-Field.a) (s.do_field (env_of c.args.app.now ts) store c.in-Field.a) c.args.vm.now c.args.self.now c.do_field.new.self c.in-Field.is
    (λ at2 ts2 store2 st. refl)
    (c.in_ok-do_field-in-Field.ensures (tables_of (manifest_view c.args.app.now.manifest))
    (field_count (manifest_view c.args.app.now.manifest) c.args.self.now.sight.level.owner.value.class (class_view c.in_ok-class-in-Field.class.now) c.in_ok-class-in-Field.ensures ∙ (length-map c.in_ok-class-in-Field.class.now.fields (λ (f : Text × v.Value ℕ). plain_pair {P = ⊥} f) ∙ sym c.len.ensures)) (env_of c.args.app.now ts) store) at ts rise

pub returns-in_ok-do_getter-in-Getter-clause-step : goal.returns-in_ok-do_getter-in-Getter-clause-step
returns-in_ok-do_getter-in-Getter-clause-step c = λ at ts rise. let store = store_of (env_of c.args.app.now ts).app c.args.cells.now in does c.args.app.now c.args.cells.now (program_view c.args.program.now) c.args.op (op.Getter c.in-Getter.a) (λ n. s.do_getter (env_of c.args.app.now ts) store c.in-Getter.a) c.args.vm.now c.args.vm.now c.args.self.now c.do_getter.new.self c.in-Getter.is (λ at2 ts2 store2 st. refl) (moved (λ n. s.do_getter (env_of c.args.app.now ts) store c.in-Getter.a) c.args.vm.now c.args.self.now c.do_getter.new.self (c.in_ok-do_getter-in-Getter.ensures (env_of c.args.app.now ts) store)) at ts rise

pub returns-in_ok-do_action-in-Action-clause-step : goal.returns-in_ok-do_action-in-Action-clause-step
returns-in_ok-do_action-in-Action-clause-step c =
    let h : Text → Mach → Run = λ x m. s.push_new (constant_form (v.action (by_number.owner (inst_in m.rest.sight)) x v.no_values)) m in
    does c.args.app.now c.args.cells.now (program_view c.args.program.now) c.args.op (op.Action c.in-Action.a) (λ n. h c.in_ok-action-in-Action.action.now.name) c.args.vm.now c.do_action.new.vm c.args.self.now c.do_action.new.self c.in-Action.is
    (λ at ts store st. action_does c.args.app.now c.args.self.now.sight.level.owner.value.class c.in-Action.a (class_view c.in_ok-class-in-Action.class.now) (action_view c.in_ok-action-in-Action.action.now) h (mach_by (tables_of (manifest_view c.args.app.now.manifest)) st c.args.self.now) c.in_ok-class-in-Action.ensures c.in_ok-action-in-Action.ensures)
    c.in_ok-do_action-in-Action.ensures.step

pub returns-in_ok-do_prop-in-Prop-clause-step : goal.returns-in_ok-do_prop-in-Prop-clause-step
returns-in_ok-do_prop-in-Prop-clause-step c =
    does c.args.app.now c.args.cells.now (program_view c.args.program.now) c.args.op (op.Prop c.in-Prop.b) (λ n. (λ m. s.given (s.popped m.stack) (s.do_prop c.in_ok-name-in-Prop.name.now m))) c.args.vm.now c.do_prop.new.vm c.args.self.now c.do_prop.new.self c.in-Prop.is
    (text_does c.args.app.now (program_view c.args.program.now) c.in-Prop.b c.in_ok-name-in-Prop.name.now (λ x m. s.given (s.popped m.stack) (s.do_prop x m)) c.args.self.now c.in_ok-name-in-Prop.ensures)
    (after_top (s.do_prop c.in_ok-name-in-Prop.name.now) c.args.vm.now c.do_prop.new.vm c.args.self.now c.do_prop.new.self c.pop_pushed.new.stack c.in_ok-top-in-Prop.top (λ m p. refl) c.in_ok-top-in-Prop.ensures c.in_ok-do_prop-in-Prop.ensures.step)

pub returns-in_ok-do_call-in-Call-clause-step : goal.returns-in_ok-do_call-in-Call-clause-step
returns-in_ok-do_call-in-Call-clause-step c =
    does c.args.app.now c.args.cells.now (program_view c.args.program.now) c.args.op (op.Call c.in-Call.a c.in-Call.b) (λ n. s.do_call c.in-Call.b (helper_name c.in_ok-helper-in-Call.helper)) c.args.vm.now c.do_call.new.vm c.args.self.now c.do_call.new.self c.in-Call.is
    (λ at ts store st. given_by (name_of c.in-Call.a helper_rows) (helper_name c.in_ok-helper-in-Call.helper) (λ x. s.do_call c.in-Call.b x (mach_by (tables_of (manifest_view c.args.app.now.manifest)) st c.args.self.now)) c.in_ok-helper-in-Call.ensures)
    c.in_ok-do_call-in-Call.ensures.step

pub returns-in_ok-do_named-in-Named-clause-step : goal.returns-in_ok-do_named-in-Named-clause-step
returns-in_ok-do_named-in-Named-clause-step c =
    does c.args.app.now c.args.cells.now (program_view c.args.program.now) c.args.op (op.Named c.in-Named.b) (λ n. (λ m. s.given (s.popped m.stack) (s.do_named c.in_ok-name-in-Named.name.now m))) c.args.vm.now c.args.vm.now c.args.self.now c.do_named.new.self c.in-Named.is
    (text_does c.args.app.now (program_view c.args.program.now) c.in-Named.b c.in_ok-name-in-Named.name.now (λ x m. s.given (s.popped m.stack) (s.do_named x m)) c.args.self.now c.in_ok-name-in-Named.ensures)
    (moved (λ n. (λ m. s.given (s.popped m.stack) (s.do_named c.in_ok-name-in-Named.name.now m))) c.args.vm.now c.args.self.now c.do_named.new.self (top_moves (s.do_named c.in_ok-name-in-Named.name.now) c.args.self.now c.do_named.new.self c.pop_pushed-in-Named.new.stack c.in_ok-top-in-Named.top (λ m p. refl) c.in_ok-top-in-Named.ensures c.in_ok-do_named-in-Named.ensures))

pub returns-in_ok-do_cat-in-Cat-clause-step : goal.returns-in_ok-do_cat-in-Cat-clause-step
returns-in_ok-do_cat-in-Cat-clause-step c =
    does c.args.app.now c.args.cells.now (program_view c.args.program.now) c.args.op (op.Cat c.in-Cat.a) (λ n. s.do_cat c.in-Cat.a) c.args.vm.now c.do_cat.new.vm c.args.self.now c.do_cat.new.self c.in-Cat.is
    (λ at ts store st. refl)
    c.in_ok-do_cat-in-Cat.ensures.step
