use Rattle.std.proofs.Common.{◌≡◌, length, slice_get, ap, sym, ◌∙◌, arith}
use Rattle.gl_code.specs.declared.sight.Owner.{Owner}
use Rattle.std.proofs.lemmas.Result.{on_ok_weaker}
use Rattle.gl_machine.specs.Env.{Env}
use Rattle.gl_meaning.specs.Eval.{Store}
use Rattle.gl_machine.specs.Step as s
use Rattle.gl_vm.specs.View.{Tables}
use Rattle.gl_append.specs.MachineView.{mach_by}
use Rattle.gl_append.specs.Steps.{Moves}
use Rattle.gl_append.specs.Stepping.{MovesIn}
use Rattle.gl_append.proofs.FieldCells.{found_by}
use Rattle.gl_append.proofs.machine.Machine.do_field.Goals as goal

pub returns : goal.returns
returns c =
    let f : Moves (λ n. s.push_old c.in_ok-cell.cell.1) c.args.self.now c.push_old.new.self
    → (n : Tables) → length (n.fields c.args.self.now.sight.level.owner.value.class) ≡ c.args.count → (env : Env) (store : Store) → MovesIn n (s.do_field env store c.args.field) c.args.self.now c.push_old.new.self
    = λ m n e env store st. found_by (n.fields c.args.self.now.sight.level.owner.value.class) c.args.self.now.sight.level.owner.value.cells c.args.field c.in_ok-cell.cell (λ r. s.push_old r (mach_by n st c.args.self.now)) (omega (arith, e, c.if-field-count.false)) (ap (λ (o : Owner). slice_get o.cells c.args.field) (sym c.as_ref.ensures) ∙ c.in_ok-cell.ensures) ∙ m n st in
    on_ok_weaker c.push_old.result f c.push_old.ensures
