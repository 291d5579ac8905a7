use Rattle.std.proofs.Common.{refl, sym, subst}
use Rattle.gl_meaning.specs.View.{manifest_view}
use Rattle.gl_plain.specs.Naming.{by_number}
use Rattle.gl_machine.specs.Env.{Env}
use Rattle.gl_machine.specs.Step as s
use Rattle.gl_append.specs.MachineView.{mach_of}
use Rattle.gl_append.specs.Steps.{GoesOn}
use Rattle.gl_code.specs.Cells.{store_of}
use Rattle.gl_code.specs.Instances.{Suits}
use Rattle.gl_code.specs.Tables.{tables_of, env_of}
use Rattle.gl_append.proofs.RunSteps.{one_less}
use Rattle.gl_append.proofs.machine.Machine.do_nest.Goals as goal

pub returns-clause-step : goal.returns-clause-step
returns-clause-step c ts rise u agrees =
    let env : Env = env_of c.args.app.now ts in
    let suits : Suits env = record { templates = ts; app = refl; rise = rise } in
    let (k, e) = one_less c.args.self.now.left c.if-self-eq0.false in
    let n = tables_of (manifest_view c.args.app.now.manifest) in
    subst (λ j. GoesOn n (s.do_invoke_as by_number env (store_of env.app c.args.cells.now) (mach_of n u c.args.vm.now c.args.self.now) j) c.do_invoke.new.vm c.do_invoke.new.self) (sym e)
    (c.in_ok-do_invoke.ensures.step env suits c.in_ok-class.ensures k e u agrees)
