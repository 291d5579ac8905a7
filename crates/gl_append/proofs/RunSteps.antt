-- Steps that lead on, one after another.
use Rattle.std.proofs.Common.{◌≡◌, ℕ, zero, suc, refl, sym, ◌∙◌, ap, subst}
use Rattle.gl_meaning.specs.Eval.{Store}
use Rattle.gl_meaning.specs.View.{manifest_view}
use Rattle.gl_opc.specs.declared.app.App.{App}
use Rattle.gl_plain.specs.Naming.{by_number}
use Rattle.gl_machine.specs.Env.{Env}
use Rattle.gl_machine.specs.Mach.{Mach, Run, going, finished, too_deep}
use Rattle.gl_machine.specs.Step.{step_as, step_run_as, after_as}
use Rattle.gl_vm.specs.View.{state_of, Agrees}
use Rattle.gl_vm.specs.declared.vm.Vm.{Vm}
use Rattle.gl_append.specs.MachineView.{mach_by, mach_of}
use Rattle.gl_code.specs.Cells.{CellList, store_of}
use Rattle.gl_code.specs.Tables.{tables_of, env_of}
use Rattle.gl_append.specs.Stepping.{StepsIn, ReachesIn, Finishes, StopsFor}
use Rattle.gl_code.specs.declared.fault.VmFault.TheVariants as fault
use Rattle.gl_append.specs.declared.step.Next.TheVariants as next
use Rattle.gl_append.specs.declared.machine.Machine.{Machine}

pub one_less : (n : ℕ) → (n ≡ 0 → ⊥) → (k : ℕ) × (n ≡ suc k)
one_less zero f = absurd (f refl)
one_less (suc k) f = (k, refl)

-- one more step, at the end
after_one : (env : Env) (store : Store) (k : ℕ) (r : Run) → after_as by_number env store (suc k) r ≡ step_run_as by_number env store (after_as by_number env store k r)
after_one env store zero r = refl
after_one env store (suc k) r = after_one env store k (step_run_as by_number env store r)

then_step : (env : Env) (store : Store) (k : ℕ) (r : Run) (x y : Mach) (z : Run) → after_as by_number env store k r ≡ going x → y ≡ x → step_as by_number env store y ≡ z → after_as by_number env store (suc k) r ≡ z
then_step env store k r x y z e d h = after_one env store k r ∙ (ap (λ q. step_run_as by_number env store q) e ∙ (ap (λ w. step_as by_number env store w) (sym d) ∙ h))

pub reached_first : (a : App) (cells : CellList) (vm : Vm) (old : Machine) → ReachesIn a cells going vm old vm old
reached_first a cells vm old ts rise u agrees = record { steps = 0; state = state_of (tables_of (manifest_view a.manifest)) vm u; follows = record { state = refl; agrees = agrees }; leads = refl }

pub reached_next : (a : App) (cells : CellList) (vm vm1 vm2 : Vm) (old mid new : Machine) → ReachesIn a cells going vm old vm1 mid → StepsIn a cells (λ env store. step_as by_number env store) vm1 mid vm2 new next.Going → ReachesIn a cells going vm old vm2 new
reached_next a cells vm vm1 vm2 old mid new r s ts rise u agrees =
    let store = store_of (env_of a ts).app cells in
    let n = tables_of (manifest_view a.manifest) in
    let x = r ts rise u agrees in
    let y = s ts rise x.state.touched x.follows.agrees in
    record {
      steps = suc x.steps;
      state = y.state;
      follows = y.follows;
      leads = then_step (env_of a ts) store x.steps (going (mach_of n u vm old)) (mach_by n x.state mid) (mach_of n x.state.touched vm1 mid) (going (mach_by n y.state new)) x.leads (ap (λ st. mach_by n st mid) x.follows.state) y.goes;
    }

pub reached_end : (a : App) (cells : CellList) (vm vm1 vm2 : Vm) (old mid new : Machine) → ReachesIn a cells going vm old vm1 mid → StepsIn a cells (λ env store. step_as by_number env store) vm1 mid vm2 new next.Finished → Finishes a cells vm old vm2 new
reached_end a cells vm vm1 vm2 old mid new r s ts rise u agrees =
    let store = store_of (env_of a ts).app cells in
    let n = tables_of (manifest_view a.manifest) in
    let x = r ts rise u agrees in
    let y = s ts rise in
    record {
      steps = suc x.steps;
      state = x.state;
      follows = record { state = ap (λ (w : Vm). state_of n w x.state.touched) y.0 ∙ x.follows.state; agrees = subst (λ (w : Vm). Agrees x.state.touched w) (sym y.0) x.follows.agrees };
      leads = then_step (env_of a ts) store x.steps (going (mach_of n u vm old)) (mach_by n x.state mid) (mach_by n x.state mid) (finished (mach_by n x.state new)) x.leads refl (y.1 x.state);
    }

pub reached_limit : (a : App) (cells : CellList) (vm vm1 vm2 : Vm) (old mid new : Machine) → ReachesIn a cells going vm old vm1 mid → StepsIn a cells (λ env store. step_as by_number env store) vm1 mid vm2 new next.TooDeep → StopsFor a cells vm old fault.NestingLimit
reached_limit a cells vm vm1 vm2 old mid new r s ts rise u agrees =
    let store = store_of (env_of a ts).app cells in
    let n = tables_of (manifest_view a.manifest) in
    let x = r ts rise u agrees in
    (suc x.steps, then_step (env_of a ts) store x.steps (going (mach_of n u vm old)) (mach_by n x.state mid) (mach_by n x.state mid) too_deep x.leads refl (s ts rise x.state))
