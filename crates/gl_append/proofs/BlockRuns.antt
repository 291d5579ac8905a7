-- A body that is appended, from the registers with which it is begun.
use Rattle.std.proofs.Common.{◌≡◌, ◌≤◌, ℕ, zero, suc, refl, sym, ◌∙◌, ap, arith}
use Rattle.gl_meaning.specs.Eval.{Store}
use Rattle.gl_meaning.specs.View.{manifest_view}
use Rattle.gl_opc.specs.declared.app.App.{App}
use Rattle.gl_plain.specs.Naming.{by_number}
use Rattle.gl_plain.specs.State.{State}
use Rattle.gl_machine.specs.Code.{Codes as PlainCodes}
use Rattle.gl_machine.specs.Env.{Env}
use Rattle.gl_machine.specs.Mach.{Run, going, finished, too_deep, all_of}
use Rattle.gl_machine.specs.Outcome.{ok}
use Rattle.gl_machine.specs.RenewCode.{Start}
use Rattle.gl_machine.specs.Step.{begun, outcome, step_run_as, after_as}
use Rattle.gl_vm.specs.View.{Tables, state_of}
use Rattle.gl_vm.specs.declared.vm.Vm.{Vm}
use Rattle.gl_code.specs.CodeView.{seen_codes}
use Rattle.gl_append.specs.MachineView.{seen_here, mach_by, mach_of}
use Rattle.gl_code.specs.Cells.{CellList, store_of}
use Rattle.gl_code.specs.Tables.{tables_of, env_of}
use Rattle.gl_append.specs.Stepping.{Finishes, StopsFor}
use Rattle.gl_code.specs.declared.code.Codes.{Codes}
use Rattle.gl_code.specs.declared.fault.VmFault.{VmFault}
use Rattle.gl_code.specs.declared.fault.VmFault.TheVariants as fault
use Rattle.gl_append.specs.declared.machine.Machine.{Machine}
use Rattle.gl_code.specs.Renewing.{Renews, RenewFails}

module _ (env : Env) (store : Store) where
  -- what is over stays so
  rests : (n : ℕ) (r : Run) → step_run_as by_number env store r ≡ r → after_as by_number env store n r ≡ r
  rests zero r still = refl
  rests (suc n) r still = ap (after_as by_number env store n) still ∙ rests n r still

  later : (n k : ℕ) (a r : Run) → n ≤ k → after_as by_number env store n a ≡ r → step_run_as by_number env store r ≡ r → after_as by_number env store k a ≡ r
  later zero k a r less e still = ap (after_as by_number env store k) e ∙ rests k r still
  later (suc n) zero a r less e still = absurd (omega (arith, less))
  later (suc n) (suc k) a r less e still = later n k (step_run_as by_number env store a) r (omega (arith, less)) e still

-- Where a body is begun with these registers, all that is rendered is what they have in the end.
module _ (a : App) (cells : CellList) (from : Machine) (s : Tables → Start) (b : (env : Env) (store : Store) (n : Tables) (st : State) → begun env store (s n) st ≡ going (mach_by n st from)) where
  pub appends : (vm vm' : Vm) (to : Machine) (codes : Codes) → ((n : Tables) → seen_codes n codes ≡ all_of (seen_here n to.here).codes) → Finishes a cells vm from vm' to
      → Renews a cells (λ n run. run (s n)) vm (λ n. seen_codes n codes) vm'
  appends vm vm' to codes e p ts rise u agrees =
      let env = env_of a ts in
      let store = store_of env.app cells in
      let n = tables_of (manifest_view a.manifest) in
      let x = p ts rise u agrees in
      record {
        steps = x.steps;
        state = x.state;
        follows = x.follows;
        is = λ k less. ap (λ r. outcome env store (after_as by_number env store k r)) (b env store n (state_of n vm u))
            ∙ (ap (outcome env store) (later env store x.steps k (going (mach_of n u vm from)) (finished (mach_by n x.state to)) less x.leads refl)
            ∙ ap (λ (cs : PlainCodes). ok (cs, x.state)) (sym (e n)));
      }

  pub append_stops : (vm : Vm) (e : VmFault) → StopsFor a cells vm from e → RenewFails {A = PlainCodes} a cells (λ n run. run (s n)) vm e
  append_stops vm fault.Memory p = tt
  append_stops vm fault.NestingLimit p = λ ts rise u agrees.
      let env = env_of a ts in
      let store = store_of env.app cells in
      let n = tables_of (manifest_view a.manifest) in
      let x = p ts rise u agrees in (
        x.0,
        λ k less. ap (λ r. outcome env store (after_as by_number env store k r)) (b env store n (state_of n vm u))
            ∙ ap (outcome env store) (later env store x.0 k (going (mach_of n u vm from)) too_deep less x.1 refl),
      )
