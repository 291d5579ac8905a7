-- A loop of updates: whatever the rest gives, the whole gives.
use Rattle.std.proofs.Common.{◌≡◌, Bool, sym, ◌∙◌}
use Rattle.gl_meaning.specs.Scope.{Source}
use Rattle.gl_meaning.specs.View.{manifest_view}
use Rattle.gl_opc.specs.declared.app.App.{App}
use Rattle.gl_plain.specs.Naming.{by_number}
use Rattle.gl_plain.specs.State.{State}
use Rattle.gl_machine.specs.Outcome.{Outcome, on_ok}
use Rattle.gl_machine.specs.RenewCode.{Runs}
use Rattle.gl_machine.specs.Step.{run_for_as}
use Rattle.gl_vm.specs.View.{Tables, Agrees, state_of}
use Rattle.gl_vm.specs.declared.vm.Vm.{Vm}
use Rattle.gl_code.specs.Cells.{CellList, store_of}
use Rattle.gl_code.specs.Tables.{tables_of, env_of}
use Rattle.gl_code.specs.declared.fault.VmFault.{VmFault}
use Rattle.gl_code.specs.declared.fault.VmFault.TheVariants as fault
use Rattle.gl_code.specs.Renewing.{Renewal, Renews, RenewFails}
use Rattle.gl_update.proofs.Renewing.{renews_same, renews_then, fails_same, fails_first, fails_then}

module _ (a : App) (cells : CellList) where
  -- the same function of what is kept
  pub renews_agreed : {A : Type 0} (f g : Renewal A) (x : Tables → A) (old new : Vm) → ((n : Tables) (run : Runs) (u : Source → Bool) → Agrees u old → f n run (state_of n old u) ≡ g n run (state_of n old u))
      → Renews a cells f old x new → Renews a cells g old x new
  renews_agreed f g x old new e r ts rise u agrees =
      let env = env_of a ts in
      let n = tables_of (manifest_view a.manifest) in
      let y = r ts rise u agrees in
      record { steps = y.steps; state = y.state; follows = y.follows; is = λ k less. sym (e n (run_for_as by_number env (store_of env.app cells) k) u agrees) ∙ y.is k less }

  pub fails_agreed : {A : Type 0} (f g : Renewal A) (old : Vm) (e : VmFault) → ((n : Tables) (run : Runs) (u : Source → Bool) → Agrees u old → f n run (state_of n old u) ≡ g n run (state_of n old u))
      → RenewFails a cells f old e → RenewFails a cells g old e
  fails_agreed f g old fault.Memory e r = tt
  fails_agreed f g old fault.NestingLimit e r = λ ts rise u agrees.
      let env = env_of a ts in
      let n = tables_of (manifest_view a.manifest) in
      let y = r ts rise u agrees in (y.0, λ k less. sym (e n (run_for_as by_number env (store_of env.app cells) k) u agrees) ∙ y.1 k less)

  pub record Onward {A : Type 0} (whole : Renewal A) (vm0 : Vm) (rest : Renewal A) (vm : Vm) : Type 0 where
    pub goes : (x : Tables → A) (v : Vm) → Renews a cells rest vm x v → Renews a cells whole vm0 x v
    pub stops : (e : VmFault) → RenewFails a cells rest vm e → RenewFails a cells whole vm0 e

  -- nothing was done yet
  pub onward_begin : {A : Type 0} (whole rest : Renewal A) (vm : Vm) → ((n : Tables) (run : Runs) (u : Source → Bool) → rest n run (state_of n vm u) ≡ whole n run (state_of n vm u)) → Onward whole vm rest vm
  onward_begin whole rest vm e = record {
    goes = λ x v r. renews_same a cells rest whole x vm v e r;
    stops = λ f r. fails_same a cells rest whole vm f e r;
  }

  module _ {A B : Type 0} (whole : Renewal A) (vm0 : Vm) (rest : Renewal A) (vm : Vm) (f : Renewal B) (g : Tables → B → Runs → State → Outcome (A × State))
      (e : (n : Tables) (run : Runs) (u : Source → Bool) → on_ok (f n run (state_of n vm u)) (λ r. g n r.0 run r.1) ≡ rest n run (state_of n vm u)) (w : Onward whole vm0 rest vm) where
    abbrev both : Renewal A
    both = λ n run st. on_ok (f n run st) (λ r. g n r.0 run r.1)

    -- the first part of the rest is done
    pub onward_next : (x : Tables → B) (mid : Vm) → Renews a cells f vm x mid → Onward whole vm0 (λ n run st. g n (x n) run st) mid
    onward_next x mid p = record {
      goes = λ y v r. w.goes y v (renews_same a cells both rest y vm v e (renews_then a cells f g x y vm mid v p r));
      stops = λ h r. w.stops h (fails_same a cells both rest vm h e (fails_then a cells f g x vm mid h p r));
    }

    -- the first part of the rest fails
    pub onward_fails : (h : VmFault) → RenewFails a cells f vm h → RenewFails a cells whole vm0 h
    onward_fails h r = w.stops h (fails_same a cells both rest vm h e (fails_first a cells f g vm h r))

  -- the rest is another way to say it
  pub onward_as : {A : Type 0} (whole rest other : Renewal A) (vm0 vm : Vm) → ((n : Tables) (run : Runs) (u : Source → Bool) → other n run (state_of n vm u) ≡ rest n run (state_of n vm u)) → Onward whole vm0 rest vm → Onward whole vm0 other vm
  onward_as whole rest other vm0 vm e w = record {
    goes = λ x v r. w.goes x v (renews_same a cells other rest x vm v e r);
    stops = λ f r. w.stops f (fails_same a cells other rest vm f e r);
  }
