-- Regions that are entered, and that are passed over.
use Rattle.std.proofs.Common.{◌≡◌, ℕ, Bool, true, false, List, sym, ap}
use Rattle.std.specs.Prelude.{if◌then◌else◌}
use Rattle.gl_meaning.specs.Scope.{Source}
use Rattle.gl_opc.specs.declared.app.App.{App}
use Rattle.gl_machine.specs.Outcome.{ok}
use Rattle.gl_machine.specs.RenewCode.{Runs}
use Rattle.gl_guards.specs.Guarded.{entering}
use Rattle.gl_guards.specs.Along.{enters_over}
use Rattle.gl_vm.specs.View.{Tables, state_of, Agrees}
use Rattle.gl_vm.specs.Steps.{Does}
use Rattle.gl_vm.specs.declared.vm.Vm.{Vm}
use Rattle.gl_code.specs.Cells.{CellList}
use Rattle.gl_code.specs.declared.fault.VmFault.{VmFault}
use Rattle.gl_code.specs.Renewing.{Renewal, Renews, RenewFails}
use Rattle.gl_update.proofs.Onward.{renews_agreed, fails_agreed}
use Rattle.gl_update.proofs.Renewing.{renews_by, does_renews, does_fails}

-- A region with these positions, of which so many are asked, which is so, and its update where it is entered.
module _ (most : ℕ) (a : App) (cells : CellList) (A : Type 0) (rs : Tables → List ℕ) (x : Tables → A) (f : Renewal A) where
  abbrev pub Region : Renewal A
  Region = λ n run st. entering (enters_over most) st (rs n) (x n) (f n run st)

  -- the question is answered so
  abbrev pub Asked : Bool → Vm → Type 0
  Asked b vm = (n : Tables) (u : Source → Bool) → Agrees u vm → enters_over most (state_of n vm u) (rs n) ≡ b

  entered_is : (b : Bool) (vm : Vm) → Asked b vm → (n : Tables) (run : Runs) (u : Source → Bool) → Agrees u vm → (if b then f n run (state_of n vm u) else ok (x n, state_of n vm u)) ≡ Region n run (state_of n vm u)
  entered_is b vm h n run u agrees = sym (ap (λ e. if e then f n run (state_of n vm u) else ok (x n, state_of n vm u)) (h n u agrees))

  pub region_entered : (old mid new : Vm) (y : Tables → A) → Asked true old → Does (λ n st. st) old mid → Renews a cells f mid y new → Renews a cells Region old y new
  region_entered old mid new y h d r = renews_agreed a cells f Region y old new (entered_is true old h) (does_renews a cells (λ n st. st) f y old mid new d r)

  pub region_fails : (old mid : Vm) (e : VmFault) → Asked true old → Does (λ n st. st) old mid → RenewFails {A = A} a cells f mid e → RenewFails {A = A} a cells Region old e
  region_fails old mid e h d r = fails_agreed a cells f Region old e (entered_is true old h) (does_fails a cells (λ n st. st) f old mid e d r)

  pub region_passed : (old new : Vm) → Asked false old → Does (λ n st. st) old new → Renews a cells Region old x new
  region_passed old new h d = renews_agreed a cells (λ n run st. ok (x n, st)) Region x old new (entered_is false old h) (renews_by a cells (λ n st. st) x old new d)
