-- What an update of the code's program does, and what is appended in one.
use Rattle.std.specs.Prelude.{◌≡◌, ◌≤◌, ℕ, List, Bool, ⊤}
use Rattle.gl_ast.specs.Template.{Body}
use Rattle.gl_meaning.specs.Eval.{Store}
use Rattle.gl_meaning.specs.Order.{NamesRise}
use Rattle.gl_meaning.specs.Scope.{Source}
use Rattle.gl_meaning.specs.View.{manifest_view}
use Rattle.gl_opc.specs.declared.app.App.{App}
use Rattle.gl_plain.specs.Naming.{by_number}
use Rattle.gl_plain.specs.State.{State}
use Rattle.gl_machine.specs.Env.{Env}
use Rattle.gl_machine.specs.Outcome.{Outcome, ok, deep}
use Rattle.gl_machine.specs.RenewCode.{Runs}
use Rattle.gl_machine.specs.Step.{run_for_as}
use Rattle.gl_vm.specs.View.{Tables, Agrees, state_of}
use Rattle.gl_vm.specs.Steps.{Follows}
use Rattle.gl_vm.specs.declared.vm.Vm.{Vm}
use Rattle.gl_code.specs.Cells.{CellList, store_of}
use Rattle.gl_code.specs.Tables.{tables_of, env_of}
use Rattle.gl_code.specs.declared.fault.VmFault.{VmFault}
use Rattle.gl_code.specs.declared.fault.VmFault.TheVariants as fault

-- What the plain machine does, where `run` appends a body.
abbrev pub Renewal : Type 0 → Type 0
Renewal A = Tables → Runs → State → Outcome (A × State)

-- Where bodies are appended within so many steps or more, this is the answer, and this is kept.
pub record RenewsTo {A : Type 0} (env : Env) (store : Store) (n : Tables) (f : Runs → State → Outcome (A × State)) (st : State) (x : A) (new : Vm) : Type 0 where
  pub steps : ℕ
  pub state : State
  pub follows : Follows n state new
  pub is : (k : ℕ) → steps ≤ k → f (run_for_as by_number env store k) st ≡ ok (x, state)

-- It does so in this application, whichever its templates are, over these cells, whichever sources were touched.
abbrev pub Renews : {A : Type 0} → App → CellList → Renewal A → Vm → (Tables → A) → Vm → Type 0
Renews a cells f old x new =
    (templates : List Body) → NamesRise (manifest_view a.manifest) → (touched : Source → Bool) → Agrees touched old → let env = env_of a templates in let n = tables_of env.manifest in
    RenewsTo env (store_of env.app cells) n (f n) (state_of n old touched) (x n) new

-- a component would stand too deep
abbrev pub RenewsDeep : {A : Type 0} → App → CellList → Renewal A → Vm → Type 0
RenewsDeep a cells f old =
    (templates : List Body) → NamesRise (manifest_view a.manifest) → (touched : Source → Bool) → Agrees touched old → let env = env_of a templates in let n = tables_of env.manifest in
    (steps : ℕ) × ((k : ℕ) → steps ≤ k → f n (run_for_as by_number env (store_of env.app cells) k) (state_of n old touched) ≡ deep)

-- a fault that is no want of memory
abbrev pub RenewFails : {A : Type 0} → App → CellList → Renewal A → Vm → VmFault → Type 0
RenewFails a cells f old fault.Memory = ⊤
RenewFails a cells f old fault.NestingLimit = RenewsDeep a cells f old
