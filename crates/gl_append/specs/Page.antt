-- The whole page that is appended.
use Rattle.std.specs.Prelude.{◌≡◌, ℕ, List, [], Bool, Some, None, ⊤, slice_get}
use Rattle.gl_ast.specs.Template.{Body}
use Rattle.gl_meaning.specs.Eval.{Store}
use Rattle.gl_meaning.specs.Manifest.{ClassEntry}
use Rattle.gl_meaning.specs.Order.{NamesRise}
use Rattle.gl_meaning.specs.Scope.{Source}
use Rattle.gl_meaning.specs.View.{manifest_view}
use Rattle.gl_opc.specs.Numbers.{class_number}
use Rattle.gl_opc.specs.declared.app.App.{App}
use Rattle.gl_plain.specs.Ids.{an_instance}
use Rattle.gl_plain.specs.Naming.{by_number}
use Rattle.gl_plain.specs.Grow.{grow_cells_as}
use Rattle.gl_plain.specs.State.{Inst, instance_row, State, make}
use Rattle.gl_machine.specs.Env.{Env, class_no}
use Rattle.gl_machine.specs.Outcome.{ok, deep}
use Rattle.gl_machine.specs.Root.{append_page_as}
use Rattle.gl_machine.specs.Step.{run_for_as}
use Rattle.gl_machine.specs.RenewCode.{start}
use Rattle.gl_machine.specs.Sight.{sight, not_passed}
use Rattle.gl_machine.specs.Code.{Codes}
use Rattle.gl_vm.specs.View.{Tables, Agrees, state_of}
use Rattle.gl_vm.specs.Steps.{Follows, empty}
use Rattle.gl_vm.specs.declared.vm.Vm.{Vm}
use Rattle.gl_code.specs.View.{refs_made, seen_owner}
use Rattle.gl_code.specs.CodeView.{component_seen, seen_code}
use Rattle.gl_code.specs.Cells.{CellList, store_of}
use Rattle.gl_code.specs.Instances.{Suits}
use Rattle.gl_code.specs.Tables.{tables_of, env_of}
use Rattle.gl_code.specs.declared.fault.VmFault.{VmFault}
use Rattle.gl_code.specs.declared.fault.VmFault.TheVariants as fault
use Rattle.gl_code.specs.declared.code.Code.{Code}
use Rattle.gl_code.specs.declared.sight.Owner.{Owner}

-- The root is there: the instance with the empty path, with the cells of its class.
pub record RootThere (n : Tables) (env : Env) (store : Store) (q : ℕ) (st : State) (new : Vm) (owner : Owner) : Type 0 where
  pub inst : Inst
  pub is : inst ≡ (let c = grow_cells_as by_number env.app store [] (class_no env q).fields st in record { id = c.state.next an_instance; path = []; cells = c.names })
  pub follows : Follows n (make an_instance (instance_row inst) (grow_cells_as by_number env.app store [] (class_no env q).fields st).state) new
  pub seen : seen_owner n owner ≡ inst
  pub made : refs_made owner.cells ≡ (grow_cells_as by_number env.app store [] (class_no env q).fields st).made

-- The root is made over these cells, in each application in which its class has that number.
abbrev pub MakesRoot : ClassEntry → CellList → ℕ → Vm → Vm → Owner → Type 0
MakesRoot c cells q old new owner =
    (env : Env) → Suits env → slice_get env.manifest.classes q ≡ Some c → env.app.root ≡ c.name → (touched : Source → Bool) → Agrees touched old
    → let n = tables_of env.manifest in RootThere n env (store_of env.app cells) q (state_of n old touched) new owner

-- What is below the root is appended within some number of steps.
pub record BelowRoot (env : Env) (store : Store) (n : Tables) (owner : Owner) (left : ℕ) (st : State) (new : Vm) (code : Code) : Type 0 where
  pub steps : ℕ
  pub codes : Codes
  pub state : State
  pub follows : Follows n state new
  pub is : run_for_as by_number env store steps (start (sight owner.class (seen_owner n owner) [] [] not_passed) 0 [] left) st ≡ ok (codes, state)
  pub recorded : seen_code n code ≡ component_seen (seen_owner n owner) [] (refs_made owner.cells) [] None codes

abbrev pub RunsRoot : App → CellList → Owner → ℕ → Vm → Vm → Code → Type 0
RunsRoot a cells owner left old new code =
    (templates : List Body) → NamesRise (manifest_view a.manifest) → (touched : Source → Bool) → Agrees touched old → let env = env_of a templates in let n = tables_of env.manifest in
    BelowRoot env (store_of env.app cells) n owner left (state_of n old touched) new code

abbrev pub RootFails : App → CellList → Owner → ℕ → Vm → VmFault → Type 0
RootFails a cells owner left old fault.Memory = ⊤
RootFails a cells owner left old fault.NestingLimit =
    (templates : List Body) → NamesRise (manifest_view a.manifest) → (touched : Source → Bool) → Agrees touched old → let env = env_of a templates in let n = tables_of env.manifest in
    (steps : ℕ) × (run_for_as by_number env (store_of env.app cells) steps (start (sight owner.class (seen_owner n owner) [] [] not_passed) 0 [] left) (state_of n old touched) ≡ deep)

-- What is appended from nothing within some number of steps is this program, with what is kept.
pub record Appended (env : Env) (store : Store) (new : Vm) (code : Code) : Type 0 where
  pub root : ℕ
  pub numbered : class_number env.manifest env.app.root ≡ Some root
  pub steps : ℕ
  pub state : State
  pub follows : Follows (tables_of env.manifest) state new
  pub is : append_page_as by_number env.app.limit env store (run_for_as by_number env store steps) root empty ≡ ok (seen_code (tables_of env.manifest) code, state)

abbrev pub Appends : App → CellList → Vm → Code → Type 0
Appends a cells new code = (templates : List Body) → NamesRise (manifest_view a.manifest) → let env = env_of a templates in Appended env (store_of env.app cells) new code

-- Within some number of steps a component would nest too deep.
pub record Overflows (env : Env) (store : Store) : Type 0 where
  pub root : ℕ
  pub numbered : class_number env.manifest env.app.root ≡ Some root
  pub steps : ℕ
  pub is : append_page_as by_number env.app.limit env store (run_for_as by_number env store steps) root empty ≡ deep

-- A fault that is no want of memory
abbrev pub AppendFails : App → CellList → VmFault → Type 0
AppendFails a cells fault.Memory = ⊤
AppendFails a cells fault.NestingLimit = (templates : List Body) → NamesRise (manifest_view a.manifest) → let env = env_of a templates in Overflows env (store_of env.app cells)
