-- How a step over words ends.
use Rattle.std.specs.Prelude.{◌≡◌, ℕ, List, Bool, ⊤}
use Rattle.gl_ast.specs.Template.{Body}
use Rattle.gl_meaning.specs.Scope.{Source}
use Rattle.gl_meaning.specs.Eval.{Store}
use Rattle.gl_meaning.specs.Order.{NamesRise}
use Rattle.gl_meaning.specs.View.{manifest_view}
use Rattle.gl_program.specs.Program.{Program}
use Rattle.gl_ops.specs.declared.op.Op.{Op}
use Rattle.gl_opc.specs.declared.app.App.{App}
use Rattle.gl_plain.specs.Naming.{by_number}
use Rattle.gl_plain.specs.State.{State}
use Rattle.gl_machine.specs.Env.{Env}
use Rattle.gl_machine.specs.Mach.{Mach, Run, going, finished, too_deep}
use Rattle.gl_machine.specs.Step.{program_at, do_op_as, after_as}
use Rattle.gl_vm.specs.View.{Tables, Agrees}
use Rattle.gl_vm.specs.Steps.{Follows}
use Rattle.gl_vm.specs.declared.vm.Vm.{Vm}
use Rattle.gl_append.specs.MachineView.{mach_by, mach_of}
use Rattle.gl_code.specs.Cells.{CellList, store_of}
use Rattle.gl_code.specs.Tables.{tables_of, env_of}
use Rattle.gl_append.specs.Tables.{TakesIn}
use Rattle.gl_append.specs.declared.machine.Machine.{Machine}
use Rattle.gl_code.specs.declared.fault.VmFault.{VmFault}
use Rattle.gl_code.specs.declared.fault.VmFault.TheVariants as fault
use Rattle.gl_append.specs.declared.step.Next.{Next}
use Rattle.gl_append.specs.declared.step.Next.TheVariants as next

-- the present word comes from this program, whatever the templates are and is kept
abbrev pub RunsIn : App → Machine → Program → Type 0
RunsIn a x p = (templates : List Body) (store : Store) (n : Tables) (st : State) → program_at (env_of a templates) store (mach_by n st x) ≡ p

-- only registers change, where the manifest has these names
abbrev pub MovesIn : Tables → (Mach → Run) → Machine → Machine → Type 0
MovesIn n f old new = (st : State) → f (mach_by n st old) ≡ going (mach_by n st new)

-- The step goes on, or the run is over: it finished with what was rendered, or a component would nest too deep.
abbrev pub Stepped : Tables → (Mach → Run) → Vm → Machine → Vm → Machine → Next → Type 0
Stepped n f vm old vm' new next.Going = TakesIn n f vm old vm' new
Stepped n f vm old vm' new next.Finished = (vm' ≡ vm) × ((st : State) → f (mach_by n st old) ≡ finished (mach_by n st new))
Stepped n f vm old vm' new next.TooDeep = (st : State) → f (mach_by n st old) ≡ too_deep

-- a step of this application over these cells, whatever its templates are
abbrev pub StepsIn : App → CellList → (Env → Store → Mach → Run) → Vm → Machine → Vm → Machine → Next → Type 0
StepsIn a cells f vm old vm' new r =
    (templates : List Body) → NamesRise (manifest_view a.manifest) → let env = env_of a templates in
    Stepped (tables_of env.manifest) (f env (store_of env.app cells)) vm old vm' new r

-- what an opcode does that stands in this program
abbrev pub DoesOp : App → CellList → Program → Op → Vm → Machine → Vm → Machine → Next → Type 0
DoesOp a cells p op vm old vm' new r = RunsIn a old p → StepsIn a cells (λ env store m. do_op_as by_number env store m op) vm old vm' new r

-- Runs

-- Some number of steps lead to the registers, with what is kept.
pub record Reaches (env : Env) (store : Store) (n : Tables) (ends : Mach → Run) (from : Mach) (vm : Vm) (new : Machine) : Type 0 where
  pub steps : ℕ
  pub state : State
  pub follows : Follows n state vm
  pub leads : after_as by_number env store steps (going from) ≡ ends (mach_by n state new)

abbrev pub ReachesIn : App → CellList → (Mach → Run) → Vm → Machine → Vm → Machine → Type 0
ReachesIn a cells ends vm old vm' new =
    (templates : List Body) → NamesRise (manifest_view a.manifest) → (touched : Source → Bool) → Agrees touched vm → let env = env_of a templates in let n = tables_of env.manifest in
    Reaches env (store_of env.app cells) n ends (mach_of n touched vm old) vm' new

-- All is rendered.
abbrev pub Finishes : App → CellList → Vm → Machine → Vm → Machine → Type 0
Finishes a cells vm old vm' new = ReachesIn a cells finished vm old vm' new

-- A fault that is no want of memory: a component would nest too deep after some number of steps.
abbrev pub StopsFor : App → CellList → Vm → Machine → VmFault → Type 0
StopsFor a cells vm old fault.Memory = ⊤
StopsFor a cells vm old fault.NestingLimit =
    (templates : List Body) → NamesRise (manifest_view a.manifest) → (touched : Source → Bool) → Agrees touched vm → let env = env_of a templates in
    (steps : ℕ) × (after_as by_number env (store_of env.app cells) steps (going (mach_of (tables_of env.manifest) touched vm old)) ≡ too_deep)
