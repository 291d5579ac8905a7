-- Components that begin.
use Rattle.std.specs.Prelude.{◌≡◌, ℕ, suc, List, [], ◌∷◌, ◌++◌, Some, None, slice_get}
use Rattle.gl_meaning.specs.Manifest.{ClassEntry}
use Rattle.gl_meaning.specs.Path.{Path}
use Rattle.gl_plain.specs.Ids.{Id, block_id, instance_id}
use Rattle.gl_plain.specs.State.{Names, Inst}
use Rattle.gl_plain.specs.Naming.{by_number}
use Rattle.gl_machine.specs.Env.{Env}
use Rattle.gl_machine.specs.Mach.{Back, Kind, in_component, Mach, mach, fresh, idle}
use Rattle.gl_machine.specs.Sight.{Sight, sight, passing}
use Rattle.gl_machine.specs.Step as s
use Rattle.gl_vm.specs.declared.vm.Vm.{Vm}
use Rattle.gl_code.specs.Cells.{CellList, store_of}
use Rattle.gl_code.specs.Tables.{tables_of}
use Rattle.gl_append.specs.Tables.{TakesIn}
use Rattle.gl_append.specs.declared.machine.Machine.{Machine}
use Rattle.gl_code.specs.Instances.{Suits}

-- what is kept of a component while its program runs: where it was begun, its instance, the block that was passed, what was made for its
-- arguments and parts, its cells, and its arguments
abbrev pub component_kind : Back → Inst → ℕ → List Id → List Id → Names → Kind
component_kind back i b made cells args = let gm = block_id b ∷ made in in_component back i (instance_id i.id ∷ (gm ++ cells)) gm args (Some b)

-- a component's program is gone to, at a path and with what it sees; one level of nesting fewer is left
abbrev pub program_entered : Sight → Path → Inst → ℕ → List Id → Names → ℕ → Mach → Mach
program_entered w p i b cells args left m =
    mach m.state m.stack [] 0 (record m.rest {
      getter = None;
      sight = w;
      pending = [];
      here = fresh p;
      left = left;
      frames = m.rest.frames
          ++ record { here = m.rest.here; kind = component_kind (record { getter = m.rest.getter; pc = suc m.pc; sight = m.rest.sight; pending = m.rest.pending }) i b m.made cells args } ∷ [];
    })

-- The tag ends, and the program of a component of the class c is gone to: it sees its instance, the arguments, and what was passed.
abbrev pub component_entered : Path → ℕ → Inst → ℕ → List Id → ℕ → Mach → Mach
component_entered p c i b cells left m =
    let k = m.rest.making in
    program_entered (sight c i k.args [] (passing b k.start k.slots m.rest.sight)) p i b cells k.args left (record m { rest = record m.rest { making = idle } })

-- A component of the class begins over these cells, where components may nest one deeper: so in each application in which the class has the
-- number of the tag.
abbrev pub Invokes : ClassEntry → CellList → Vm → Machine → Vm → Machine → Type 0
Invokes c cells vm old vm' new =
    (env : Env) → Suits env → slice_get env.manifest.classes old.making.class ≡ Some c → (left : ℕ) → old.left ≡ suc left
    → TakesIn (tables_of env.manifest) (λ m. s.invoke_below_as by_number env (store_of env.app cells) m left) vm old vm' new
