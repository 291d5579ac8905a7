-- What the page that was appended in code stands for.
use Rattle.std.specs.Prelude.{◌≡◌, [], Bool, true, false, List}
use Rattle.gl_ast.specs.Template.{Body}
use Rattle.gl_meaning.specs.Eval.{Store}
use Rattle.gl_meaning.specs.ManifestNames.{KeepsRules}
use Rattle.gl_meaning.specs.Path.{Path}
use Rattle.gl_meaning.specs.Render.{draw, fits}
use Rattle.gl_meaning.specs.Scope.{Source}
use Rattle.gl_meaning.specs.View.{manifest_view}
use Rattle.gl_opc.specs.IsApp.{IsAppWith}
use Rattle.gl_opc.specs.declared.app.App.{App}
use Rattle.gl_plain.specs.State.{State}
use Rattle.gl_plain.specs.Drawn.{drawn_app}
use Rattle.gl_plain.specs.Machine.{StandsFor}
use Rattle.gl_naming.specs.Exist.{store_with}
use Rattle.gl_naming.specs.Laws.{IsOneToOne, AreApart}
use Rattle.gl_naming.specs.Renamed.{state_with, Right}
use Rattle.gl_machine.specs.Code.{live_of}
use Rattle.gl_machine.specs.Env.{Env}
use Rattle.gl_machine.specs.Root.{PlacedRoot}
use Rattle.gl_vm.specs.Steps.{Follows}
use Rattle.gl_vm.specs.declared.vm.Vm.{Vm}
use Rattle.gl_code.specs.CodeView.{seen_code}
use Rattle.gl_code.specs.Cells.{CellList, store_of}
use Rattle.gl_code.specs.Tables.{tables_of, env_of}
use Rattle.gl_append.specs.Page.{Appends, AppendFails}
use Rattle.gl_code.specs.declared.code.Code.{Code}
use Rattle.gl_code.specs.declared.fault.VmFault.TheVariants as fault

-- With some names of owners and sources, given one-to-one, what is kept and the updating program stand for the rendering over the store with
-- these names: that is what they show, it nests no deeper than it may, and the program is that of these words.
pub record Drawn (env : Env) (store : Store) (new : Vm) (code : Code) : Type 0 where
  pub state : State
  pub follows : Follows (tables_of env.manifest) state new
  pub owners : Path → Path
  pub sources : Source → Source
  pub once : IsOneToOne owners
  pub apart : AreApart sources
  pub right : Right owners sources [] (live_of (seen_code (tables_of env.manifest) code))
  pub placed : PlacedRoot env (seen_code (tables_of env.manifest) code)
  pub stands : (touched : Source → Bool) → StandsFor env.app (store_with owners store) (store_with owners store) (state_with owners sources touched state) (live_of (seen_code (tables_of env.manifest) code))
  pub shows : (touched : Source → Bool) → drawn_app env.app (state_with owners sources touched state).look (live_of (seen_code (tables_of env.manifest) code)) ≡ draw env.app (store_with owners store)
  pub fine : fits (draw env.app (store_with owners store)) ≡ true

-- So it is with each page of a loaded application, whichever its templates are.
abbrev pub PageIsDrawn : Type 0
PageIsDrawn =
    (a : App) (cells : CellList) (new : Vm) (code : Code) → Appends a cells new code → KeepsRules (manifest_view a.manifest)
    → (templates : List Body) → IsAppWith (manifest_view a.manifest) templates a.programs → let env = env_of a templates in Drawn env (store_of env.app cells) new code

-- Where a component would nest too deep, it does so in the rendering.
abbrev pub PageIsTooDeep : Type 0
PageIsTooDeep =
    (a : App) (cells : CellList) → AppendFails a cells fault.NestingLimit → KeepsRules (manifest_view a.manifest)
    → (templates : List Body) → IsAppWith (manifest_view a.manifest) templates a.programs
    → let env = env_of a templates in (f : Path → Path) × IsOneToOne f × (fits (draw env.app (store_with f (store_of env.app cells))) ≡ false)
