-- When a page stands in a state of a session.
use Rattle.std.specs.Prelude.{◌≡◌, List, Bool}
use Rattle.gl_ast.specs.Template.{Body}
use Rattle.gl_meaning.specs.Scope.{Source}
use Rattle.gl_meaning.specs.Laws.{Reached}
use Rattle.gl_meaning.specs.Session as session
use Rattle.gl_opc.specs.declared.app.App.{App}
use Rattle.gl_machine.specs.Code.{live_of}
use Rattle.gl_machine.specs.Shape.{nest}
use Rattle.gl_machine.specs.Root.{PlacedRoot}
use Rattle.gl_follows.specs.Turns.{FollowsBy}
use Rattle.gl_vm.specs.View.{state_of, Agrees}
use Rattle.gl_code.specs.CodeView.{seen_code}
use Rattle.gl_code.specs.Hung.{nest_of}
use Rattle.gl_code.specs.Tables.{env_of, tables_of}
use Rattle.gl_code.specs.declared.page.Page.{Page}

-- A page stands in a state of a session, for these templates of its application: what it keeps and its updating program follow the state, and
-- its nodes stand in the tree as they were rendered.
pub record StandsIn (a : App) (templates : List Body) (page : Page) (s : session.State) : Type 0 where
  pub touched : Source → Bool
  pub agrees : Agrees touched page.vm
  pub follows : let n = tables_of (env_of a templates).manifest in FollowsBy (env_of a templates).app s (state_of n page.vm touched) (live_of (seen_code n page.code))
  pub placed : PlacedRoot (env_of a templates) (seen_code (tables_of (env_of a templates).manifest) page.code)
  pub reached : Reached (env_of a templates).app s
  pub nested : nest_of page.vm.tree.forest ≡ nest (live_of (seen_code (tables_of (env_of a templates).manifest) page.code))
