-- The world of a page that stands.
use Rattle.std.proofs.Common.{◌≡◌, ℕ, List, Some, refl, ◌∙◌}
use Rattle.gl_ast.specs.Template.{Body}
use Rattle.gl_meaning.specs.Session as session
use Rattle.gl_opc.specs.declared.app.App.{App}
use Rattle.gl_plain.specs.State.{Names, Inst, State}
use Rattle.gl_code.specs.Tables.{env_of}
use Rattle.gl_code.specs.declared.page.Page.{Page}
use Rattle.gl_acting.specs.Laws.{InstanceIs}
use Rattle.gl_acting.proofs.Has.{instance_has}
use Rattle.gl_vm.specs.View.{state_of}
use Rattle.gl_actions.specs.Found.{instance_in}
use Rattle.gl_actions.specs.Frames.{InstanceRead}
use Rattle.gl_actions.specs.Own.{names_in, shown_in}
use Rattle.gl_standing.specs.Standing.{StandsIn}
use Rattle.gl_fires.specs.Worlds.{world_of}
use Rattle.gl_fires.specs.Laws.{HasWorld}
use Rattle.gl_fires.proofs.Alike.{same_in}

module _ (a : App) (templates : List Body) (page : Page) (s : session.State) (x : StandsIn a templates page s) where
  abbrev pub now : State
  now = state_of (names_in a) page.vm x.touched

  -- an instance of the page
  pub instance_is : (k : ℕ) (i : Inst) (args : Names) → instance_in k (shown_in a page) ≡ Some (i, args) → InstanceIs (env_of a templates).app s now (shown_in a page) x.follows k i args
  instance_is k i args e = instance_has (env_of a templates).app s now (shown_in a page) x.follows k i args (same_in k (shown_in a page) ∙ e)

  instance_read : (k : ℕ) (i : Inst) (args : Names) → instance_in k (shown_in a page) ≡ Some (i, args) → InstanceRead (world_of a templates page s x) page.vm i args
  instance_read k i args e = let h = instance_is k i args e in record { owner = h.named; cells = h.cells; arguments = h.arguments }

pub has_world : HasWorld
has_world a templates page s x = record { manifest = refl; instances = instance_read a templates page s x }
