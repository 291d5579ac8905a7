-- What a session stands for.
use Rattle.std.specs.Prelude.{◌≡◌, ◌≤◌, ℕ, ◌+◌, List, Option, Some, None}
use Rattle.gl_ast.specs.Template.{Body}
use Rattle.gl_meaning.specs.App as m
use Rattle.gl_meaning.specs.Manifest.{app_of}
use Rattle.gl_meaning.specs.Session as session
use Rattle.gl_meaning.specs.Session.{first_state, step}
use Rattle.gl_meaning.specs.View.{manifest_view}
use Rattle.gl_opc.specs.IsApp.{IsAppWith}
use Rattle.gl_opc.specs.declared.app.App.{App}
use Rattle.gl_vm.specs.View.{Calm}
use Rattle.gl_code.specs.declared.fault.VmFault.{VmFault}
use Rattle.gl_code.specs.declared.fault.VmFault.TheVariants as vm
use Rattle.gl_code.specs.declared.page.Page.{Page}
use Rattle.gl_standing.specs.Standing.{StandsIn}
use Rattle.gl_session.specs.declared.fault.EventFault.{EventFault}
use Rattle.gl_session.specs.declared.fault.EventFault.TheVariants as event
use Rattle.gl_session.specs.declared.session.Session.{Session}
use Rattle.gl_session.specs.declared.turn.Turn.{Turn}
use Rattle.gl_session.specs.Turn.{TellsTurn, work_view, work_of, asked_of}

-- the application with these templates, as the meaning has it
abbrev pub app_with : App → List Body → m.App
app_with a templates = app_of (manifest_view a.manifest) templates

-- A session of an application, which has these templates, stands in a state of the meaning's session: its page does, the number of its next turn
-- is the state's, and it has not stopped.
pub record StandsAt (x : Session) (a : App) (templates : List Body) (s : session.State) : Type 0 where
  pub app : x.app ≡ a
  pub lowered : IsAppWith (manifest_view a.manifest) templates a.programs
  pub page : StandsIn a templates x.page s
  pub turn : x.turn ≡ s.turn
  pub going : x.stopped ≡ None

-- its counts are the work of these turns together
abbrev pub Counts : Session → List session.Turn → Type 0
Counts x turns = work_view x.counts ≡ work_of turns

-- it asked at most as much as these turns may ask
abbrev pub AsksAtMost : Session → List session.Turn → Type 0
AsksAtMost x turns = x.asks ≤ asked_of turns

-- So many questions are at most as many as the turn of an event may ask.
abbrev pub TurnAsks : App → List Body → session.State → m.Event → ℕ → Type 0
TurnAsks a templates s e count = (t : session.Turn) → step (app_with a templates) s (Some e) ≡ Some t → (1 ≤ count) × (count ≤ t.asked)

-- a session that was started may go on
abbrev pub IsReady : Session → Type 0
IsReady x = Calm x.page.vm

-- The page stands in the state after this turn of the meaning's session, and its text and work are told.
pub record Goes (a : App) (templates : List Body) (s : session.State) (e : Option m.Event) (page : Page) (made : Turn) : Type 0 where
  pub turn : session.Turn
  pub is : step (app_with a templates) s e ≡ Some turn
  pub told : TellsTurn made turn
  pub stands : StandsIn a templates page turn.state

-- The session stands in the state after the first turn, the text and work of which are told.
abbrev pub Starts : App → List Body → Session → Turn → Type 0
Starts a templates x made = (t : session.Turn) × (step (app_with a templates) first_state None ≡ Some t) × TellsTurn made t × StandsAt x a templates t.state

-- The session stands in the state after the turn of the event, the text and work of which are told.
abbrev pub Turns : App → List Body → session.State → m.Event → Session → Turn → Type 0
Turns a templates s e x made = (t : session.Turn) × (step (app_with a templates) s (Some e) ≡ Some t) × TellsTurn made t × StandsAt x a templates t.state

-- The session asked more, by at most as much as the turn of the event may ask.
abbrev pub Asked : App → List Body → session.State → m.Event → Session → Session → Type 0
Asked a templates s e old new = (t : session.Turn) → step (app_with a templates) s (Some e) ≡ Some t → (old.asks + 1 ≤ new.asks) × (new.asks ≤ old.asks + t.asked)

-- a component would stand too deep: there is no such turn
abbrev pub TurnFails : App → List Body → session.State → Option m.Event → VmFault → Type 0
TurnFails a templates s e vm.NestingLimit = step (app_with a templates) s e ≡ None
TurnFails a templates s e vm.Memory = Unit {0}

abbrev pub StartFails : App → List Body → VmFault → Type 0
StartFails a templates f = TurnFails a templates first_state None f

-- A session that has not stopped is not told that it has.
abbrev pub EventFails : App → List Body → session.State → m.Event → EventFault → Type 0
EventFails a templates s e event.NestingLimit = step (app_with a templates) s (Some e) ≡ None
EventFails a templates s e event.Memory = Unit {0}
EventFails a templates s e (event.Stopped f) = ⊥

-- What a fault leaves: a session that has stopped for it; one that had stopped before is as it was.
abbrev pub Stops : Session → Session → EventFault → Type 0
Stops old new event.NestingLimit = new.stopped ≡ Some vm.NestingLimit
Stops old new event.Memory = new.stopped ≡ Some vm.Memory
Stops old new (event.Stopped f) = (old.stopped ≡ Some f) × (new ≡ old)
