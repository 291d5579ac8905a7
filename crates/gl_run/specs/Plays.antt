-- What a play of a session left.
use Rattle.std.specs.Prelude.{◌≡◌, ◌⊎◌, ℕ, List, Option, Some, None, Result, Ok, Err}
use Rattle.gl_base.specs.Texts.{bytes_of}
use Rattle.gl_base.specs.Taking.{Takes}
use Rattle.gl_ast.specs.Template.{Body}
use Rattle.gl_meaning.specs.App.{Event}
use Rattle.gl_meaning.specs.Manifest.{app_of}
use Rattle.gl_meaning.specs.Session.{State, first_state, step}
use Rattle.gl_meaning.specs.View.{manifest_view}
use Rattle.gl_opc.specs.IsApp.{IsAppWith}
use Rattle.gl_opc.specs.declared.app.App.{App}
use Rattle.gl_session.specs.Standing.{StandsAt, Starts, Turns, Asked}
use Rattle.gl_session.specs.Turn.{work_view, added}
use Rattle.gl_session.specs.declared.turn.Turn.{Turn}
use Rattle.gl_session.specs.declared.session.Session.{Session}
use Rattle.gl_commands.specs.Plays.{PutFails}
use Rattle.gl_commands.specs.declared.told.Told.{Told}
use Rattle.gl_commands.specs.declared.fault.PlayFault.{PlayFault}
use Rattle.gl_commands.specs.declared.fault.PlayFault.TheVariants as v
use Rattle.gl_run.specs.Told.{seen_text}

-- Why an application gives no turn 0: its page nests too deep, with whichever templates it is an application; or memory is wanting.
abbrev pub StartStops : App → PlayFault → Type 0
StartStops app (v.NestingLimit turn limit) =
    (turn ≡ 0) × (limit ≡ app.manifest.limit)
    × ((templates : List Body) → IsAppWith (manifest_view app.manifest) templates app.programs → step (app_of (manifest_view app.manifest) templates) first_state None ≡ None)
StartStops app v.WriteFault = ⊥
StartStops app v.Memory = Unit {0}

-- Why an event gives no turn: the page nests too deep in it, wherever the session stands; or memory is wanting.
abbrev pub TurnStops : Session → Event → ℕ → ℕ → PlayFault → Type 0
TurnStops session e turn most (v.NestingLimit number limit) =
    (number ≡ turn) × (limit ≡ most)
    × ((app : App) (templates : List Body) (s : State) → StandsAt session app templates s → step (app_of (manifest_view app.manifest) templates) s (Some e) ≡ None)
TurnStops session e turn most v.WriteFault = ⊥
TurnStops session e turn most v.Memory = Unit {0}

-- The session of an application, with whichever templates it is one, stands after turn 0, of which this is told, and counts its work. Nothing
-- was asked.
pub record IsStart (app : App) (held : Session) (made : Turn) : Type 0 where
  pub stands : (templates : List Body) → IsAppWith (manifest_view app.manifest) templates app.programs → Starts app templates held made
  pub counts : held.counts ≡ made.work
  pub asks : held.asks ≡ 0

-- Wherever the session stood, it now stands after the turn of the event, of which this is told, and counts its work too; it asked at most as much
-- as that turn may ask.
pub record IsTurn (held : Session) (e : Event) (new : Session) (made : Turn) : Type 0 where
  pub stands : (app : App) (templates : List Body) (s : State) → StandsAt held app templates s → Turns app templates s e new made
  pub counts : work_view new.counts ≡ added (work_view held.counts) (work_view made.work)
  pub asks : (app : App) (templates : List Body) (s : State) → StandsAt held app templates s → Asked app templates s e held new

-- What is left where a session was to be started and turn 0 told: both was done; or there is no such turn; or it wasn't told.
abbrev pub Opens : Told → App → Result Session PlayFault → Option (List ℕ) → Option (List ℕ) → Type 0
Opens told app (Ok held) old new = (made : Turn) × IsStart app held made × Takes old new (bytes_of (seen_text told made))
Opens told app (Err f) old new =
    (StartStops app f × (new ≡ old)) ⊎ ((held : Session) × (made : Turn) × IsStart app held made × PutFails f old new (seen_text told made))

-- the same of the turn of an event, which has this number
abbrev pub GoesOn : {X : Type 0} → Told → Result X PlayFault → Session → Session → Event → ℕ → ℕ → Option (List ℕ) → Option (List ℕ) → Type 0
GoesOn told (Ok x) held new_held e turn most old new = (made : Turn) × IsTurn held e new_held made × Takes old new (bytes_of (seen_text told made))
GoesOn told (Err f) held new_held e turn most old new =
    (TurnStops held e turn most f × (new ≡ old)) ⊎ ((made : Turn) × IsTurn held e new_held made × PutFails f old new (seen_text told made))
