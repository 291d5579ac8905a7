-- What session is left after a run.
use Rattle.std.specs.Prelude.{◌≡◌, List, [], ◌∷◌, Option, Some, None, Result, Ok, Err}
use Rattle.gl_ast.specs.Template.{Body}
use Rattle.gl_outside.specs.Shelf.{Entry}
use Rattle.gl_meaning.specs.App as a
use Rattle.gl_meaning.specs.Manifest.{app_of}
use Rattle.gl_meaning.specs.Session.{State, first_state, Turn, session}
use Rattle.gl_meaning.specs.View.{manifest_view}
use Rattle.gl_opc.specs.IsApp.{IsAppWith}
use Rattle.gl_opc.specs.declared.app.App.{App}
use Rattle.gl_load.specs.Load.{Whole, whole_in}
use Rattle.gl_load.specs.Refusal.{Refusal}
use Rattle.gl_session.specs.Standing.{StandsAt, Counts, AsksAtMost}
use Rattle.gl_session.specs.declared.session.Session.{Session}
use Rattle.gl_commands.specs.Command.{Command, run_command, sample_command}
use Rattle.gl_commands.specs.Sample.{sample_whole}

-- the state after these turns
abbrev pub state_after : State → List Turn → State
state_after s [] = s
state_after s (t ∷ ts) = state_after t.state ts

-- the state in which a session of the application over these events ends
abbrev pub last_state : a.App → List a.Event → State
last_state app events = state_after first_state (session app events).turns

-- The session stands where a session of this application, with these templates, ends over the events, its counts are the work of all
-- turns of that, and it asked at most as much as these may ask.
pub record EndsAt (held : Session) (app : App) (templates : List Body) (events : List a.Event) : Type 0 where
  pub stands : StandsAt held app templates (last_state (app_of (manifest_view app.manifest) templates) events)
  pub counts : Counts held (session (app_of (manifest_view app.manifest) templates) events).turns
  pub asks : AsksAtMost held (session (app_of (manifest_view app.manifest) templates) events).turns

-- what was loaded is an application with its events, and the session stands where theirs ends, with its counts
abbrev pub EndsWith : Session → Result Whole Refusal → Type 0
EndsWith held (Err r) = ⊥
EndsWith held (Ok whole) =
    (app : App) × (manifest_view app.manifest ≡ whole.parts.manifest) × IsAppWith (manifest_view app.manifest) whole.parts.templates app.programs
    × EndsAt held app whole.parts.templates whole.events

abbrev pub HoldsOf : Option Session → Result Whole Refusal → Type 0
HoldsOf None loaded = ⊥
HoldsOf (Some held) loaded = EndsWith held loaded

-- What is held after a command that ended well: after one that plays a session the session that made the turns.
abbrev pub Holds : Option Command → List Entry → Option Session → Type 0
Holds (Some (run_command told manifest script)) files held = HoldsOf held (whole_in files manifest script)
Holds (Some (sample_command rows)) files held = HoldsOf held (sample_whole rows)
Holds _ files held = Unit {0}
