-- How far a session is that is played turn by turn.
use Rattle.std.specs.Prelude.{◌≡◌, ℕ, List, ◌++◌, Option}
use Rattle.gl_base.specs.Texts.{bytes_of, joined}
use Rattle.gl_base.specs.Taking.{Takes}
use Rattle.gl_ast.specs.Template.{Body}
use Rattle.gl_meaning.specs.App as a
use Rattle.gl_meaning.specs.Manifest.{app_of}
use Rattle.gl_meaning.specs.Session.{State, first_state, Turn, Session, session_from, session}
use Rattle.gl_meaning.specs.View.{manifest_view}
use Rattle.gl_opc.specs.declared.app.App.{App}
use Rattle.gl_session.specs.Standing.{StandsAt, Counts, AsksAtMost}
use Rattle.gl_session.specs.declared.session.Session as code
use Rattle.gl_run.specs.Holds.{state_after}
use Rattle.gl_commands.specs.Output.{turn_texts}
use Rattle.gl_run.specs.Sample.{Tallies}
use Rattle.gl_commands.specs.Told.{told_texts}
use Rattle.gl_commands.specs.declared.told.Told.{Told}
use Rattle.gl_run.specs.declared.sample.Tally.{Tally}

-- a session of these turns
abbrev pub of_turns : Option ℕ → List Turn → Session
of_turns stopped turns = record { turns = turns; stopped = stopped }

-- turns that came before those of a session
abbrev pub turns_before : List Turn → Session → Session
turns_before done rest = of_turns rest.stopped (done ++ rest.turns)

abbrev pub turn_bytes : Told → List Turn → List ℕ
turn_bytes told turns = bytes_of (joined (told_texts told turns))

-- Some turns of a session were made. They make it with what follows from the state in which it stands, over the events that are left.
abbrev pub Leads : App → List Body → List a.Event → List a.Event → State → List Turn → Type 0
Leads app templates events left state done =
    session (app_of (manifest_view app.manifest) templates) events ≡ turns_before done (session_from (app_of (manifest_view app.manifest) templates) left state)

-- Some turns of a session were made and told, and the next one has this number.
pub record Reached (told : Told) (app : App) (templates : List Body) (events left : List a.Event) (turn : ℕ) (held : code.Session) (old now : Option (List ℕ)) : Type 0 where
  pub state : State
  pub done : List Turn
  pub stands : StandsAt held app templates state
  pub counts : Counts held done
  pub asks : AsksAtMost held done
  pub number : state.turn ≡ turn
  pub last : state_after first_state done ≡ state
  pub whole : Leads app templates events left state done
  pub taken : Takes old now (turn_bytes told done)

-- Some turns of a session were made and counted.
pub record Counted (app : App) (templates : List Body) (events left : List a.Event) (held : code.Session) (tally : Tally) : Type 0 where
  pub state : State
  pub done : List Turn
  pub stands : StandsAt held app templates state
  pub counts : Counts held done
  pub asks : AsksAtMost held done
  pub last : state_after first_state done ≡ state
  pub whole : Leads app templates events left state done
  pub tallied : Tallies tally (turn_texts done)
