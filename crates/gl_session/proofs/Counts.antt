-- The numbers of turns.
use Rattle.std.proofs.Common.{◌≡◌, suc, Option, Some, sym, ap}
use Rattle.gl_meaning.specs.App.{App, Event}
use Rattle.gl_meaning.specs.Session as session
use Rattle.gl_meaning.specs.Session.{Turn, step}
use Rattle.gl_turns.proofs.Turning.{step_is}

-- after a turn the next one has the next number
pub turn_after : (app : App) (s : session.State) (e : Option Event) (t : Turn) → step app s e ≡ Some t → t.state.turn ≡ suc s.turn
turn_after app s e t h = sym (ap (λ (u : Turn). u.state.turn) (step_is app s e t h))
