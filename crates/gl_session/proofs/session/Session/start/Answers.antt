use Rattle.std.proofs.Common.{refl, sym}
use Rattle.std.specs.Prelude.{None}
use Rattle.gl_meaning.specs.Session.{first_state}
use Rattle.gl_session.specs.Standing.{app_with}
use Rattle.gl_session.proofs.Counts.{turn_after}
use Rattle.gl_session.proofs.session.Session.start.Goals as goal

pub returns-clause-ok : goal.returns-clause-ok
returns-clause-ok c = λ templates lowered.
    let g = c.in_ok-page.ensures.ok templates lowered in
    (g.turn, g.is, g.told, record { app = refl; lowered = lowered; page = g.stands; turn = sym (turn_after (app_with c.args.app templates) first_state None g.turn g.is); going = refl })
