use Rattle.std.proofs.Common.{ap}
use Rattle.std.proofs.lemmas.Result.{err_from_is_err_and}
use Rattle.gl_run.proofs.Played.{opened, open_stops}
use Rattle.gl_run.proofs.playing.play.Goals as goal

pub returns-in_err-session-clause-plays : goal.returns-in_err-session-clause-plays
returns-in_err-session-clause-plays g c = λ templates is.
    let p = err_from_is_err_and c.from_residual.result c.from_residual.ensures.1 in
    rw (p.1, p.2) (open_stops c.args.told c.args.app templates c.args.script.now.events c.in_err-session.field-0.0 _ _ is c.in_err-session.ensures.opens)

pub returns-in-Ok-clause-plays : goal.returns-in-Ok-clause-plays
returns-in-Ok-clause-plays g c = λ templates is.
    c.in-Ok.ensures.plays c.args.app templates _ (ap (λ m. m.limit) c.manifest.ensures)
    (opened c.args.told c.args.app templates c.args.script.now.events _ _ _ is c.in_ok-session.ensures.opens)

pub returns-in-Err-clause-plays : goal.returns-in-Err-clause-plays
returns-in-Err-clause-plays g c = λ templates is.
    c.in-Err.ensures.plays c.args.app templates _ (ap (λ m. m.limit) c.manifest.ensures)
    (opened c.args.told c.args.app templates c.args.script.now.events _ _ _ is c.in_ok-session.ensures.opens)

pub returns-in-Ok-clause-ends : goal.returns-in-Ok-clause-ends
returns-in-Ok-clause-ends g c = λ templates is.
    c.in-Ok.ensures.ends c.args.app templates _ (opened c.args.told c.args.app templates c.args.script.now.events _ _ _ is c.in_ok-session.ensures.opens)
