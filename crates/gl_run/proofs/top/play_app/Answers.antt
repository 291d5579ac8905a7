use Rattle.std.proofs.Common.{refl}
use Rattle.std.proofs.lemmas.Result.{err_from_is_err_and}
use Rattle.gl_load.specs.View.{whole_view}
use Rattle.gl_meaning.specs.Session.{session}
use Rattle.gl_commands.specs.Output.{played_app, app_in_whole}
use Rattle.gl_commands.proofs.Outputs.{played_writes, done_silent, part_written, part_tells, loaded_then, load_tells, load_stops}
use Rattle.gl_run.proofs.top.play_app.Goals as goal

pub returns-in_err-loaded-clause-told : goal.returns-in_err-loaded-clause-told
returns-in_err-loaded-clause-told g c = λ files e.
    let p = err_from_is_err_and c.from_residual.result c.from_residual.ensures.1 in
    rw (p.1, p.2) (load_stops whole_view c.in_err-loaded.field-0.0 _ (λ whole. played_app c.args.told (app_in_whole whole) whole.events) _ (c.in_err-loaded.ensures.told files e))

pub returns-in_err-loaded-clause-tells : goal.returns-in_err-loaded-clause-tells
returns-in_err-loaded-clause-tells g c = λ files e.
    let p = err_from_is_err_and c.from_residual.result c.from_residual.ensures.1 in
    rw (p.1, p.2) (load_tells whole_view c.in_err-loaded.field-0.0 _ (λ whole. played_app c.args.told (app_in_whole whole) whole.events) _ (c.in_err-loaded.ensures.told files e) (c.in_err-loaded.ensures.named files e))

pub returns-in_err-session-clause-told : goal.returns-in_err-session-clause-told
returns-in_err-session-clause-told g c = λ files e.
    let whole = whole_view c.in_ok-loaded.loaded in
    let app = app_in_whole whole in
    let p = err_from_is_err_and c.from_residual-in_err-session.result c.from_residual-in_err-session.ensures.1 in
    let plays = c.in_err-session.ensures.plays c.in_ok-loaded.loaded.templates c.in_ok-loaded.ensures.made in
    rw (p.1, p.2, loaded_then (λ whole. played_app c.args.told (app_in_whole whole) whole.events) whole _ (c.in_ok-loaded.ensures.told files e))
    (part_written c.in_err-session.field-0.0 _ _ (played_app c.args.told app whole.events) (played_writes app.limit (session app whole.events).stopped _) plays)

pub returns-in_err-session-clause-tells : goal.returns-in_err-session-clause-tells
returns-in_err-session-clause-tells g c = λ files e.
    let whole = whole_view c.in_ok-loaded.loaded in
    let p = err_from_is_err_and c.from_residual-in_err-session.result c.from_residual-in_err-session.ensures.1 in
    let plays = c.in_err-session.ensures.plays c.in_ok-loaded.loaded.templates c.in_ok-loaded.ensures.made in
    rw (p.1, p.2, loaded_then (λ whole. played_app c.args.told (app_in_whole whole) whole.events) whole _ (c.in_ok-loaded.ensures.told files e))
    (part_tells c.in_err-session.field-0.0 _ _ (played_app c.args.told (app_in_whole whole) whole.events) _ plays)

pub returns-clause-told : goal.returns-clause-told
returns-clause-told g c = λ files e.
    let whole = whole_view c.in_ok-loaded.loaded in
    rw (loaded_then (λ whole. played_app c.args.told (app_in_whole whole) whole.events) whole _ (c.in_ok-loaded.ensures.told files e))
    (c.in_ok-session.ensures.plays c.in_ok-loaded.loaded.templates c.in_ok-loaded.ensures.made)

pub returns-clause-tells : goal.returns-clause-tells
returns-clause-tells g c = λ files e.
    let whole = whole_view c.in_ok-loaded.loaded in
    let app = app_in_whole whole in
    let plays = c.in_ok-session.ensures.plays c.in_ok-loaded.loaded.templates c.in_ok-loaded.ensures.made in
    rw (loaded_then (λ whole. played_app c.args.told (app_in_whole whole) whole.events) whole _ (c.in_ok-loaded.ensures.told files e))
    (done_silent app.limit (session app whole.events).stopped _ plays.0)

pub returns-clause-holds : goal.returns-clause-holds
returns-clause-holds g c = λ files e.
    let made = c.in_ok-loaded.ensures.made in
    rw (c.in_ok-loaded.ensures.told files e, c.hold.ensures) (c.in_ok-loaded.loaded.app, refl, made, c.in_ok-session.ensures.ends c.in_ok-loaded.loaded.templates made)
