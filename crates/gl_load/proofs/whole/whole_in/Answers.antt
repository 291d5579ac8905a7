use Rattle.std.specs.Str.{chars}
use Rattle.std.proofs.lemmas.Result.{err_from_is_err_and}
use Rattle.gl_load.specs.View.{app_view}
use Rattle.gl_load.proofs.Faults.{among_more}
use Rattle.gl_load.proofs.Trees.{whole_app, whole_script}
use Rattle.gl_load.proofs.whole.whole_in.Goals as goal

pub returns-in_err-loaded-clause-named : goal.returns-in_err-loaded-clause-named
returns-in_err-loaded-clause-named g c = λ files e.
    let p = err_from_is_err_and c.from_residual.result c.from_residual.ensures.1 in
    rw (p.1, p.2) (among_more _ _ _ _ (λ n h. whole_app files (chars c.args.manifest.now) (chars c.args.script.now) n h) (c.in_err-loaded.ensures.named files e))

pub returns-in_err-script-clause-named : goal.returns-in_err-script-clause-named
returns-in_err-script-clause-named g c = λ files e.
    let p = err_from_is_err_and c.from_residual-in_err-script.result c.from_residual-in_err-script.ensures.1 in
    let loaded = c.in_ok-loaded.ensures.told files e in
    rw (p.1, p.2) (among_more _ _ _ _ (λ n h. whole_script files (chars c.args.manifest.now) (chars c.args.script.now) n (app_view c.in_ok-loaded.loaded) loaded h) c.in_err-script.ensures.named)
