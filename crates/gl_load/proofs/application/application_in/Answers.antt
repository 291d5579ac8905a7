use Rattle.std.proofs.Common.{◌∙◌}
use Rattle.std.specs.Str.{chars}
use Rattle.std.proofs.lemmas.Result.{err_from_is_err_and}
use Rattle.gl_meaning.specs.View.{manifest_view}
use Rattle.gl_load.proofs.Faults.{among_more}
use Rattle.gl_load.proofs.Trees.{app_here, app_templates}
use Rattle.gl_load.proofs.application.application_in.Goals as goal

pub returns-in_err-found-clause-named : goal.returns-in_err-found-clause-named
returns-in_err-found-clause-named g c = λ files e.
    let p = err_from_is_err_and c.from_residual.result c.from_residual.ensures.1 in
    rw (p.1, p.2) (among_more _ _ _ _ (λ n h. app_here files (chars c.args.manifest.now) n h) c.in_err-found.ensures.named)

pub returns-in_err-templates-clause-named : goal.returns-in_err-templates-clause-named
returns-in_err-templates-clause-named g c = λ files e.
    let p = err_from_is_err_and c.from_residual-in_err-templates.result c.from_residual-in_err-templates.ensures.1 in
    let found = c.in_ok-found.ensures.told files e in
    rw (p.1, p.2) (among_more _ _ _ _ (λ n h. app_templates files (chars c.args.manifest.now) n (manifest_view c.in_ok-found.found) found h) (c.in_err-templates.ensures.named files (c.in_ok-found.ensures.keeps ∙ e)))
