use Rattle.std.proofs.Common.{◌∙◌, sym, ap, subst}
use Rattle.std.specs.Str.{chars}
use Rattle.std.proofs.lemmas.Result.{err_from_is_err_and}
use Rattle.gl_meaning.specs.Known.{unknowns}
use Rattle.gl_meaning.specs.Manifest.{app_of}
use Rattle.gl_meaning.specs.View.{manifest_view}
use Rattle.gl_load.specs.Names.{KnowsIn, classes_known}
use Rattle.gl_load.specs.Refusal.{◌>>=◌}
use Rattle.gl_load.proofs.Faults.{stays_told_in}
use Rattle.gl_load.proofs.Unknowns.{first_told, known_if}
use Rattle.gl_load.proofs.programs.programs_of.Goals as goal

pub returns-in_err-find_root_in-clause-told : goal.returns-in_err-find_root_in-clause-told
returns-in_err-find_root_in-clause-told c =
    let p = err_from_is_err_and c.from_residual.result c.from_residual.ensures.1 in
    let m = manifest_view c.args.manifest.now in
    let trees = c.args.templates.now in
    rw (p.1, p.2, first_told (chars c.args.name.now) m trees) (stays_told_in _ _ _ (classes_known (chars c.args.name.now) m m.classes trees) c.in_err-find_root_in.ensures)

pub returns-clause-told : goal.returns-clause-told
returns-clause-told c =
    let name = chars c.args.name.now in
    let m = manifest_view c.args.manifest.now in
    let trees = c.args.templates.now in
    let is = first_told name m trees ∙ ap (λ r. r >>= λ u. classes_known name m m.classes trees) c.in_ok-find_root_in.ensures in
    subst (λ out. KnowsIn c.programs_of_classes.result out) (sym is) c.programs_of_classes.ensures.told

pub returns-clause-known : goal.returns-clause-known
returns-clause-known c = known_if (chars c.args.name.now) (unknowns (app_of (manifest_view c.args.manifest.now) c.args.templates.now)) c.programs_of_classes.result (returns-clause-told c)
