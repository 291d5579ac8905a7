use Rattle.std.specs.Prelude.{◌∷◌, []}
use Rattle.std.proofs.Common.{refl}
use Rattle.std.proofs.lemmas.Result.{err_from_is_err_and}
use Rattle.gl_load.specs.View.{app_view}
use Rattle.gl_commands.specs.Output.{classes_line, written}
use Rattle.gl_commands.proofs.Files.{file_is_not_deep}
use Rattle.gl_commands.proofs.Outputs.{part_written, part_tells, never_deep, loaded_then, load_tells, load_stops}
use Rattle.gl_commands.proofs.one_file.check_app.Goals as goal

pub returns-in_err-application-clause-told : goal.returns-in_err-application-clause-told
returns-in_err-application-clause-told g c = λ files e.
    let p = err_from_is_err_and c.from_residual.result c.from_residual.ensures.1 in
    rw (p.1, p.2) (load_stops app_view c.in_err-application.field-0.0 _ (λ parts. written (classes_line parts ∷ [])) _ (c.in_err-application.ensures.told files e))

pub returns-in_err-application-clause-tells : goal.returns-in_err-application-clause-tells
returns-in_err-application-clause-tells g c = λ files e.
    let p = err_from_is_err_and c.from_residual.result c.from_residual.ensures.1 in
    rw (p.1, p.2) (load_tells app_view c.in_err-application.field-0.0 _ (λ parts. written (classes_line parts ∷ [])) _ (c.in_err-application.ensures.told files e) (c.in_err-application.ensures.named files e))

pub returns-in_err-application-clause-limit : goal.returns-in_err-application-clause-limit
returns-in_err-application-clause-limit g c = λ deep.
    let p = err_from_is_err_and c.from_residual.result c.from_residual.ensures.1 in
    file_is_not_deep c.in_err-application.field-0.0.cause (rw (p.1, p.2) at deep)

pub returns-in_err-write_classes-clause-told : goal.returns-in_err-write_classes-clause-told
returns-in_err-write_classes-clause-told g c = λ files e.
    let p = err_from_is_err_and c.from_residual-in_err-write_classes.result c.from_residual-in_err-write_classes.ensures.1 in
    rw (p.1, p.2, loaded_then (λ parts. written (classes_line parts ∷ [])) (app_view c.in_ok-application.application) _ (c.in_ok-application.ensures.told files e)) (part_written c.in_err-write_classes.field-0.0 _ _ _ tt c.in_err-write_classes.ensures.plays)

pub returns-in_err-write_classes-clause-tells : goal.returns-in_err-write_classes-clause-tells
returns-in_err-write_classes-clause-tells g c = λ files e.
    let p = err_from_is_err_and c.from_residual-in_err-write_classes.result c.from_residual-in_err-write_classes.ensures.1 in
    rw (p.1, p.2, loaded_then (λ parts. written (classes_line parts ∷ [])) (app_view c.in_ok-application.application) _ (c.in_ok-application.ensures.told files e)) (part_tells c.in_err-write_classes.field-0.0 _ _ _ _ c.in_err-write_classes.ensures.plays)

pub returns-in_err-write_classes-clause-limit : goal.returns-in_err-write_classes-clause-limit
returns-in_err-write_classes-clause-limit g c = λ deep.
    let p = err_from_is_err_and c.from_residual-in_err-write_classes.result c.from_residual-in_err-write_classes.ensures.1 in
    never_deep c.in_err-write_classes.field-0.0 _ _ _ c.in_err-write_classes.ensures.plays (rw (p.1, p.2) at deep)

pub returns-clause-told : goal.returns-clause-told
returns-clause-told g c = λ files e.
    rw (loaded_then (λ parts. written (classes_line parts ∷ [])) (app_view c.in_ok-application.application) _ (c.in_ok-application.ensures.told files e)) c.in_ok-write_classes.ensures.plays

pub returns-clause-tells : goal.returns-clause-tells
returns-clause-tells g c = λ files e.
    rw (loaded_then (λ parts. written (classes_line parts ∷ [])) (app_view c.in_ok-application.application) _ (c.in_ok-application.ensures.told files e)) refl
