use Rattle.std.specs.Prelude.{◌∷◌, []}
use Rattle.std.proofs.Common.{refl}
use Rattle.std.proofs.lemmas.Result.{err_from_is_err_and}
use Rattle.gl_ast.specs.Template.{body_of}
use Rattle.gl_ast.specs.declared.template.Template.{Template}
use Rattle.gl_commands.specs.Output.{shown_text, written}
use Rattle.gl_commands.proofs.Files.{file_is_not_deep}
use Rattle.gl_commands.proofs.Outputs.{part_written, part_tells, never_deep, loaded_then, load_tells, load_stops}
use Rattle.gl_commands.proofs.one_file.show_template.Goals as goal

pub returns-in_err-spelled-clause-told : goal.returns-in_err-spelled-clause-told
returns-in_err-spelled-clause-told g c = λ files e.
    let p = err_from_is_err_and c.from_residual.result c.from_residual.ensures.1 in
    rw (p.1, p.2) (load_stops (λ (t : Template). body_of t.body) c.in_err-spelled.field-0.0 _ (λ tree. written (shown_text tree ∷ [])) _ (c.in_err-spelled.ensures.told files e))

pub returns-in_err-spelled-clause-tells : goal.returns-in_err-spelled-clause-tells
returns-in_err-spelled-clause-tells g c = λ files e.
    let p = err_from_is_err_and c.from_residual.result c.from_residual.ensures.1 in
    rw (p.1, p.2) (load_tells (λ (t : Template). body_of t.body) c.in_err-spelled.field-0.0 _ (λ tree. written (shown_text tree ∷ [])) _ (c.in_err-spelled.ensures.told files e) c.in_err-spelled.ensures.named)

pub returns-in_err-spelled-clause-limit : goal.returns-in_err-spelled-clause-limit
returns-in_err-spelled-clause-limit g c = λ deep.
    let p = err_from_is_err_and c.from_residual.result c.from_residual.ensures.1 in
    file_is_not_deep c.in_err-spelled.field-0.0.cause (rw (p.1, p.2) at deep)

pub returns-in_err-write_shown-clause-told : goal.returns-in_err-write_shown-clause-told
returns-in_err-write_shown-clause-told g c = λ files e.
    let p = err_from_is_err_and c.from_residual-in_err-write_shown.result c.from_residual-in_err-write_shown.ensures.1 in
    rw (p.1, p.2, loaded_then (λ tree. written (shown_text tree ∷ [])) (body_of c.in_ok-spelled.spelled.body) _ (c.in_ok-spelled.ensures.told files e)) (part_written c.in_err-write_shown.field-0.0 _ _ _ tt (rw c.body.ensures at c.in_err-write_shown.ensures.plays))

pub returns-in_err-write_shown-clause-tells : goal.returns-in_err-write_shown-clause-tells
returns-in_err-write_shown-clause-tells g c = λ files e.
    let p = err_from_is_err_and c.from_residual-in_err-write_shown.result c.from_residual-in_err-write_shown.ensures.1 in
    rw (p.1, p.2, loaded_then (λ tree. written (shown_text tree ∷ [])) (body_of c.in_ok-spelled.spelled.body) _ (c.in_ok-spelled.ensures.told files e)) (part_tells c.in_err-write_shown.field-0.0 _ _ _ _ (rw c.body.ensures at c.in_err-write_shown.ensures.plays))

pub returns-in_err-write_shown-clause-limit : goal.returns-in_err-write_shown-clause-limit
returns-in_err-write_shown-clause-limit g c = λ deep.
    let p = err_from_is_err_and c.from_residual-in_err-write_shown.result c.from_residual-in_err-write_shown.ensures.1 in
    never_deep c.in_err-write_shown.field-0.0 _ _ _ c.in_err-write_shown.ensures.plays (rw (p.1, p.2) at deep)

pub returns-clause-told : goal.returns-clause-told
returns-clause-told g c = λ files e.
    rw (loaded_then (λ tree. written (shown_text tree ∷ [])) (body_of c.in_ok-spelled.spelled.body) _ (c.in_ok-spelled.ensures.told files e)) (rw c.body.ensures at c.in_ok-write_shown.ensures.plays)

pub returns-clause-tells : goal.returns-clause-tells
returns-clause-tells g c = λ files e.
    rw (loaded_then (λ tree. written (shown_text tree ∷ [])) (body_of c.in_ok-spelled.spelled.body) _ (c.in_ok-spelled.ensures.told files e)) refl
