use Rattle.std.proofs.Common.{◌∷◌, [], Ok, Err, refl, ap}
use Rattle.std.proofs.lemmas.Result.{err_from_is_err_and}
use Rattle.gl_commands.specs.Output.{written}
use Rattle.gl_commands.proofs.Outputs.{puts_one, part_written, part_tells, part_causes, part_untouched, part_of_command}
use Rattle.gl_run.proofs.top.sum_sample.Goals as goal

pub returns-in_err-put_text-clause-told : goal.returns-in_err-put_text-clause-told
returns-in_err-put_text-clause-told g c = λ files.
    let p = err_from_is_err_and c.from_residual-in_err-put_text.result c.from_residual-in_err-put_text.ensures.1 in
    let fault = c.in_err-put_text.field-0.0 in
    let line = c.in_ok-session.line in
    rw (p.1, p.2, c.in_ok-session.ensures.told files)
    (part_written fault _ _ (written (line ∷ [])) tt (puts_one {X = Unit {0}} (Err fault) _ _ line c.in_err-put_text.ensures.puts))

pub returns-in_err-put_text-clause-tells : goal.returns-in_err-put_text-clause-tells
returns-in_err-put_text-clause-tells g c = λ files.
    let p = err_from_is_err_and c.from_residual-in_err-put_text.result c.from_residual-in_err-put_text.ensures.1 in
    let fault = c.in_err-put_text.field-0.0 in
    let line = c.in_ok-session.line in
    rw (p.1, p.2, c.in_ok-session.ensures.told files)
    (part_tells fault _ _ (written (line ∷ [])) [] (puts_one {X = Unit {0}} (Err fault) _ _ line c.in_err-put_text.ensures.puts))

pub returns-in_err-put_text-clause-causes : goal.returns-in_err-put_text-clause-causes
returns-in_err-put_text-clause-causes g c = λ misses faults.
    let p = err_from_is_err_and c.from_residual-in_err-put_text.result c.from_residual-in_err-put_text.ensures.1 in
    rw (p.1, p.2) (part_causes c.in_err-put_text.field-0.0 misses faults _ _ (λ is. c.in_err-put_text.ensures.failed (ap Err is)))

pub returns-in_err-put_text-clause-untouched : goal.returns-in_err-put_text-clause-untouched
returns-in_err-put_text-clause-untouched g c =
    let p = err_from_is_err_and c.from_residual-in_err-put_text.result c.from_residual-in_err-put_text.ensures.1 in
    rw (p.1, p.2) (part_untouched c.in_err-put_text.field-0.0 _ _)

pub returns-in_err-put_text-clause-used : goal.returns-in_err-put_text-clause-used
returns-in_err-put_text-clause-used g c =
    let p = err_from_is_err_and c.from_residual-in_err-put_text.result c.from_residual-in_err-put_text.ensures.1 in
    rw (p.1, p.2) (part_of_command c.in_err-put_text.field-0.0)

pub returns-clause-told : goal.returns-clause-told
returns-clause-told g c = λ files.
    rw (c.in_ok-session.ensures.told files) (puts_one {X = Unit {0}} (Ok tt) _ _ c.in_ok-session.line c.in_ok-put_text.ensures.puts)

pub returns-clause-tells : goal.returns-clause-tells
returns-clause-tells g c = λ files. rw (c.in_ok-session.ensures.told files) refl
