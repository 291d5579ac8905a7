use Rattle.std.proofs.Common.{sym}
use Rattle.gl_ast.specs.View.{expr_view}
use Rattle.gl_meaning.specs.View.{manifest_view, class_view}
use Rattle.gl_program.specs.View.{program_view}
use Rattle.gl_load.proofs.Linked.{expr_lowered, expr_refused}
use Rattle.gl_load.proofs.exprs.expr_program.Goals as goal

pub returns-in-Ok-clause-lowers : goal.returns-in-Ok-clause-lowers
returns-in-Ok-clause-lowers c =
    c.in-Ok.ensures.lowers c.requires.0 (expr_view c.args.expr.now) c.args.params.now c.requires.1 (sym c.in_ok-wire.ensures)

pub returns-in-Ok-clause-told : goal.returns-in-Ok-clause-told
returns-in-Ok-clause-told c =
    let e = expr_view c.args.expr.now in
    expr_lowered (program_view c.in-Ok.program) e c.args.params.now (manifest_view c.args.manifest.now) (class_view c.args.class.now)
    (c.in-Ok.ensures.lowers c.requires.0 e c.args.params.now c.requires.1 (sym c.in_ok-wire.ensures))

pub returns-in-Err-UnknownName-clause-told : goal.returns-in-Err-UnknownName-clause-told
returns-in-Err-UnknownName-clause-told c =
    let e = expr_view c.args.expr.now in
    expr_refused (manifest_view c.args.manifest.now) (class_view c.args.class.now) c.args.params.now e _ _ _ _ c.in-Err-UnknownName.field-0-is
    (c.in-Err-UnknownName.ensures.unknown c.requires.0 e c.args.params.now c.requires.1 (sym c.in_ok-wire.ensures))
