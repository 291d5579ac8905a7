use Rattle.gl_meaning.specs.View.{manifest_view, class_view}
use Rattle.gl_program.specs.View.{program_view}
use Rattle.gl_load.specs.Trees.{tree_of}
use Rattle.gl_load.proofs.Linked.{template_lowered, template_refused}
use Rattle.std.proofs.Common.{sym}
use Rattle.gl_load.proofs.programs.template_program.Goals as goal

pub returns-in-Ok-clause-told : goal.returns-in-Ok-clause-told
returns-in-Ok-clause-told c =
    let tree = tree_of c.args.template.now in
    template_lowered (program_view c.in-Ok.program) tree (manifest_view c.args.manifest.now) (class_view c.args.class.now)
    (c.in-Ok.ensures.lowers tree c.args.template.now.spelled (sym c.in_ok-wire.ensures))

pub returns-in-Err-UnknownName-clause-told : goal.returns-in-Err-UnknownName-clause-told
returns-in-Err-UnknownName-clause-told c =
    let tree = tree_of c.args.template.now in
    template_refused (manifest_view c.args.manifest.now) (class_view c.args.class.now) tree _ _ _ _ c.in-Err-UnknownName.field-0-is
    (c.in-Err-UnknownName.ensures.unknown tree c.args.template.now.spelled (sym c.in_ok-wire.ensures))
