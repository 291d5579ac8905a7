use Rattle.gl_meaning.specs.View.{manifest_view, class_view}
use Rattle.gl_wire.specs.View.{expr_wire_view}
use Rattle.gl_opc.proofs.Lowering.{lowers_each, known_each, first_each}
use Rattle.gl_opc.proofs.linking.link_expression.Goals as goal

pub returns-clause-lowers : goal.returns-clause-lowers
returns-clause-lowers c =
    lowers_each (manifest_view c.args.manifest.now) (class_view c.args.class.now) (expr_wire_view c.args.wire.now) c.expression_program.result
    c.expression_program.ensures.made c.expression_program.ensures.known

pub returns-clause-unknown : goal.returns-clause-unknown
returns-clause-unknown c =
    first_each (manifest_view c.args.manifest.now) (class_view c.args.class.now) (expr_wire_view c.args.wire.now) c.expression_program.result c.expression_program.ensures.unknown

pub returns-clause-known : goal.returns-clause-known
returns-clause-known c =
    known_each (manifest_view c.args.manifest.now) (class_view c.args.class.now) (expr_wire_view c.args.wire.now) c.expression_program.result (returns-clause-lowers c)
