use Rattle.gl_ast.specs.View.{expr_view}
use Rattle.gl_manifest.proofs.Spelling.{given_spelled}
use Rattle.gl_manifest.proofs.spelled.expression.Goals as goal

pub returns-in-Ok : goal.returns-in-Ok
returns-in-Ok c = given_spelled c.args.text.now (expr_view c.in-Ok.expr) c.in-Ok.ensures.tree
