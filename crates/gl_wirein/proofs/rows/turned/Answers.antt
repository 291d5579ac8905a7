use Rattle.std.proofs.Common.{◌∙◌, ap}
use Rattle.gl_ast.specs.View.{stmt_view, seen_stmts}
use Rattle.gl_wirein.proofs.Loops.{map-reverse}
use Rattle.gl_wirein.proofs.rows.turned.Goals as goal

pub returns : goal.returns
returns c = c.from_vec.ensures ∙ ap seen_stmts c.reverse.ensures.items ∙ map-reverse stmt_view c.args.stmts.items
