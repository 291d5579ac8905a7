use Rattle.std.proofs.Common.{◌≡◌, [], ◌∷◌, ap, arith}
use Rattle.std.proofs.lemmas.Grind.{common_steps}
use Rattle.std.specs.Prelude.{codes}
use Rattle.gl_wire.specs.Json.{row, body_rows, else_rows}
use Rattle.gl_wire.specs.View.{stmt_view}
use Rattle.gl_wire.specs.Wire.{body_of, comment_stmt}
use Rattle.gl_wire.proofs.Elses.{else_body}
use Rattle.gl_wire.proofs.stmt_json.+statement.Goals as goal

pub push_else-returns : goal.push_else-returns
push_else-returns t c =
    let e : else_rows c.args.version (body_of c.args.otherwise.now) ≡ row (codes "else") [] ∷ body_rows c.args.version (body_of c.args.otherwise.now) = else_body c.args.version c.args.otherwise.now (λ none. let h = c.is_empty.ensures.1 none in let k = c.if-is_empty.false in cc) in
    rw e (grind (arith, common_steps))

pub push_stmt-returns-in-Comment : goal.push_stmt-returns-in-Comment
push_stmt-returns-in-Comment t c =
    let e : stmt_view c.args.stmt.now ≡ comment_stmt c.in-Comment.text = ap stmt_view c.in-Comment.is in
    rw e c.push_text_row-in-Comment.ensures
