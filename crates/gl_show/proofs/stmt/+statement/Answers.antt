use Rattle.std.proofs.Common.{◌≡◌, ◌++◌, arith}
use Rattle.std.proofs.lemmas.Grind.{common_steps}
use Rattle.std.specs.Prelude.{codes, false}
use Rattle.gl_ast.specs.Canon.{body_text, else_text}
use Rattle.gl_ast.specs.Template.{body_of}
use Rattle.gl_show.proofs.Bodies.{else_body}
use Rattle.gl_show.proofs.stmt.+statement.Goals as goal

pub write_else-returns : goal.write_else-returns
write_else-returns t c =
    let e : else_text (body_of c.args.otherwise.now) ≡ codes "{{else}}" ++ body_text false (body_of c.args.otherwise.now) = else_body c.args.otherwise.now (λ none. let h = c.is_empty.ensures.1 none in let k = c.if-is_empty.false in cc) in
    rw e (grind (arith, common_steps))
