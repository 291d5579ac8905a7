use Rattle.std.proofs.Common.{ap, ◌∙◌}
use Rattle.std.proofs.lemmas.Bool.{false≢true}
use Rattle.gl_ast.specs.Template.{call, exprs_of, named_of}
use Rattle.gl_exprs.proofs.Called.{called_given, called_named}
use Rattle.gl_exprs.proofs.expr.called.Goals as goal
use Rattle.gl_exprs.proofs.expr.called.Goals.{else-is_empty-via-then-is_empty+else-is_empty-2, else-is_empty-via-else-is_empty}

pub returns-in_ok-new : goal.returns-in_ok-new
returns-in_ok-new c =
    ap (λ ns. call c.args.name (exprs_of c.args.given.args) (named_of ns)) c.in_ok-new.ensures.ok
    ∙ elim c.else-is_empty.branch [
      | else-is_empty-via-then-is_empty+else-is_empty-2 w ↦ called_named c.args.name c.args.given.args c.args.given.named (λ e. false≢true (w.if-is_empty-2.ensures.1 e))
      | else-is_empty-via-else-is_empty w ↦ called_given c.args.name c.args.given.args c.args.given.named (λ e. false≢true (w.if-is_empty.ensures.1 e))
    ]
