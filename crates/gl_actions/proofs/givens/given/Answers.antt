use Rattle.std.proofs.Common.{ap, ◌∙◌}
use Rattle.std.proofs.lemmas.Result.{IfOk-weaker}
use Rattle.gl_ast.specs.View.{expr_view}
use Rattle.gl_actions.specs.Frames.{pair_in}
use Rattle.gl_actions.proofs.Running.{given_is}
use Rattle.gl_actions.proofs.givens.given.Goals as goal

pub returns : goal.returns
returns c = IfOk-weaker c.value.result _ _
    (λ v e w fits. e w fits ∙ (ap (λ n. (pair_in w c.args.here.now n (expr_view c.args.expr.now)).value) c.len.ensures ∙ given_is w c.args.here.now fits (expr_view c.args.expr.now))) c.value.ensures
