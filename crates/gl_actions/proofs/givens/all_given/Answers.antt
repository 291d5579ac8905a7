use Rattle.std.proofs.Common.{ap₂, ◌∙◌}
use Rattle.std.proofs.lemmas.Result.{IfOk-weaker}
use Rattle.gl_ast.specs.Template.{exprs_of}
use Rattle.gl_meaning.specs.Eval.{values_in}
use Rattle.gl_actions.specs.Frames.{pairs_in}
use Rattle.gl_actions.proofs.Running.{all_are}
use Rattle.gl_actions.proofs.givens.all_given.Goals as goal

pub returns : goal.returns
returns c = IfOk-weaker c.values.result _ _
    (λ v e w fits. e w fits ∙ (ap₂ (λ n es. values_in (pairs_in w c.args.here.now n (exprs_of es))) c.len.ensures c.as_slice.ensures ∙ all_are w c.args.here.now fits (exprs_of c.args.exprs.now))) c.values.ensures
