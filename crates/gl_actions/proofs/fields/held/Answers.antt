use Rattle.std.proofs.Common.{◌∙◌}
use Rattle.std.proofs.lemmas.Result.{IfOk-weaker}
use Rattle.gl_actions.proofs.FieldLaws.{cell_is}
use Rattle.gl_actions.proofs.fields.held.Goals as goal

pub returns-in-Some : goal.returns-in-Some
returns-in-Some c = IfOk-weaker c.read.result _ _
    (λ v e w fits. e w ∙ cell_is w c.args.frame.now fits c.args.name.now c.as_slice.result.now c.as_slice-2.result.now c.in-Some.cell c.as_slice.ensures c.as_slice-2.ensures c.in-Some.ensures)
    c.read.ensures
