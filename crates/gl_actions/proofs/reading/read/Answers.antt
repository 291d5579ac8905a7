use Rattle.std.proofs.Common.{sym, ap, ◌∙◌}
use Rattle.std.proofs.lemmas.Result.{IfOk-weaker}
use Rattle.gl_value.specs.Owners.{with_owners}
use Rattle.gl_value.specs.View.{view}
use Rattle.gl_actions.specs.World.{tables_in}
use Rattle.gl_actions.proofs.Renamed.{labelled_in}
use Rattle.gl_actions.proofs.reading.read.Goals as goal

pub returns : goal.returns
returns c = IfOk-weaker c.value.result _ _ (λ v e w. sym (labelled_in w (view v)) ∙ ap (with_owners w.names) (sym (e (tables_in w) w.touched))) c.value.ensures
