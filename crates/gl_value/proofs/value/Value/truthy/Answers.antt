use Rattle.std.proofs.Common.{not, ap, ◌∙◌, sym}
use Rattle.gl_value.specs.Value.{truthy}
use Rattle.gl_value.specs.View.{view}
use Rattle.gl_value.proofs.Values.{tested_none}
use Rattle.gl_value.proofs.value.Value.truthy.Goals as goal

pub returns-in-List : goal.returns-in-List
returns-in-List c = ap not (tested_none c.is_empty-in-List.result _ c.is_empty-in-List.ensures) ∙ ap (λ v. truthy (view v)) (sym c.in-List.is)
