use Rattle.std.proofs.Common.{◌∙◌, sym, ap}
use Rattle.gl_value.specs.Helpers.{items_in}
use Rattle.gl_value.specs.View.{view}
use Rattle.gl_value.proofs.Values.{list_of-values_of}
use Rattle.gl_helpers.proofs.lists.items_in.Goals as goal

pub returns-in-List : goal.returns-in-List
returns-in-List c = c.as_slice.ensures ∙ sym (list_of-values_of _) ∙ ap (λ v. items_in (view v)) (sym c.in-List.is)
