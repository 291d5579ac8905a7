use Rattle.std.proofs.Common.{sym, ◌∙◌, ap}
use Rattle.std.proofs.lemmas.Result.{IfOk-weaker}
use Rattle.gl_value.specs.Value.{attribute_text}
use Rattle.gl_value.specs.View.{view}
use Rattle.gl_value.proofs.Owners.{rules_leave_owners}
use Rattle.gl_vm.specs.Labels.{owner_path}
use Rattle.gl_parts.proofs.attributes.live_text.Goals as goal

pub returns : goal.returns
returns c =
    IfOk-weaker c.attr_of.result _ _ (λ o e n t. e ∙ (sym (rules_leave_owners owner_path (view c.in_ok-value.value)).2 ∙ ap attribute_text (sym (c.in_ok-value.ensures n t)))) c.attr_of.ensures
