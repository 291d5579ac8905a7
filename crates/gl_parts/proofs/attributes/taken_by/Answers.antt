use Rattle.std.proofs.Common.{sym, ◌∙◌, ap}
use Rattle.std.proofs.lemmas.Result.{IfOk-weaker}
use Rattle.std.specs.Str.{bytes_eq}
use Rattle.gl_parts.proofs.AttrLaws.{class_is, class_takes, other_takes}
use Rattle.gl_meaning.specs.Parts.{last_only}
use Rattle.gl_parts.specs.Parts.{seen_attributes}
use Rattle.gl_parts.proofs.attributes.taken_by.Goals as goal

pub returns-then-is : goal.returns-then-is
returns-then-is c =
    c.in_ok-list.ensures ∙ sym (class_takes c.args.name.now (seen_attributes c.args.attributes.now) (ap (λ t. bytes_eq t c.args.name.now) (sym class_is) ∙ (sym c.is.ensures ∙ c.if-is.true)))

pub returns-else-is : goal.returns-else-is
returns-else-is c =
    IfOk-weaker c.last_of.result _ _
    (λ v e. e ∙ (ap last_only c.in_ok-list.ensures ∙ sym (other_takes c.args.name.now (seen_attributes c.args.attributes.now) (ap (λ t. bytes_eq t c.args.name.now) (sym class_is) ∙ (sym c.is.ensures ∙ c.if-is.false))))) c.last_of.ensures
