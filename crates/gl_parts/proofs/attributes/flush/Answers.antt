use Rattle.std.proofs.Common.{map, ◌∙◌, ap}
use Rattle.std.proofs.lemmas.Result.{IfOk-weaker}
use Rattle.gl_code.specs.CodeView.{seen_attr_spot}
use Rattle.gl_parts.specs.Parts.{seen_attributes}
use Rattle.gl_parts.proofs.AttrLaws.{flushed_of}
use Rattle.gl_parts.proofs.attributes.flush.Goals as goal

pub returns-clause-step : goal.returns-clause-step
returns-clause-step c =
    IfOk-weaker c.give_all.result _ _
    (λ r. flushed_of c.args.parts.now c.as_slice.result.now r.attrs.items (map seen_attr_spot r.spots.items) c.args.vm.now c.give_all.new.vm (λ n. ap seen_attributes c.as_slice.ensures.value ∙ c.in_ok-attributes.ensures n)) c.give_all.ensures.step
