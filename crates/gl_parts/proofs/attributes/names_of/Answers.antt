use Rattle.std.proofs.Common.{◌+◌, ◌++◌, drop, sym, ◌∙◌, ap}
use Rattle.gl_plain.specs.Tags.{names_waiting}
use Rattle.gl_parts.specs.Parts.{seen_attributes, other_names}
use Rattle.gl_parts.proofs.NameLists.{none_among}
use Rattle.gl_code.proofs.ListLaws.{item_next}
use Rattle.gl_parts.proofs.attributes.names_of.Goals as goal

pub loop-attribute-init : goal.loop-attribute-init
loop-attribute-init c = ap (λ ks. ks ++ other_names ks (names_waiting (seen_attributes c.args.attributes.now))) c.new-names.ensures ∙ none_among (names_waiting (seen_attributes c.args.attributes.now))

pub loop-attribute-preserved : goal.loop-attribute-preserved
loop-attribute-preserved c =
    let k = c.loop-attribute.attribute-index in
    let at = item_next c.args.attributes.now c.loop-attribute.attribute-index c.attribute-item.result c.loop-attribute-test.true c.attribute-item.is in
    c.in_ok-add_name.ensures (names_waiting (seen_attributes (drop (k + 1) c.args.attributes.now)))
    ∙ (ap (λ ws. c.loop-attribute.names ++ other_names c.loop-attribute.names (names_waiting (seen_attributes ws))) (sym at) ∙ c.loop-attribute.invariant)
