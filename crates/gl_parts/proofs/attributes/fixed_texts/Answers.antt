use Rattle.std.proofs.Common.{◌+◌, ◌++◌, drop, sym, ◌∙◌, ap}
use Rattle.std.specs.List.{cons_option}
use Rattle.gl_plain.specs.Tags.{given_pairs}
use Rattle.gl_parts.specs.Parts.{seen_attributes, texts_given}
use Rattle.gl_code.proofs.ListLaws.{item_next}
use Rattle.gl_parts.proofs.attributes.fixed_texts.Goals as goal

pub loop-attribute-preserved : goal.loop-attribute-preserved
loop-attribute-preserved c =
    let k = c.loop-attribute.attribute-index in
    let at = item_next c.args.taken.now c.loop-attribute.attribute-index c.attribute-item.result c.loop-attribute-test.true c.attribute-item.is in
    let more = texts_given (given_pairs (seen_attributes (drop (k + 1) c.args.taken.now))) in
    c.in_ok-add_text.ensures more
    ∙ (ap (λ o. c.loop-attribute.texts ++ cons_option o more) c.in_ok-text.ensures
    ∙ (ap (λ ws. c.loop-attribute.texts ++ texts_given (given_pairs (seen_attributes ws))) (sym at) ∙ c.loop-attribute.invariant))
