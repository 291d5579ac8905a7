use Rattle.std.proofs.Common.{◌+◌, ◌++◌, drop, sym, ◌∙◌, ap, append-nil}
use Rattle.std.proofs.lemmas.List.{drop_all}
use Rattle.gl_plain.specs.Tags.{attributes_waiting}
use Rattle.gl_parts.specs.Parts.{seen_parts, seen_attributes}
use Rattle.gl_code.proofs.ListLaws.{item_next}
use Rattle.gl_parts.proofs.attributes.attributes_of.Goals as goal

pub loop-part-preserved : goal.loop-part-preserved
loop-part-preserved c n =
    let k = c.loop-part.part-index in
    let at = item_next c.args.parts.now c.loop-part.part-index c.part-item.result c.loop-part-test.true c.part-item.is in
    c.in_ok-add_part.ensures n (seen_parts n (drop (k + 1) c.args.parts.now)) ∙ (ap (λ ws. seen_attributes c.loop-part.list.items ++ attributes_waiting (seen_parts n ws)) (sym at) ∙ c.loop-part.invariant n)

pub returns : goal.returns
returns c n =
    sym (append-nil (seen_attributes c.loop-part.list.items))
    ∙ (ap (λ ws. seen_attributes c.loop-part.list.items ++ attributes_waiting (seen_parts n ws)) (sym (drop_all c.loop-part.part-index c.args.parts.now c.loop-part-test.false)) ∙ c.loop-part.invariant n)
