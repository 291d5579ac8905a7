use Rattle.std.proofs.Common.{◌+◌, drop, sym, ◌∙◌, ap}
use Rattle.gl_parts.specs.Parts.{words_of, spaced_after}
use Rattle.gl_code.proofs.ListLaws.{item_next}
use Rattle.gl_parts.proofs.attributes.joined.Goals as goal

pub loop-text-preserved : goal.loop-text-preserved
loop-text-preserved c =
    let k = c.loop-text.text-index in
    let at = item_next c.args.texts.now c.loop-text.text-index c.text-item.result c.loop-text-test.true c.text-item.is in
    c.in_ok-push_word.ensures (drop (k + 1) c.args.texts.now) ∙ (ap (λ ts. spaced_after c.loop-text.out (words_of ts)) (sym at) ∙ c.loop-text.invariant)
