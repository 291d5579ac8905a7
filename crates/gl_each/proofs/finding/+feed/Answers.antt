use Rattle.std.proofs.Common.{◌∙◌, arith, ap}
use Rattle.gl_each.proofs.Feeding.{shallow-item, shallow-pair, feeds_item, feeds_pair}
use Rattle.gl_each.proofs.finding.+feed.Goals as goal

pub loop-item-preserved : goal.loop-item-preserved
loop-item-preserved g t c = record {
  given = feeds_item _ _ _ _ c.as_slice-item-items.result.now c.loop-item.item-index c.item-item.result c.loop-item-test.true c.loop-item.invariant.given (rw (← c.item-item.is) c.feed.ensures);
  shallow = omega (arith, shallow-item c.as_slice-item-items.result.now c.loop-item.item-index, c.loop-item.invariant.shallow);
}

pub loop-pair-preserved : goal.loop-pair-preserved
loop-pair-preserved g t c = record {
  given = feeds_pair _ _ _ _ c.as_slice-pair-items.result.now c.loop-pair.pair-index c.pair-item.result c.write-in-loop-pair.new.self c.loop-pair-test.true c.loop-pair.invariant.given (rw (← c.pair-item.is) (c.write-in-loop-pair.ensures ∙ ap (g.H.Hasher.write c.loop-pair.state) (c.as_bytes-in-loop-pair.ensures.value ∙ c.as_str-in-loop-pair.ensures.bytes))) (rw (← c.pair-item.is) c.feed-in-loop-pair.ensures);
  shallow = omega (arith, shallow-pair c.as_slice-pair-items.result.now c.loop-pair.pair-index, c.loop-pair.invariant.shallow);
}
