use Rattle.std.proofs.Common.{◌≡◌, ◌<◌, length, drop, ap, ◌∙◌, arith, add-one, refl}
use Rattle.gl_space.specs.Turn.{changed, put_at}
use Rattle.gl_space.proofs.Turns.{turn, put_length}
use Rattle.gl_space.proofs.pass.settle.Goals as goal

pub loop-at-preserved : goal.loop-at-preserved
loop-at-preserved c =
    let at = c.loop-at.at in
    let list = c.loop-at.list.items in
    let bs = c.args.text.now in
    let left : c.split_at.result.1.now ≡ drop at list = rw (c.split_at.ensures.back, c.as_slice.ensures.value) refl in
    let within : at < length list = let h = c.loop-at.invariant.whole in let k = c.loop-at-test.true in omega (arith, h, k) in
    let text = rw (c.as_bytes-bytes.ensures.value, left) at c.changed-text.ensures in
    let front = rw (c.as_bytes-bytes.ensures.value, left) at c.front_after-front.ensures in
    let tag = rw left at c.tag_after-tag.ensures in
    let new : c.put_at.new.list.items ≡ put_at at (changed bs c.loop-at.tag c.loop-at.front (drop at list)) list =
    c.put_at.ensures ∙ ap (λ o. put_at at o list) text in
    record {
      settled = rw (add-one, tag, front, new) (turn bs c.loop-at.tag c.loop-at.front at list within ∙ c.loop-at.invariant.settled);
      whole = ap length new ∙ put_length (changed bs c.loop-at.tag c.loop-at.front (drop at list)) at list ∙ c.loop-at.invariant.whole;
    }
