use Rattle.std.proofs.Common.{map}
use Rattle.std.proofs.lemmas.List.{map-append}
use Rattle.gl_shape.proofs.Walks.{tells_under, found_go}
use Rattle.gl_shape.proofs.walk.read_members.Goals as goal

pub loop-key-preserved : goal.loop-key-preserved
loop-key-preserved g c =
    let seen = g.R.MemberReader.seen in
    let told = tells_under seen _ _ _ _ c.in_ok-item.ensures c.read-read.ensures in
    let is = rw (c.as_str.ensures.value, c.as_str-in-loop-key.ensures.value) at told in
    let step = found_go (map seen c.loop-key.list.items) (seen c.in_ok-item.item) _ _ _ is (rw c.in-Some.ensures.steps at c.loop-key.invariant) in
    rw (c.in_ok-push.ensures.items, map-append) step
