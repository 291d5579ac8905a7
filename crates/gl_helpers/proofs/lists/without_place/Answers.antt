use Rattle.std.proofs.Common.{not, add-one, ap, to_z, of_z, w64}
use Rattle.std.specs.Ordering.{int_eq}
use Rattle.gl_helpers.proofs.Items.{place_next}
use Rattle.gl_helpers.proofs.lists.without_place.Goals as goal

pub loop-place-preserved : goal.loop-place-preserved
loop-place-preserved c =
    let l = c.loop-place in
    rw add-one (place_next (λ p. not (int_eq p (to_z w64 (of_z w64 c.args.at)))) c.args.items.now l.place c.index-items-place.result _ l.list c.push_if.new.list _ c.loop-place-test.true c.index-items-place.is (ap not c.is_at.ensures) c.in_ok-push_if.ensures l.invariant)
