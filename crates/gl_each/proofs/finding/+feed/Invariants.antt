use Rattle.std.proofs.Common.{◌≡◌, ◌<◌, fold, take, drop}
use Rattle.gl_value.specs.Value.{values_of, pairs_of, depth, values_depth, members_depth}
use Rattle.gl_value.specs.View.{view, seen_items, seen_pairs}
use Rattle.gl_each.specs.Hashed.{fed_values, fed_members}
use Rattle.gl_each.proofs.finding.+feed.Given as goal

abbrev pub decreases-feed : goal.decreases-feed
decreases-feed g l = depth (view l.value.now)

abbrev pub invariant-loop-item : goal.invariant-loop-item
invariant-loop-item g l = record {
  given : l.state ≡ fold g.H.Hasher.write l.initial.state (fed_values (values_of (seen_items (take l.item-index l.item-items))));
  shallow : values_depth (values_of (seen_items (drop l.item-index l.item-items))) < depth (view l.value);
}

abbrev pub invariant-loop-pair : goal.invariant-loop-pair
invariant-loop-pair g l = record {
  given : l.state ≡ fold g.H.Hasher.write l.initial.state (fed_members (pairs_of (seen_pairs (take l.pair-index l.pair-items))));
  shallow : members_depth (pairs_of (seen_pairs (drop l.pair-index l.pair-items))) < depth (view l.value);
}
