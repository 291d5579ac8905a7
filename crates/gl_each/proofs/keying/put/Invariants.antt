use Rattle.std.proofs.Common.{◌≡◌, take}
use Rattle.gl_each.specs.Counted.{put_counts}
use Rattle.gl_each.specs.View.{seen_keys}
use Rattle.gl_each.proofs.keying.put.Given as goal

abbrev pub invariant-loop-place : goal.invariant-loop-place
invariant-loop-place l = seen_keys l.list.items ≡ put_counts (seen_keys l.initial.list.items) (take l.place l.counts)
