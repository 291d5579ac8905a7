use Rattle.gl_each.specs.Key.{same_key}
use Rattle.gl_each.specs.SameKeys.{same_key-Decides}
use Rattle.gl_each.specs.View.{key_view}
use Rattle.gl_each.proofs.Standing.{stands_just}
use Rattle.gl_each.proofs.finder.stands_at.Goals as goal

pub returns-then-place-old : goal.returns-then-place-old
returns-then-place-old c =
    rw c.is_key.ensures (stands_just same_key same_key-Decides key_view c.args.old.now c.args.place c.index-old-place.result (key_view c.args.key.now) c.requires c.if-place-old.true c.index-old-place.is)
