use Rattle.std.proofs.Common.{◌≡◌}
use Rattle.gl_each.specs.Sync.{unkept}
use Rattle.gl_each.specs.View.{seen_steps}
use Rattle.gl_each.proofs.planning.removed.Given as goal

abbrev pub invariant-loop-place : goal.invariant-loop-place
invariant-loop-place l = l.list.items ≡ unkept l.place (seen_steps l.steps)
