use Rattle.std.proofs.Common.{vec_len}
use Rattle.gl_actions.specs.World.{World}
use Rattle.gl_actions.specs.Reads.{Reads}
use Rattle.gl_session.proofs.Laid.{GivenSoFar}
use Rattle.gl_session.proofs.laying.givens_for.Given as goal

-- the sets that are left make with what is given to the others all of them
abbrev pub invariant-loop-set : goal.invariant-loop-set
invariant-loop-set l = (w : World) → Reads l.app l.page w → GivenSoFar w l.page l.fn.sets l.waiting.items l.givens.items

abbrev pub decreases-loop-set : goal.decreases-loop-set
decreases-loop-set l = vec_len l.waiting
