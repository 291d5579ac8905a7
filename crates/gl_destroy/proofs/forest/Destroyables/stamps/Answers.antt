use Rattle.std.proofs.Common.{subst}
use Rattle.gl_destroy.specs.Forest.{IsSound}
use Rattle.gl_destroy.proofs.Calls.{sound}
use Rattle.gl_destroy.proofs.forest.Destroyables.stamps.Goals as goal

pub returns : goal.returns
returns c = subst IsSound c.self.view_is (sound c.self.inside.entries c.self.inside.trees.list.items _ c.self.invariant.forest c.stamps.ensures)
