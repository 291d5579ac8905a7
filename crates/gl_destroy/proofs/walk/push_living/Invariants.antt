use Rattle.std.proofs.Common.{◌≡◌, ◌++◌, drop}
use Rattle.gl_destroy.specs.Links.{living}
use Rattle.gl_destroy.specs.View.{look_in}
use Rattle.gl_destroy.proofs.walk.push_living.Given as goal

abbrev pub invariant-loop-id : goal.invariant-loop-id
invariant-loop-id l = l.stack.items ++ living (look_in l.entries) (drop l.id-index l.ids) ≡ l.initial.stack.items ++ living (look_in l.entries) l.ids
