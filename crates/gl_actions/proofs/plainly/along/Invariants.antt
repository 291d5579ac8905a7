use Rattle.std.proofs.Common.{◌≡◌, drop}
use Rattle.gl_value.specs.Value.{properties}
use Rattle.gl_value.specs.View.{view}
use Rattle.gl_actions.proofs.plainly.along.Given as goal

abbrev pub invariant-loop-name : goal.invariant-loop-name
invariant-loop-name l = properties (drop l.name-index l.names) (view l.found) ≡ properties l.names (view l.fn.value)
