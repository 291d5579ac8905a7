use Rattle.std.proofs.Common.{◌≡◌, ◌++◌, drop}
use Rattle.gl_value.specs.View.{seen_items}
use Rattle.gl_actions.specs.Steps.{bind_values}
use Rattle.gl_actions.proofs.givens.bound.Given as goal

abbrev pub invariant-loop-name : goal.invariant-loop-name
invariant-loop-name l = l.params ++ bind_values (drop l.name-index l.names) (seen_items l.rest) ≡ bind_values l.names (seen_items l.values)
