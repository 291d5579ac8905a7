use Rattle.std.proofs.Common.{arith}
use Rattle.std.proofs.lemmas.Grind.{common_steps}
use Rattle.gl_value.specs.View.{view}
use Rattle.gl_helpers.proofs.Items.{map_reverse}
use Rattle.gl_helpers.proofs.lists.reverse.Goals as goal

pub returns : goal.returns
returns c = grind (arith, common_steps, map_reverse view)
