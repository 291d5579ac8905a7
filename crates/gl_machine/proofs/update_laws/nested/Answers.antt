use Rattle.gl_machine.proofs.update_laws.nested.Goals as goal
use Rattle.gl_machine.proofs.Nests.{nest_is_ordered, nest_is_placed, nest_has_nodes}
use Rattle.gl_machine.proofs.NestShown.{nest_is_drawn}

pub returns-clause-ordered : goal.returns-clause-ordered
returns-clause-ordered c = nest_is_ordered

pub returns-clause-placed : goal.returns-clause-placed
returns-clause-placed c = nest_is_placed

pub returns-clause-drawn : goal.returns-clause-drawn
returns-clause-drawn c = nest_is_drawn

pub returns-clause-nodes : goal.returns-clause-nodes
returns-clause-nodes c = nest_has_nodes
