use Rattle.gl_meaning.proofs.laws.paths_once.Goals as goal
use Rattle.gl_meaning.proofs.Once.{nodes_once, positions_once, regions_once, instances_once, items_once}
use Rattle.gl_meaning.proofs.Modifiers.{modifiers_once, modifier_is_position}

pub returns-clause-nodes : goal.returns-clause-nodes
returns-clause-nodes c = nodes_once

pub returns-clause-positions : goal.returns-clause-positions
returns-clause-positions c = positions_once

pub returns-clause-regions : goal.returns-clause-regions
returns-clause-regions c = regions_once

pub returns-clause-instances : goal.returns-clause-instances
returns-clause-instances c = instances_once

pub returns-clause-items : goal.returns-clause-items
returns-clause-items c = items_once

pub returns-clause-modifiers : goal.returns-clause-modifiers
returns-clause-modifiers c = modifiers_once

pub returns-clause-arguments : goal.returns-clause-arguments
returns-clause-arguments c = modifier_is_position
