use Rattle.gl_meaning.proofs.PlaceLaws.{numbered_are_nodes, number_persists}
use Rattle.gl_meaning.proofs.laws.session_nodes.Goals as goal

pub returns-clause-numbered : goal.returns-clause-numbered
returns-clause-numbered c = numbered_are_nodes

pub returns-clause-kept : goal.returns-clause-kept
returns-clause-kept c = number_persists
