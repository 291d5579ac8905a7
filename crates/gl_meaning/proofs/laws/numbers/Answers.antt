use Rattle.gl_meaning.proofs.laws.numbers.Goals as goal
use Rattle.gl_meaning.proofs.Numbers.{number_is_kept, others_are_numbered, nodes_are_numbered, numbers_stay_valid}

pub returns-clause-kept : goal.returns-clause-kept
returns-clause-kept c = number_is_kept

pub returns-clause-given : goal.returns-clause-given
returns-clause-given c = others_are_numbered

pub returns-clause-nodes : goal.returns-clause-nodes
returns-clause-nodes c = nodes_are_numbered

pub returns-clause-valid : goal.returns-clause-valid
returns-clause-valid c = numbers_stay_valid
