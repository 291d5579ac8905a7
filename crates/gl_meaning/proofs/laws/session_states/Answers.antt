use Rattle.gl_meaning.proofs.laws.session_states.Goals as goal
use Rattle.gl_meaning.proofs.Sessions.{state_is_rendered, state_is_settled, state_holds_no_action, state_reads_above, state_numbers_are_valid}

pub returns-clause-rendered : goal.returns-clause-rendered
returns-clause-rendered c = state_is_rendered

pub returns-clause-settled : goal.returns-clause-settled
returns-clause-settled c = state_is_settled

pub returns-clause-plain : goal.returns-clause-plain
returns-clause-plain c = state_holds_no_action

pub returns-clause-above : goal.returns-clause-above
returns-clause-above c = state_reads_above

pub returns-clause-numbers : goal.returns-clause-numbers
returns-clause-numbers c = state_numbers_are_valid
