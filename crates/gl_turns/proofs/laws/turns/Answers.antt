use Rattle.gl_turns.proofs.laws.turns.Goals as goal
use Rattle.gl_turns.proofs.Resettled.{settled_stands}
use Rattle.gl_turns.proofs.Turning.{first_turn, next_turn}
use Rattle.gl_turns.proofs.TurnLogs.{first_log, next_log}

pub returns-clause-first : goal.returns-clause-first
returns-clause-first c = first_turn

pub returns-clause-next : goal.returns-clause-next
returns-clause-next c = next_turn

pub returns-clause-settled : goal.returns-clause-settled
returns-clause-settled c = settled_stands

pub returns-clause-first_log : goal.returns-clause-first_log
returns-clause-first_log c = first_log

pub returns-clause-next_log : goal.returns-clause-next_log
returns-clause-next_log c = next_log
