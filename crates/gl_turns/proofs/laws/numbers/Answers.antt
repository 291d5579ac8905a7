use Rattle.gl_turns.proofs.laws.numbers.Goals as goal
use Rattle.gl_turns.proofs.Numbered.{appended_numbers, updated_numbers, updated_made_count}

pub returns-clause-appended : goal.returns-clause-appended
returns-clause-appended c = appended_numbers

pub returns-clause-updated : goal.returns-clause-updated
returns-clause-updated c = updated_numbers

pub returns-clause-made : goal.returns-clause-made
returns-clause-made c = updated_made_count
