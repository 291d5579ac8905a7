use Rattle.gl_follows.proofs.Words.{first_words, next_words, puts_words, next_ends}
use Rattle.gl_follows.proofs.laws.words.Goals as goal

pub returns-clause-first : goal.returns-clause-first
returns-clause-first c = first_words

pub returns-clause-next : goal.returns-clause-next
returns-clause-next c = next_words

pub returns-clause-puts : goal.returns-clause-puts
returns-clause-puts c = puts_words

pub returns-clause-ends : goal.returns-clause-ends
returns-clause-ends c = next_ends
