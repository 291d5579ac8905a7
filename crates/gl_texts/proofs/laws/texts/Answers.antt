use Rattle.gl_texts.proofs.Texts.{first_text, next_text}
use Rattle.gl_texts.proofs.Words.{puts_text}
use Rattle.gl_texts.proofs.laws.texts.Goals as goal

pub returns-clause-first : goal.returns-clause-first
returns-clause-first c = first_text

pub returns-clause-next : goal.returns-clause-next
returns-clause-next c = next_text

pub returns-clause-puts : goal.returns-clause-puts
returns-clause-puts c = puts_text
