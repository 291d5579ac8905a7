use Rattle.gl_lex.proofs.Beginnings.{begins_is_begun}
use Rattle.gl_lex.proofs.Completed.{is_begun_begins}
use Rattle.gl_lex.proofs.laws.begun_as_told.Goals as goal

pub returns-clause-goes_on : goal.returns-clause-goes_on
returns-clause-goes_on c = λ mode bytes none told. is_begun_begins mode bytes none told

pub returns-clause-told : goal.returns-clause-told
returns-clause-told c = λ mode bytes some none begins. begins_is_begun mode bytes some none begins
