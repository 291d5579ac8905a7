use Rattle.gl_load.proofs.IsLoaded.{grammar_left, left_grammar}
use Rattle.gl_load.proofs.laws.refused_as_said.Goals as goal

pub returns-clause-template : goal.returns-clause-template
returns-clause-template c = grammar_left

pub returns-clause-template_given : goal.returns-clause-template_given
returns-clause-template_given c = left_grammar
