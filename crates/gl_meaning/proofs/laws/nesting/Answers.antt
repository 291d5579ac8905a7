use Rattle.gl_meaning.proofs.Nesting.{components_nest, deep_is_one_more}
use Rattle.gl_meaning.proofs.laws.nesting.Goals as goal

pub returns-clause-components : goal.returns-clause-components
returns-clause-components c = components_nest

pub returns-clause-deep : goal.returns-clause-deep
returns-clause-deep c = deep_is_one_more
