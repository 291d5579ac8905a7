use Rattle.gl_means.proofs.laws.expressions.Goals as goal
use Rattle.gl_means.proofs.Expressions.{expression_means, expressions_mean}

pub returns-clause-one : goal.returns-clause-one
returns-clause-one c = expression_means

pub returns-clause-all : goal.returns-clause-all
returns-clause-all c = expressions_mean
