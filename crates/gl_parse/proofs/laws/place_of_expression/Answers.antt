use Rattle.gl_parse.proofs.Places.{expression_place_is}
use Rattle.gl_parse.proofs.laws.place_of_expression.Goals as goal

pub returns : goal.returns
returns c = expression_place_is
