use Rattle.gl_parse.proofs.Places.{template_place_is}
use Rattle.gl_parse.proofs.laws.place_of_template.Goals as goal

pub returns : goal.returns
returns c = template_place_is
