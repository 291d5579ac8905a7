use Rattle.gl_meaning.proofs.laws.getter_value.Goals as goal
use Rattle.gl_meaning.proofs.Getters.{getter_value}

pub returns : goal.returns
returns c = getter_value
