use Rattle.gl_meaning.proofs.laws.node_kind.Goals as goal
use Rattle.gl_meaning.proofs.Alike.{kind_is_kept}

pub returns : goal.returns
returns c = kind_is_kept
