use Rattle.gl_tags.proofs.Changes.{dirty_reaches}
use Rattle.gl_tags.proofs.laws.dirty_reaches.Goals as goal

pub returns : goal.returns
returns c = dirty_reaches
