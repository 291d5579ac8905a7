use Rattle.gl_tags.proofs.Changes.{free_keeps}
use Rattle.gl_tags.proofs.laws.free_keeps.Goals as goal

pub returns : goal.returns
returns c = free_keeps
