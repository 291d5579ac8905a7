use Rattle.gl_tags.proofs.Changes.{combine_is_greatest}
use Rattle.gl_tags.proofs.laws.combine_is_greatest.Goals as goal

pub returns : goal.returns
returns c = combine_is_greatest
