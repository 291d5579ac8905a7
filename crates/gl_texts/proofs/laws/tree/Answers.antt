use Rattle.gl_texts.proofs.Trees.{tree_is}
use Rattle.gl_texts.proofs.laws.tree.Goals as goal

pub returns : goal.returns
returns c = tree_is
