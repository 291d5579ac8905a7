use Rattle.std.proofs.Common.{sym, ap, subst, ◌∙◌}
use Rattle.gl_destroy.specs.Links.{living, AreGiven}
use Rattle.gl_destroy.specs.View.{look_in}
use Rattle.gl_destroy.proofs.Thinning.{living-twice, given-living}
use Rattle.gl_destroy.proofs.siblings.thin_trees.Goals as goal

pub returns-in_ok-trees-clause-trees : goal.returns-in_ok-trees-clause-trees
returns-in_ok-trees-clause-trees c = ap (living (look_in c.args.entries.now)) c.in_ok-trees.ensures ∙ living-twice (look_in c.args.entries.now) c.args.trees.now.list.items

pub returns-in_ok-trees-clause-given : goal.returns-in_ok-trees-clause-given
returns-in_ok-trees-clause-given c = λ made given. subst (AreGiven made) (sym c.in_ok-trees.ensures) (given-living (look_in c.args.entries.now) made c.args.trees.now.list.items given)
