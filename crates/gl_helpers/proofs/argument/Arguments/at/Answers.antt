use Rattle.std.proofs.Common.{◌∙◌}
use Rattle.gl_value.specs.View.{seen_items}
use Rattle.gl_helpers.proofs.Items.{at_place-some, at_place-none}
use Rattle.gl_helpers.proofs.argument.Arguments.at.Goals as goal

pub returns-in-Some : goal.returns-in-Some
returns-in-Some c = rw (← c.self.view_is) (at_place-some c.args.at (seen_items c.self.inside.given.now) _ c.in-Some.ensures)

pub returns-in-None : goal.returns-in-None
returns-in-None c = rw (← c.self.view_is) (c.self.invariant ∙ at_place-none c.args.at (seen_items c.self.inside.given.now) c.in-None.ensures)
