use Rattle.std.proofs.Common.{sym, ap, ◌∙◌}
use Rattle.gl_mods.specs.Mods.{ids_on}
use Rattle.gl_mods.proofs.AtNodes.{ids_at-is, items_of}
use Rattle.gl_mods.proofs.mods.Mods.on_node.Goals as goal

pub returns-in-Some : goal.returns-in-Some
returns-in-Some c = c.as_slice.ensures.value ∙ (ap items_of c.in-Some.ensures.value ∙ (sym (ids_at-is c.self.inside.lists c.args.node) ∙ ap (λ m. ids_on m c.args.node) c.self.view_is))

pub returns-in-None : goal.returns-in-None
returns-in-None c = ap items_of c.in-None.ensures.value ∙ (sym (ids_at-is c.self.inside.lists c.args.node) ∙ ap (λ m. ids_on m c.args.node) c.self.view_is)
