use Rattle.std.proofs.Common.{◌∙◌, ap}
use Rattle.gl_ast.specs.Template.{slots_of}
use Rattle.gl_ast.specs.View.{slot_view, seen_slots}
use Rattle.gl_wirein.proofs.Loops.{map-reverse}
use Rattle.gl_wirein.proofs.rows.Open.into_slots.Goals as goal

pub returns : goal.returns
returns c = ap slots_of (c.from_vec.ensures ∙ ap seen_slots c.reverse.ensures.items ∙ map-reverse slot_view c.args.self.slots.items)
