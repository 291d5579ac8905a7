use Rattle.std.proofs.Common.{◌∙◌}
use Rattle.gl_show.proofs.Voids.{void_found}
use Rattle.gl_show.proofs.stmt.is_void.Goals as goal

pub returns : goal.returns
returns c = c.is_some.ensures ∙ void_found c.find.result _ c.args.tag.now (rw c.void.ensures at c.find.ensures.absent) c.as_str.ensures.value
