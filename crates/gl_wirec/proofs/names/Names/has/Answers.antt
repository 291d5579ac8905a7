use Rattle.std.proofs.Common.{◌∙◌}
use Rattle.gl_wirec.proofs.Found.{has_name}
use Rattle.gl_wirec.proofs.names.Names.has.Goals as goal

pub returns : goal.returns
returns c = c.contains.ensures ∙ has_name c.as_str.result.now c.as_str.ensures.utf8 c.self.inside.set.keys _ _ c.as_str.ensures.value c.self.view_is
