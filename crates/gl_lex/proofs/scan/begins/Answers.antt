use Rattle.std.proofs.Common.{◌∙◌}
use Rattle.gl_lex.proofs.Fronts.{begins_is}
use Rattle.gl_lex.proofs.scan.begins.Goals as goal

pub returns : goal.returns
returns c = c.starts_with.ensures.value ∙ begins_is c.args.front.now c.args.bytes.now
