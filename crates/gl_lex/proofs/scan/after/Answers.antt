use Rattle.gl_lex.proofs.Fronts.{stripped}
use Rattle.gl_lex.proofs.scan.after.Goals as goal

pub returns : goal.returns
returns c = stripped c.strip_prefix.result c.args.front.now c.args.bytes.now c.strip_prefix.ensures.cases
