use Rattle.gl_code.proofs.HelperNames.{number_named}
use Rattle.gl_code.proofs.words.helper_at.Goals as goal

pub returns : goal.returns
returns c = number_named c.args.helper c.if-helper.false
