use Rattle.gl_commands.proofs.Saying.{says_line}
use Rattle.gl_commands.proofs.ending.say_line.Goals as goal

pub returns : goal.returns
returns g c = says_line _ _ _ _ _ _ _ _ c.say_ending-whole.ensures
