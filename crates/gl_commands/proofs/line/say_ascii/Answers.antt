use Rattle.gl_base.proofs.Chars.{chars_of_ascii}
use Rattle.gl_commands.proofs.line.say_ascii.Goals as goal

pub returns : goal.returns
returns g c = rw (chars_of_ascii c.args.piece.now c.requires) at c.say.ensures
