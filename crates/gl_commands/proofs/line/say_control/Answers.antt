use Rattle.std.proofs.Common.{codes, ◌++◌, false}
use Rattle.std.specs.Fmt.{digits}
use Rattle.gl_commands.proofs.Saying.{says_more}
use Rattle.gl_commands.proofs.line.say_control.Goals as goal

pub returns : goal.returns
returns g c =
    let code = digits 16 false c.args.character in
    says_more _ _ _ _ _ _ _ _ _ _ _ _ (codes "\\u{") (code ++ codes "}") c.say_ascii-whole.ensures (says_more _ _ _ _ _ _ _ _ _ _ _ _ code (codes "}") c.say_code-whole.ensures c.say_ascii.ensures)
