use Rattle.std.proofs.Common.{◌++◌, codes}
use Rattle.gl_value.specs.Quote.{quoted}
use Rattle.gl_commands.proofs.Saying.{says_more}
use Rattle.gl_commands.proofs.ending.say_of_cycle.Goals as goal

pub returns : goal.returns
returns g c =
    let class = c.args.class.now in
    let getter = c.args.getter.now in
    let named = rw c.as_str.ensures.value at c.say-whole.ensures in
    let reached = rw c.as_str-2.ensures.value at c.say-whole-2.ensures in
    says_more _ _ _ _ _ _ _ _ _ _ _ _ (quoted c.args.file.now ++ codes ": getter cycle through ") (class ++ (codes "." ++ (getter ++ codes "\n"))) c.say_of_file-whole.ensures
    (says_more _ _ _ _ _ _ _ _ _ _ _ _ class (codes "." ++ (getter ++ codes "\n")) named
    (says_more _ _ _ _ _ _ _ _ _ _ _ _ (codes ".") (getter ++ codes "\n") c.say_ascii-whole.ensures
    (says_more _ _ _ _ _ _ _ _ _ _ _ _ getter (codes "\n") reached c.say_ascii.ensures)))
