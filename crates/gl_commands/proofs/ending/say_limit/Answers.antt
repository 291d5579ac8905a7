use Rattle.std.proofs.Common.{◌++◌, codes}
use Rattle.std.specs.Prelude.{decimal}
use Rattle.gl_commands.proofs.Saying.{says_more}
use Rattle.gl_commands.proofs.ending.say_limit.Goals as goal

pub returns : goal.returns
returns g c =
    says_more _ _ _ _ _ _ _ _ _ _ _ _ (codes "turn ") (decimal c.args.turn ++ (codes ": nesting limit " ++ (decimal c.args.limit ++ codes "\n"))) c.say_ascii-whole.ensures
    (says_more _ _ _ _ _ _ _ _ _ _ _ _ (decimal c.args.turn) (codes ": nesting limit " ++ (decimal c.args.limit ++ codes "\n")) c.say_number-whole.ensures
    (says_more _ _ _ _ _ _ _ _ _ _ _ _ (codes ": nesting limit ") (decimal c.args.limit ++ codes "\n") c.say_ascii-whole-2.ensures
    (says_more _ _ _ _ _ _ _ _ _ _ _ _ (decimal c.args.limit) (codes "\n") c.say_number-whole-2.ensures c.say_ascii.ensures)))
