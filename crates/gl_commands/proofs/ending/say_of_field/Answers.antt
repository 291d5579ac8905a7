use Rattle.std.proofs.Common.{◌++◌, codes}
use Rattle.std.specs.Prelude.{decimal}
use Rattle.gl_value.specs.Quote.{quoted}
use Rattle.gl_commands.proofs.Saying.{says_more}
use Rattle.gl_commands.proofs.ending.say_of_field.Goals as goal

pub returns : goal.returns
returns g c =
    let name = quoted c.args.name.now in
    let named = rw c.as_str.ensures.value at c.say_quoted-whole.ensures in
    says_more _ _ _ _ _ _ _ _ _ _ _ _ (quoted c.args.file.now ++ codes ": event ") (decimal c.args.index ++ (codes ": unknown field " ++ (name ++ codes "\n"))) c.say_of_file-whole.ensures
    (says_more _ _ _ _ _ _ _ _ _ _ _ _ (decimal c.args.index) (codes ": unknown field " ++ (name ++ codes "\n")) c.say_number-whole.ensures
    (says_more _ _ _ _ _ _ _ _ _ _ _ _ (codes ": unknown field ") (name ++ codes "\n") c.say_ascii-whole.ensures
    (says_more _ _ _ _ _ _ _ _ _ _ _ _ name (codes "\n") named c.say_ascii.ensures)))
