use Rattle.std.proofs.Common.{rules}
use Rattle.gl_base.proofs.Chars.{chars_of_ascii}
use Rattle.gl_text.proofs.text.Text.push_ascii.Goals as goal

pub returns-clause-ok : goal.returns-clause-ok
returns-clause-ok c = search (rules, chars_of_ascii c.args.text.now c.requires)
