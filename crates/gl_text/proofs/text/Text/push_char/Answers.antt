use Rattle.std.proofs.Common.{rules}
use Rattle.gl_base.proofs.Chars.{chars-encode}
use Rattle.gl_text.proofs.text.Text.push_char.Goals as goal

pub returns-clause-ok : goal.returns-clause-ok
returns-clause-ok c = search (rules, chars-encode c.args.character c.ranges.character.0)
