use Rattle.std.proofs.Common.{rules, false}
use Rattle.std.specs.Fmt.{digits}
use Rattle.std.proofs.lemmas.Str.{chars-IsAscii}
use Rattle.gl_text.proofs.Codes.{hexadecimal_ascii}
use Rattle.gl_text.proofs.text.Text.push_hexadecimal.Goals as goal

pub returns : goal.returns
returns c = search (rules, chars-IsAscii (digits 16 false c.args.code) (hexadecimal_ascii c.args.code c.requires))
