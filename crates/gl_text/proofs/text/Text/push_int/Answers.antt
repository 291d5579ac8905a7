use Rattle.std.proofs.Common.{rules}
use Rattle.std.specs.Str.{IsAscii}
use Rattle.std.specs.Fmt.{signed_decimal}
use Rattle.std.proofs.lemmas.Str.{chars-IsAscii}
use Rattle.std.proofs.lemmas.Fmt.{IsAscii-signed}
use Rattle.gl_text.proofs.text.Text.push_int.Goals as goal

pub returns : goal.returns
returns c =
    let plain : IsAscii (signed_decimal c.args.number) = search (rules, IsAscii-signed) in
    search (rules, chars-IsAscii (signed_decimal c.args.number) plain)
