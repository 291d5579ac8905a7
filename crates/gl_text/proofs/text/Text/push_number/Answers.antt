use Rattle.std.proofs.Common.{rules, ◌<◌, ◌^◌, arith, decimal}
use Rattle.std.proofs.lemmas.Str.{chars-IsAscii}
use Rattle.std.proofs.lemmas.Fmt.{IsAscii-decimal_wide}
use Rattle.gl_text.proofs.text.Text.push_number.Goals as goal

pub returns : goal.returns
returns c =
    let small : c.args.number < 10 ^ 64 = omega arith in
    search (rules, chars-IsAscii (decimal c.args.number) (IsAscii-decimal_wide c.args.number small))
