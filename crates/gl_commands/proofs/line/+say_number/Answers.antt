use Rattle.std.proofs.Common.{◌≡◌, ◌+◌, ◌%◌, ◌/◌, ◌∷◌, [], ◌∙◌, decimal, arith}
use Rattle.std.proofs.lemmas.Fmt.{decimal_digit}
use Rattle.gl_commands.proofs.Decimals.{decimal_step, glyph}
use Rattle.gl_commands.proofs.Saying.{says_more}
use Rattle.gl_commands.proofs.line.+say_number.Goals as goal

pub returns-then-number-lt10 : goal.returns-then-number-lt10
returns-then-number-lt10 g t c =
    let digit : c.digit_of.result ≡ 48 + c.args.number = c.digit_of.ensures ∙ glyph c.args.number c.if-number-lt10.true in
    rw (decimal_digit c.args.number c.if-number-lt10.true, ← digit) c.say_char.ensures

pub returns : goal.returns
returns g t c =
    let digit : c.digit_of-2.result ≡ 48 + c.args.number % 10 = c.digit_of-2.ensures ∙ glyph (c.args.number % 10) (omega arith) in
    rw (decimal_step c.args.number c.if-number-lt10.false (omega (arith, c.ranges.number)), ← digit) (says_more _ _ _ _ _ _ _ _ _ _ _ _ (decimal (c.args.number / 10)) (c.digit_of-2.result ∷ []) c.say_number-whole.ensures c.say_char-2.ensures)
