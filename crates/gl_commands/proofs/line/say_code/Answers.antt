use Rattle.std.proofs.Common.{◌≤◌, ◌∷◌, [], false, arith}
use Rattle.std.proofs.lemmas.Fmt.{hex_one_digit, hex_two_digits}
use Rattle.gl_commands.proofs.Saying.{says_more}
use Rattle.gl_commands.proofs.line.say_code.Goals as goal

pub returns-then-code-lt16 : goal.returns-then-code-lt16
returns-then-code-lt16 g c = rw (hex_one_digit false c.args.code c.if-code-lt16.true, ← c.digit_of.ensures) c.say_char.ensures

pub returns : goal.returns
returns g c =
    let large : 16 ≤ c.args.code = c.if-code-lt16.false in
    let small = hex_two_digits false c.args.code large (omega arith) in
    rw (small, ← c.digit_of-2.ensures, ← c.digit_of-3.ensures) (says_more _ _ _ _ _ _ _ _ _ _ _ _ (c.digit_of-2.result ∷ []) (c.digit_of-3.result ∷ []) c.say_char-whole.ensures c.say_char-2.ensures)
