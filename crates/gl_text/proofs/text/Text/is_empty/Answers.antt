use Rattle.std.proofs.Common.{arith}
use Rattle.std.proofs.lemmas.Grind.{common_steps}
use Rattle.gl_base.proofs.Chars.{empty_chars, chars_empty}
use Rattle.gl_text.proofs.text.Text.is_empty.Goals as goal

pub returns : goal.returns
returns c =
    let bs = c.as_str.result.now in
    let there = empty_chars bs in
    let back = chars_empty bs c.as_str.ensures.utf8 in
    let value = c.as_str.ensures.value in
    grind (arith, common_steps)
