use Rattle.std.proofs.Common.{◌∙◌, rules}
use Rattle.std.specs.Str.{IsUtf8}
use Rattle.gl_value.proofs.Words.{bytes_eq-word}
use Rattle.gl_each.proofs.keying.is_word.Goals as goal

pub returns : goal.returns
returns c =
    let u : IsUtf8 c.args.text.now = search rules in
    c.eq.ensures ∙ bytes_eq-word c.args.text.now c.args.word.now u c.requires
