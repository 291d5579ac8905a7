use Rattle.std.proofs.Common.{◌∙◌}
use Rattle.gl_value.proofs.Words.{bytes_eq-word}
use Rattle.gl_value.proofs.property.is_word.Goals as goal

pub returns : goal.returns
returns c = c.eq.ensures ∙ bytes_eq-word c.args.text.now c.args.word.now c.utf8.text c.requires
