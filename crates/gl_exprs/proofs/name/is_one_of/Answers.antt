use Rattle.std.proofs.Common.{ap, map, ◌∙◌}
use Rattle.gl_base.specs.Names.{has_text}
use Rattle.gl_exprs.proofs.TokenPieces.{any_word}
use Rattle.gl_exprs.proofs.name.is_one_of.Goals as goal

pub returns : goal.returns
returns c = c.has_bytes.ensures ∙ any_word c.as_str.result.now c.args.words.now c.as_str.utf8 c.requires ∙ ap (λ x. has_text x (map (λ w. w.now) c.args.words.now)) c.as_str.ensures.value
