use Rattle.std.proofs.Common.{codes, refl, ap, ◌∙◌}
use Rattle.std.specs.Str.{bytes_eq}
use Rattle.gl_base.proofs.Chars.{chars_of_ascii}
use Rattle.gl_wire.proofs.unnamed.is_default.Goals as goal

pub returns : goal.returns
returns c = c.is.ensures ∙ ap (λ t. bytes_eq t c.args.name.now) (chars_of_ascii (codes "default") refl)
