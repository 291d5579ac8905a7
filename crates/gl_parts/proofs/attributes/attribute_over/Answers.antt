use Rattle.std.proofs.Common.{◌∙◌, ap}
use Rattle.gl_meaning.specs.Parts.{joined_texts}
use Rattle.gl_parts.proofs.attributes.attribute_over.Goals as goal

pub returns : goal.returns
returns c n u = c.in_ok-text.ensures ∙ ap joined_texts (c.as_slice.ensures ∙ c.in_ok-texts.ensures n u)
