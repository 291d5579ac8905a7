use Rattle.std.proofs.Common.{◌≡◌, ◌++◌, drop}
use Rattle.gl_plain.specs.Tags.{given_pairs}
use Rattle.gl_parts.specs.Parts.{seen_attributes, texts_given}
use Rattle.gl_parts.proofs.attributes.fixed_texts.Given as goal

abbrev pub invariant-loop-attribute : goal.invariant-loop-attribute
invariant-loop-attribute l = l.texts ++ texts_given (given_pairs (seen_attributes (drop l.attribute-index l.taken))) ≡ texts_given (given_pairs (seen_attributes l.taken))
