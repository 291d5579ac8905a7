use Rattle.std.proofs.Common.{◌≡◌, ◌++◌, drop}
use Rattle.gl_plain.specs.Tags.{names_waiting}
use Rattle.gl_parts.specs.Parts.{seen_attributes, other_names}
use Rattle.gl_parts.proofs.attributes.names_of.Given as goal

abbrev pub invariant-loop-attribute : goal.invariant-loop-attribute
invariant-loop-attribute l = l.names ++ other_names l.names (names_waiting (seen_attributes (drop l.attribute-index l.attributes))) ≡ names_waiting (seen_attributes l.attributes)
