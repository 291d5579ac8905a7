use Rattle.std.proofs.Common.{◌≡◌, drop}
use Rattle.gl_plain.specs.Tags.{some_waiting_live}
use Rattle.gl_parts.specs.Parts.{seen_attributes}
use Rattle.gl_parts.proofs.attributes.has_live.Given as goal

abbrev pub invariant-loop-attribute : goal.invariant-loop-attribute
invariant-loop-attribute l = some_waiting_live (seen_attributes (drop l.attribute-index l.taken)) ≡ some_waiting_live (seen_attributes l.taken)
