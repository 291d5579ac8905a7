use Rattle.std.proofs.Common.{◌≡◌, ◌++◌, drop}
use Rattle.gl_plain.specs.Tags.{attributes_waiting}
use Rattle.gl_vm.specs.View.{Tables}
use Rattle.gl_parts.specs.Parts.{seen_parts, seen_attributes}
use Rattle.gl_parts.proofs.attributes.attributes_of.Given as goal

abbrev pub invariant-loop-part : goal.invariant-loop-part
invariant-loop-part l = (n : Tables) → seen_attributes l.list.items ++ attributes_waiting (seen_parts n (drop l.part-index l.parts)) ≡ attributes_waiting (seen_parts n l.parts)
