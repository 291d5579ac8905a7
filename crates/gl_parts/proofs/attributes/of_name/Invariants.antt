use Rattle.std.proofs.Common.{◌≡◌, ◌++◌, drop}
use Rattle.std.specs.Prelude.{filter}
use Rattle.std.specs.Str.{bytes_eq}
use Rattle.gl_parts.specs.Parts.{seen_attributes}
use Rattle.gl_parts.proofs.attributes.of_name.Given as goal

abbrev pub invariant-loop-attribute : goal.invariant-loop-attribute
invariant-loop-attribute l = seen_attributes l.list.items ++ filter (λ w. bytes_eq l.name w.0) (seen_attributes (drop l.attribute-index l.attributes)) ≡ filter (λ w. bytes_eq l.name w.0) (seen_attributes l.attributes)
