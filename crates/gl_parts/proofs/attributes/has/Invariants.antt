use Rattle.std.proofs.Common.{◌≡◌, drop}
use Rattle.gl_base.specs.Names.{has_text}
use Rattle.gl_parts.proofs.attributes.has.Given as goal

abbrev pub invariant-loop-other : goal.invariant-loop-other
invariant-loop-other l = has_text l.name (drop l.other-index l.names) ≡ has_text l.name l.names
