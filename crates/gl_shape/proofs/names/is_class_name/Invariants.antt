use Rattle.std.proofs.Common.{◌≡◌, drop}
use Rattle.gl_meaning.specs.NameTests.{is_class_name}
use Rattle.gl_shape.specs.Places.{ends_at}
use Rattle.gl_shape.proofs.names.is_class_name.Given as goal

-- what is left decides
abbrev pub invariant-loop-b : goal.invariant-loop-b
invariant-loop-b l = ends_at l.place (drop l.b-index l.name) ≡ is_class_name l.name
