use Rattle.std.proofs.Common.{[], ◌∷◌}
use Rattle.gl_wire_tests.proofs.ops.listed.Goals as goal

pub list-requires : goal.list-requires
list-requires c = (c.in-Some.field-0 ∷ [], ((c.decode.ensures.value c.in-Some.field-0).0 c.in-Some.is, tt))
