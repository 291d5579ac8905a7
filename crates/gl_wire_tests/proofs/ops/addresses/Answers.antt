use Rattle.std.proofs.Common.{[], ◌∷◌}
use Rattle.gl_wire_tests.proofs.ops.addresses.Goals as goal

pub list-requires : goal.list-requires
list-requires g c = (c.in_ok-first.first ∷ c.in_ok-second.second ∷ [], (c.encode.ensures.word, (c.encode-2.ensures.word, tt)))
