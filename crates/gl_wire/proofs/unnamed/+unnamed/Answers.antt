use Rattle.std.proofs.Common.{◌≡◌, false, subst}
use Rattle.gl_wire.specs.Unnamed.{is_unnamed_slots}
use Rattle.gl_wire.specs.Wire.{slots_of}
use Rattle.gl_wire.proofs.Named.{many_named}
use Rattle.gl_wire.proofs.unnamed.+unnamed.Goals as goal

pub is_unnamed_slots-returns-in_default : goal.is_unnamed_slots-returns-in_default
is_unnamed_slots-returns-in_default t c = subst (λ ss. false ≡ is_unnamed_slots (slots_of ss)) c.as_slice.ensures (many_named c.as_slice.result.now c.in_default.len_at_least)
