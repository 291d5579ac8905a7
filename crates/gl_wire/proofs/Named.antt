-- Two blocks or more are named.
use Rattle.std.proofs.Common.{◌≡◌, ◌≤◌, List, [], ◌∷◌, length, false, refl, arith}
use Rattle.gl_wire.specs.Unnamed.{is_unnamed_slots}
use Rattle.gl_wire.specs.View.{seen_slots}
use Rattle.gl_wire.specs.Wire.{slots_of}
use Rattle.gl_wire.specs.declared.stmt.WireSlot.{WireSlot}

pub many_named : (ss : List WireSlot) → 2 ≤ length ss → false ≡ is_unnamed_slots (slots_of (seen_slots ss))
many_named [] h = absurd (omega (arith, h))
many_named (s ∷ []) h = absurd (omega (arith, h))
many_named (s ∷ t ∷ ss) h = refl
