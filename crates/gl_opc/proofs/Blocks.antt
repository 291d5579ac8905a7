-- A component that is passed a block is not bare.
use Rattle.std.proofs.Common.{◌≡◌, ◌≤◌, ℕ, List, [], ◌∷◌, length, ap, arith}
use Rattle.gl_base.specs.Texts.{Text}
use Rattle.gl_wire.specs.View.{seen_slots}
use Rattle.gl_wire.specs.Wire.{Body, slots_of}
use Rattle.gl_wire.specs.declared.stmt.WireSlot.{WireSlot}
use Rattle.gl_opc.specs.Linked.{State, bare_linked}

pub not_bare : (xs : List WireSlot) (ys : List (Text × (List ℕ × Body))) (s : State) → 1 ≤ length xs → seen_slots xs ≡ ys → s ≡ bare_linked (slots_of ys) s
not_bare [] ys s h e = absurd (omega arith)
not_bare (x ∷ xs) ys s h e = ap (λ zs. bare_linked (slots_of zs) s) e
