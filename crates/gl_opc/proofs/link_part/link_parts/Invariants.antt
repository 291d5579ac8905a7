use Rattle.std.proofs.Common.{◌≡◌, drop}
use Rattle.gl_wire.specs.View.{seen_parts}
use Rattle.gl_opc.specs.Linked.{parts_linked}
use Rattle.gl_opc.specs.State.{context_view, state_view}
use Rattle.gl_opc.proofs.link_part.link_parts.Given as goal

-- what is linked so far, with the parts that are left, is all
abbrev pub invariant-loop-part : goal.invariant-loop-part
invariant-loop-part l =
    parts_linked (context_view l.context) l.place (seen_parts (drop l.part-index l.part-items)) (state_view l.out)
    ≡ parts_linked (context_view l.context) l.place l.parts (state_view l.initial.out)
