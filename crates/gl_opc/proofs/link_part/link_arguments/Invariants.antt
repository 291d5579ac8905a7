use Rattle.std.proofs.Common.{◌≡◌, drop}
use Rattle.gl_wire.specs.View.{seen_pairs}
use Rattle.gl_wire.specs.Wire.{named_of}
use Rattle.gl_opc.specs.Linked.{arguments_linked}
use Rattle.gl_opc.specs.State.{context_view, state_view}
use Rattle.gl_opc.proofs.link_part.link_arguments.Given as goal

-- what is linked so far, with the arguments that are left, is all
abbrev pub invariant-loop-arg : goal.invariant-loop-arg
invariant-loop-arg l =
    arguments_linked (context_view l.context) l.place (named_of (seen_pairs (drop l.arg-index l.arg-items))) (state_view l.out)
    ≡ arguments_linked (context_view l.context) l.place (named_of l.args) (state_view l.initial.out)
