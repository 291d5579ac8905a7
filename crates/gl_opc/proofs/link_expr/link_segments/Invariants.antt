use Rattle.std.proofs.Common.{◌≡◌, drop}
use Rattle.gl_opc.specs.Linked.{segments_linked}
use Rattle.gl_opc.specs.State.{state_view}
use Rattle.gl_opc.proofs.link_expr.link_segments.Given as goal

-- what is linked of the segments so far, with those that are left, is all
abbrev pub invariant-loop-segment : goal.invariant-loop-segment
invariant-loop-segment l = segments_linked (drop l.segment-index l.segment-items) (state_view l.out) ≡ segments_linked l.segments (state_view l.initial.out)
