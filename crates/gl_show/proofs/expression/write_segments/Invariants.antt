use Rattle.std.proofs.Common.{◌≡◌, ◌++◌, drop}
use Rattle.gl_ast.specs.Canon.{segments_text}
use Rattle.gl_show.proofs.expression.write_segments.Given as goal

abbrev pub invariant-loop-segment : goal.invariant-loop-segment
invariant-loop-segment l = l.out ++ segments_text (drop l.segment-index l.segment-items) ≡ l.initial.out ++ segments_text l.segments
