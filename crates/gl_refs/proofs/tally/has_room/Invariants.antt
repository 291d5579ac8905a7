use Rattle.std.proofs.Common.{take}
use Rattle.gl_refs.specs.Forms.{Each, parts}
use Rattle.gl_refs.specs.View.{rows_in, seen_kind}
use Rattle.gl_refs.specs.Counting.{Fits}
use Rattle.gl_refs.proofs.tally.has_room.Given as goal

abbrev pub invariant-loop-at : goal.invariant-loop-at
invariant-loop-at l = Each (Fits (rows_in l.rows) (parts (seen_kind l.kind))) (take l.at (parts (seen_kind l.kind)))
